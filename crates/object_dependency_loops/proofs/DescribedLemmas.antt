-- Nodes for the services that blocks list by hosts and descriptions.
use Rattle.std.proofs.Common.{◌≡◌, ℕ, zero, suc, ◌+◌, ◌<◌, ◌≤◌, ◌^◌, Bool, true, false, cond, ◌&&◌, List, [], ◌∷◌, ◌++◌, length, map, get_or, Option, Some, None, refl, sym, ap, subst, eqb, eqb-true, ◌∙◌, ◌⊎◌, inl, inr, ⊎_elim, arith}
use Rattle.std.specs.Prelude.{All, Contains, IfSome, slice_get, ◌↔◌}
use Rattle.std.specs.Map.{lookup}
use Rattle.std.proofs.lemmas.Bool.{and_parts}
use Rattle.std.proofs.lemmas.List.Elements.{All-contains, All-from_get_or, Contains-append_cases, Contains-append_left, Contains-append_right, Contains-get_or}
use Rattle.graph.specs.declared.edges.Edge.{Edge}
use Rattle.graph.specs.claims.Chains.{Reaches}
use Rattle.graph.specs.Edges.{IsWithin}
use Rattle.graph_rules.specs.Rules.{IsOfRule}
use Rattle.lemmas.proofs.Edges.{edges-more}
use Rattle.lemmas.proofs.Elements.{Contains-cases, Contains-from_map, Contains-here, Contains-map, Contains-none}
use Rattle.object_dependencies.specs.Pairs.{BlocksOf}
use Rattle.object_groups.specs.declared.lists.Direction.TheVariants.{ToNames}
use Rattle.object_groups.specs.ListEdges.{between, edge, IsEdge, LeadOver, list_edges}
use Rattle.object_groups.specs.NodeLaws.{edge-from, edge-to}
use Rattle.object_groups.specs.claims.Objects.{names_in}
use Rattle.object_groups.specs.ReachLaws.{lead-none, list-edge}
use Rattle.object_listing.specs.Listing.{Adds}
use Rattle.object_reached.specs.Alike.{HaveLists, ListPlaces, places_eq}
use Rattle.object_reached.specs.AlikeLaws.{listed-alike}
use Rattle.object_reached.specs.claims.Listed.{IsDescribed, is_named, ServiceDirectives}
use Rattle.object_reader.specs.declared.block.Block.{Block}
use Rattle.object_reader.specs.declared.block.BlockKind.TheVariants.{Host, Service}
use Rattle.object_services.specs.claims.Numbers.{Pair, pairs_of}
use Rattle.object_dependency_loops.specs.Base.{host_count, service_count}
use Rattle.object_dependency_loops.specs.Described.{AreFound, Describes, IsNodeOf}
use Rattle.object_dependency_loops.specs.Speech.{AddsSpeech, AreLinked, Speaks}
use Rattle.object_dependency_loops.proofs.ReachLemmas.{nodes-over, nodes-reach}

-- ---- blocks with the same lists

module _ (b : BlocksOf) (directives : ServiceDirectives) where
  pub describes-same : (one other : ℕ) (others : ListPlaces) → HaveLists b.blocks directives one others → HaveLists b.blocks directives other others → (object : ℕ)
      → Describes b directives one object → Describes b directives other object
  describes-same one other others of_one of_other object (service, is, (host, description, there, listed, has)) = (
    service,
    is,
    (
      host,
      description,
      there,
      listed-alike b.blocks directives one other others of_one of_other host listed,
      subst (λ (entries : List (List ℕ)). is_named entries description ≡ true) (sym of_one.descriptions ∙ of_other.descriptions) has,
    ),
  )

-- a service that is described is there
service-there : (services : List Pair) (service : ℕ) (pair : Pair) → slice_get services service ≡ Some pair → service < length services
service-there [] service pair none = cc
service-there (x ∷ services) zero pair is = omega arith
service-there (x ∷ services) (suc service) pair is = let low = service-there services service pair is in omega (arith, low)

pub described-below : (services : List Pair) (blocks : List Block) (directives : ServiceDirectives) (place service : ℕ) → IsDescribed blocks services directives place service → service < length services
described-below services blocks directives place service (host, description, there, listed, has) = service-there services service (host, description) there

-- ---- a link more

module _ (blocks objects bound next place node : ℕ) (old new links more : List Edge) (are : AreLinked blocks objects bound old links) (low : place < blocks) (here : node < next)
    (over : LeadOver bound old next new) (linked : more ≡ links ++ edge place node ∷ []) where
  link_within : (from to : ℕ) → Contains more (edge from to) → IsOfRule blocks next (edge from to)
  link_within from to at = ⊎_elim
      (λ (first : Contains links (edge from to)).
      let of = All-contains (IsOfRule blocks bound) links (edge from to) are.linked first in
      let few = of.node in
      let less = over.more in
      record { rule = of.rule; node = omega (arith, few, less) })
      (λ (last : Contains (edge place node ∷ []) (edge from to)). ⊎_elim
      (λ (same : edge place node ≡ edge from to).
      let start = edge-from place node from to same in
      let end = edge-to place node from to same in
      record { rule = omega (arith, start, low); node = omega (arith, end, here) })
      (λ (none : Contains [] (edge from to)). absurd (Contains-none (edge from to) none))
      (Contains-cases (edge place node) (edge from to) [] last))
      (Contains-append_cases links (edge place node ∷ []) (edge from to) (subst (λ (es : List Edge). Contains es (edge from to)) linked at))

  pub adds-one : (By : (place object : ℕ) → Type 0) → ((object : ℕ) → object < objects → Reaches (IsEdge new) node object ↔ By place object)
      → AddsSpeech blocks objects bound next old new links more (place ∷ []) By
  adds-one By says = record {
    over = over;
    linked = All-from_get_or (IsOfRule blocks next) more (edge 0 0)
        (λ i few. link_within (get_or more i (edge 0 0)).from (get_or more i (edge 0 0)).to (Contains-get_or more i (edge 0 0) few));
    exactly = λ at object there. ((λ speaks. to at object there speaks), (λ either. from at object there either));
  }
    where
      to : (at object : ℕ) → object < objects → Speaks more new at object → Speaks links old at object ⊎ (Contains (place ∷ []) at × By at object)
      to at object there (other, linked_to, reaches) =
          let enough = are.few in
          ⊎_elim
          (λ (first : Contains links (edge at other)).
          let of = All-contains (IsOfRule blocks bound) links (edge at other) are.linked first in
          inl (other, first, (over.same other object of.node (omega (arith, there, enough))).0 reaches))
          (λ (last : Contains (edge place node ∷ []) (edge at other)). ⊎_elim
          (λ (same : edge place node ≡ edge at other).
          let start = edge-from place node at other same in
          let end = edge-to place node at other same in
          inr (
            subst (λ (p : ℕ). Contains (place ∷ []) p) (sym start) (Contains-here place []),
            subst (λ (p : ℕ). By p object) (sym start)
                ((says object there).0 (subst (λ (n : ℕ). Reaches (IsEdge new) n object) end reaches)),
          ))
          (λ (none : Contains [] (edge at other)). absurd (Contains-none (edge at other) none))
          (Contains-cases (edge place node) (edge at other) [] last))
          (Contains-append_cases links (edge place node ∷ []) (edge at other) (subst (λ (es : List Edge). Contains es (edge at other)) linked linked_to))

      from : (at object : ℕ) → object < objects → Speaks links old at object ⊎ (Contains (place ∷ []) at × By at object) → Speaks more new at object
      from at object there (inl (other, linked_to, reaches)) =
          let enough = are.few in
          let of = All-contains (IsOfRule blocks bound) links (edge at other) are.linked linked_to in (
            other,
            subst (λ (es : List Edge). Contains es (edge at other)) (sym linked) (Contains-append_left links (edge place node ∷ []) (edge at other) linked_to),
            (over.same other object of.node (omega (arith, there, enough))).1 reaches,
          )
      from at object there (inr (on, by)) = ⊎_elim
          (λ (same : place ≡ at). (
            node,
            subst (λ (p : ℕ). Contains more (edge p node)) same (subst (λ (es : List Edge). Contains es (edge place node)) (sym linked)
                (Contains-append_right links (edge place node ∷ []) (edge place node) (Contains-here (edge place node) []))),
            (says object there).1 (subst (λ (p : ℕ). By p object) (sym same) by),
          ))
          (λ (none : Contains [] at). absurd (Contains-none at none))
          (Contains-cases place at [] on)

-- ---- what was found

module _ (b : BlocksOf) (directives : ServiceDirectives) (objects : ℕ) where
  node-over : (count next : ℕ) (old new : List Edge) (others : ListPlaces) (node : ℕ) → objects ≤ count → LeadOver count old next new → IsNodeOf b directives objects count old others node
      → IsNodeOf b directives objects next new others node
  node-over count next old new others node few over is =
      let low = is.low in
      let less = over.more in
      record {
        low = omega (arith, low, less);
        each = λ place object of there.
            let same = over.same node object low (omega (arith, there, few)) in
            let says = is.each place object of there in
            ((λ reaches. says.0 (same.0 reaches)), (λ said. same.1 (says.1 said)));
      }

  found-over : (count next : ℕ) (old new : List Edge) (others : ListPlaces) (kept : Option ℕ) → objects ≤ count → LeadOver count old next new
      → IfSome kept (IsNodeOf b directives objects count old others) → IfSome kept (IsNodeOf b directives objects next new others)
  found-over count next old new others None few over is = tt
  found-over count next old new others (Some node) few over is = node-over count next old new others node few over is

  -- a node more
  pub found-more : (count next : ℕ) (old new : List Edge) (entries more : List (ListPlaces × ℕ)) (others : ListPlaces) (node : ℕ) → objects ≤ count → LeadOver count old next new
      → AreFound b directives objects count old entries → IsNodeOf b directives objects next new others node
      → ((other : ListPlaces) → lookup (places_eq other) more ≡ cond (places_eq others other) (Some node) (lookup (places_eq other) entries))
      → AreFound b directives objects next new more
  found-more count next old new entries more others node few over found is updates other =
      subst (λ (kept : Option ℕ). IfSome kept (IsNodeOf b directives objects next new other)) (sym (updates other)) (by_key (places_eq others other) refl)
    where
      by_key : (same : Bool) → places_eq others other ≡ same → IfSome (cond same (Some node) (lookup (places_eq other) entries)) (IsNodeOf b directives objects next new other)
      by_key true same =
          let both = and_parts (eqb others.0.0 other.0.0 && eqb others.0.1 other.0.1) (eqb others.1 other.1) same in
          let hosts = and_parts (eqb others.0.0 other.0.0) (eqb others.0.1 other.0.1) both.0 in
          subst (λ (third : ℕ). IsNodeOf b directives objects next new (other.0, third) node) (eqb-true others.1 other.1 both.1)
          (subst (λ (second : ℕ). IsNodeOf b directives objects next new ((other.0.0, second), others.1) node) (eqb-true others.0.1 other.0.1 hosts.1)
          (subst (λ (first : ℕ). IsNodeOf b directives objects next new ((first, others.0.1), others.1) node) (eqb-true others.0.0 other.0.0 hosts.0) is))
      by_key false differs = found-over count next old new other (lookup (places_eq other) entries) few over (found other)

-- ---- one block

module _ (b : BlocksOf) (directives : ServiceDirectives) (place bound : ℕ) (old links : List Edge) (others : ListPlaces) (are : AreLinked (length b.blocks) (host_count b + service_count b) bound old links)
    (low : place < length b.blocks) (of : HaveLists b.blocks directives place others) (entries : List (ListPlaces × ℕ))
    (found : AreFound b directives (host_count b + service_count b) bound old entries) where
  abbrev objects : ℕ
  objects = host_count b + service_count b

  -- one with others that were found
  pub block-found : (node : ℕ) (more : List Edge) → lookup (places_eq others) entries ≡ Some node → more ≡ links ++ edge place node ∷ []
      → AddsSpeech (length b.blocks) objects bound bound old old links more (place ∷ []) (Describes b directives)
  block-found node more is linked =
      let kept = subst (λ (one : Option ℕ). IfSome one (IsNodeOf b directives objects bound old others)) is (found others) in
      adds-one (length b.blocks) objects bound bound place node old old links more are low kept.low (lead-none bound old are.within) linked (Describes b directives)
      (λ object there. kept.each place object of there)

  -- one with others
  module _ (next first : ℕ) (new more : List Edge) (services given_services : List ℕ) (pairs : List Pair) (next_is : next ≡ bound + 1) (first_is : first ≡ host_count b)
      (pairs_are : pairs ≡ pairs_of (names_in b.blocks Service) b.lists) (described : Adds (IsDescribed b.blocks pairs directives place) [] services) (same : given_services ≡ services)
      (new_is : new ≡ old ++ map (between ToNames bound) (map (λ service. first + service) given_services)) (linked : more ≡ links ++ edge place bound ∷ []) where
    abbrev ends : ℕ → List ℕ
    ends k = map (λ service. first + service) services

    describes-to : (x : ℕ) → Contains services x → IsDescribed b.blocks (pairs_of (names_in b.blocks Service) b.lists) directives place x
    describes-to x at = subst (λ (ps : List Pair). IsDescribed b.blocks ps directives place x) pairs_are (⊎_elim
        (λ (none : Contains [] x). absurd (Contains-none x none))
        (λ (is : IsDescribed b.blocks pairs directives place x). is)
        ((described x).0 at))

    describes-from : (x : ℕ) → IsDescribed b.blocks (pairs_of (names_in b.blocks Service) b.lists) directives place x → Contains services x
    describes-from x is = (described x).1 (inr (subst (λ (ps : List Pair). IsDescribed b.blocks ps directives place x) (sym pairs_are) is))

    ends-below : (k x : ℕ) → k < 1 → Contains (ends k) x → x < bound
    ends-below k x few at =
        let on = Contains-from_map (λ service. first + service) services x at in
        let is = on.2 in
        let within = described-below (pairs_of (names_in b.blocks Service) b.lists) b.blocks directives place on.0 (describes-to on.0 on.1) in
        let enough = are.few in
        omega (arith, is, within, enough, first_is)

    made : new ≡ old ++ list_edges ToNames bound 1 ends
    made = edges-more (λ k. map (between ToNames (bound + k)) (ends k)) old 0 old new (map (between ToNames bound) (map (λ service. first + service) given_services))
        (sym (append-nothing old)) new_is
        (ap (λ (ss : List ℕ). map (between ToNames bound) (map (λ service. first + service) ss)) same
        ∙ ap (λ (n : ℕ). map (between ToNames n) (map (λ service. first + service) services)) (plus-none bound))
      where
        plus-none : (n : ℕ) → n ≡ n + 0
        plus-none n = omega arith

        append-nothing : (es : List Edge) → es ++ [] ≡ es
        append-nothing [] = refl
        append-nothing (e ∷ es) = ap (λ (more : List Edge). e ∷ more) (append-nothing es)

    edges-within : All (IsWithin (bound + 1)) (old ++ list_edges ToNames bound 1 ends)
    edges-within = All-from_get_or (IsWithin (bound + 1)) (old ++ list_edges ToNames bound 1 ends) (edge 0 0)
        (λ i few. within_at (get_or (old ++ list_edges ToNames bound 1 ends) i (edge 0 0)) (Contains-get_or (old ++ list_edges ToNames bound 1 ends) i (edge 0 0) few))
      where
        within_at : (e : Edge) → Contains (old ++ list_edges ToNames bound 1 ends) e → IsWithin (bound + 1) e
        within_at e at = ⊎_elim
            (λ (first : Contains old e). let both = All-contains (IsWithin bound) old e are.within first in
            let from = both.from in let to = both.to in record { from = omega (arith, from); to = omega (arith, to) })
            (λ (last : Contains (list_edges ToNames bound 1 ends) e). one_more e last)
            (Contains-append_cases old (list_edges ToNames bound 1 ends) e at)
          where
            one_more : (e : Edge) → Contains (list_edges ToNames bound 1 ends) e → IsWithin (bound + 1) e
            one_more e last =
                let on = list-edge ToNames bound 1 ends e.from e.to last in
                let start = on.2 in
                let few = on.1 in
                let end = ends-below on.0 e.to on.1 on.3 in
                record { from = omega (arith, start, few); to = omega (arith, end) }

    over_made : LeadOver (bound + 1) (old ++ list_edges ToNames bound 1 ends) (bound + 1) new
    over_made = subst (λ (es : List Edge). LeadOver (bound + 1) (old ++ list_edges ToNames bound 1 ends) (bound + 1) es) (sym made)
        (lead-none (bound + 1) (old ++ list_edges ToNames bound 1 ends) edges-within)

    over_old : LeadOver bound old next new
    over_old = subst (λ (n : ℕ). LeadOver bound old n new) (sym next_is) (nodes-over bound 1 ends old are.within ends-below (bound + 1) new over_made)

    reach_new : (object : ℕ) → object < objects → Reaches (IsEdge new) bound object ↔ Describes b directives place object
    reach_new object there =
        let enough = are.few in
        let below : object < bound = omega (arith, there, enough) in
        let on = nodes-reach bound 1 ends old are.within ends-below (bound + 1) new over_made 0 object (omega arith) below in
        let sum : bound + 0 ≡ bound = omega arith in (
          (λ (reaches : Reaches (IsEdge new) bound object).
              let some = on.0 (subst (λ (n : ℕ). Reaches (IsEdge new) n object) (sym sum) reaches) in
              let at = Contains-from_map (λ service. first + service) services some.0 some.1 in
              let is = at.2 in
              let within = described-below (pairs_of (names_in b.blocks Service) b.lists) b.blocks directives place at.0 (describes-to at.0 at.1) in
              let same_object : some.0 ≡ object = are.apart some.0 object (omega (arith, is, within, first_is)) there some.2 in
              (at.0, omega (arith, same_object, is, first_is), describes-to at.0 at.1)),
          (λ (says : Describes b directives place object).
              subst (λ (n : ℕ). Reaches (IsEdge new) n object) sum
              (on.1 (
                object,
                subst (λ (n : ℕ). Contains (map (λ service. first + service) services) n) (let at = says.1 in omega (arith, at, first_is))
                    (Contains-map (λ service. first + service) services says.0 (describes-from says.0 says.2)),
                (0, refl),
              ))),
        )

    pub block-added : AddsSpeech (length b.blocks) objects bound next old new links more (place ∷ []) (Describes b directives)
    block-added =
        adds-one (length b.blocks) objects bound next place bound old new links more are low (omega (arith, next_is)) over_old linked (Describes b directives) reach_new

    pub block-is_found : (grown : List (ListPlaces × ℕ)) → ((other : ListPlaces) → lookup (places_eq other) grown ≡ cond (places_eq others other) (Some bound) (lookup (places_eq other) entries))
        → AreFound b directives objects next new grown
    block-is_found grown updates =
        found-more b directives objects bound next old new entries grown others bound are.few over_old found (record {
          low = omega (arith, next_is);
          each = λ other object of_other there.
              let on = reach_new object there in (
                (λ reaches. describes-same b directives place other others of of_other object (on.0 reaches)),
                (λ says. on.1 (describes-same b directives other place others of_other of object says)),
              );
        }) updates

-- services are few
pub services-few : (b : BlocksOf) (directives : ServiceDirectives) (place first : ℕ) (services given_services : List ℕ) (pairs : List Pair) → first ≡ host_count b
    → pairs ≡ pairs_of (names_in b.blocks Service) b.lists → Adds (IsDescribed b.blocks pairs directives place) [] services → given_services ≡ services
    → length (names_in b.blocks Host) + length pairs < 2 ^ 32 → All (λ service. first + service < 2 ^ 32) given_services
services-few b directives place first services given_services pairs first_is pairs_are described same few =
    subst (λ (ss : List ℕ). All (λ service. first + service < 2 ^ 32) ss) (sym same)
    (All-from_get_or (λ service. first + service < 2 ^ 32) services 0 (λ i low.
    let low_at = ⊎_elim
    (λ (none : Contains [] (get_or services i 0)). absurd (Contains-none (get_or services i 0) none))
    (λ (is : IsDescribed b.blocks pairs directives place (get_or services i 0)). described-below pairs b.blocks directives place (get_or services i 0) is)
    ((described (get_or services i 0)).0 (Contains-get_or services i 0 low)) in
    omega (arith, low_at, first_is, few)))
