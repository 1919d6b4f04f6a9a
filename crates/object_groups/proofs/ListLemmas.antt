-- What lists are, and the edges of lists by their parts: one list more, and that they stand for those of whole lists.
use Rattle.std.proofs.Common.{◌≡◌, ℕ, ◌+◌, ◌<◌, ◌≤◌, Bool, true, false, cond, List, [], ◌∷◌, ◌++◌, append_assoc, length, length-take-le, map, take, get_or, Option, Some, None, sym, ap, subst, ◌∙◌, inl, inr, ⊎_elim, arith}
use Rattle.std.specs.Prelude.{All, Contains, IfSome, slice_get}
use Rattle.std.specs.Option.{option_map_or, option_to_list}
use Rattle.std.proofs.lemmas.List.{append-nil, length-map, map-append, take_more}
use Rattle.std.proofs.lemmas.List.Elements.{Contains-append_cases, Contains-append_left, Contains-append_right, filter_map-append}
use Rattle.std.proofs.lemmas.Option.{slice_get-get_or}
use Rattle.graph.specs.declared.edges.Edge.{Edge}
use Rattle.graph.specs.Edges.{IsWithin}
use Rattle.lemmas.proofs.Elements.{Contains-cases, Contains-from_map, Contains-here, Contains-none}
use Rattle.lemmas.proofs.Lists.{some_at}
use Rattle.object_groups.specs.declared.lists.ListKind.{ListKind}
use Rattle.object_groups.specs.declared.lists.ListNodes.{ListNodes}
use Rattle.object_groups.specs.declared.shared.Parts.{Parts}
use Rattle.object_groups.specs.declared.shared.SharedList.{SharedList}
use Rattle.object_groups.specs.ListEdges.{Begins, edges_at, inner_nodes, kind_of, LeadOver, list_edges, named, node_of_all, nodes_at, nodes_by, part_nodes, shared_nodes, top_nodes}
use Rattle.object_groups.specs.claims.Names.{is_all, number_of, numbers_of}
use Rattle.object_groups.specs.ObjectLaws.{numbers-within}
use Rattle.object_groups.specs.claims.Objects.{list_at}
use Rattle.object_groups.specs.ReachLaws.{InParts, lead-over, OfList, StandFor}
use Rattle.object_groups.specs.SharedLaws.{before-taken, below-less, below-taken, shared-at, whole-at, whole-is, wholes-long}
use Rattle.object_groups.specs.Shared.{AreShared, AreSharedLists, list_before, nearest_at, wholes_of}
use Rattle.object_reader.specs.declared.block.Block.{Block}

-- ---- what lists are

-- one list more
kinds-more : (wholes : List (List (List ℕ))) (i : ℕ) (kinds more : List ListKind) (kind : ListKind) (entries : List (List ℕ)) → i < length wholes → kinds ≡ map kind_of (take i wholes)
    → kind ≡ kind_of entries → entries ≡ get_or wholes i [] → more ≡ kinds ++ kind ∷ [] → more ≡ map kind_of (take (i + 1) wholes)
kinds-more wholes i kinds more kind entries low before is are all =
    all ∙ ap (λ (ks : List ListKind). ks ++ kind ∷ []) before ∙ ap (λ (k : ListKind). map kind_of (take i wholes) ++ k ∷ []) (is ∙ ap kind_of are)
    ∙ sym (ap (map kind_of) (take_more wholes i [] low) ∙ map-append kind_of (take i wholes) (get_or wholes i [] ∷ []))

module _ (blocks : List Block) (directive : List ℕ) (lists : List SharedList) (shared : AreSharedLists blocks directive lists) where
  taken-long : (i : ℕ) (kinds : List ListKind) → i < length lists → kinds ≡ map kind_of (take i (wholes_of blocks directive lists)) → length kinds ≡ i
  taken-long i kinds low before =
      let wholes = wholes_of blocks directive lists in
      let long = wholes-long blocks directive lists in
      ap (λ (ks : List ListKind). length ks) before ∙ length-map (take i wholes) kind_of ∙ length-take-le i wholes (omega (arith, low, long))

  pub kinds-before : (i : ℕ) (d : SharedList) (kinds given : List ListKind) → i < length lists → kinds ≡ map kind_of (take i (wholes_of blocks directive lists)) → given ≡ kinds
      → IfSome (get_or lists i d).before (λ k. k < length given)
  kinds-before i d kinds given low before same =
      below-taken (get_or lists i d).before i (length given) (sym (ap (λ (ks : List ListKind). length ks) same ∙ taken-long i kinds low before)) (shared-at blocks directive lists shared i d low).before

  pub kinds-on : (i : ℕ) (d : SharedList) (kinds more given : List ListKind) (front kind : ListKind) (own : List (List ℕ)) → i < length lists
      → kinds ≡ map kind_of (take i (wholes_of blocks directive lists)) → given ≡ kinds
      → ((wholes : List (List (List ℕ))) → given ≡ map kind_of wholes → front ≡ kind_of (list_before wholes (get_or lists i d).before))
      → ((entries : List (List ℕ)) → front ≡ kind_of entries → kind ≡ kind_of (entries ++ own))
      → own ≡ nearest_at blocks directive (get_or lists i d).place → more ≡ kinds ++ kind ∷ []
      → more ≡ map kind_of (take (i + 1) (wholes_of blocks directive lists))
  kinds-on i d kinds more given front kind own low before same front_is kind_is own_is all =
      let wholes = wholes_of blocks directive lists in
      let list = get_or lists i d in
      let long = wholes-long blocks directive lists in
      let one = shared-at blocks directive lists shared i d low in
      kinds-more wholes i kinds more kind (list_before (take i wholes) list.before ++ own) (omega (arith, low, long)) before
      (kind_is (list_before (take i wholes) list.before) (front_is (take i wholes) (same ∙ before)))
      (ap (λ entries. entries ++ own) (before-taken wholes i list.before one.before) ∙ ap (λ entries. list_before wholes list.before ++ entries) own_is
      ∙ sym one.entries ∙ sym (whole-at blocks directive lists i d low))
      all

-- ---- what a refusal leaves

pub begins-itself : (edges : List Edge) → Begins edges edges
begins-itself edges = record { more = []; are = sym (append-nil edges) }

pub begins-on : (start old new more : List Edge) → old ≡ start ++ more → Begins old new → Begins start new
begins-on start old new more is begins = record {
  more = more ++ begins.more;
  are = begins.are ∙ ap (λ (edges : List Edge). edges ++ begins.more) is ∙ append_assoc start more begins.more;
}

-- ---- the edges of one list more

pub inner-is : (names : List (List ℕ)) (blocks : List Block) (directive : List ℕ) (nodes : ListNodes) (lists : List SharedList) (j : ℕ) (d : SharedList) → j < length lists
    → inner_nodes names blocks directive nodes lists j ≡ shared_nodes names blocks directive nodes (get_or lists j d)
inner-is names blocks directive nodes lists j d low =
    ap (λ (found : Option SharedList). option_map_or (shared_nodes names blocks directive nodes) found []) (slice_get-get_or lists j d low)

pub top-is : (names : List (List ℕ)) (blocks : List Block) (directive : List ℕ) (nodes : ListNodes) (places : List ℕ) (parts : List Parts) (k place : ℕ) (one d : Parts) → k < length parts
    → one ≡ get_or parts k d → place ≡ get_or places k 0 → top_nodes names blocks directive nodes places parts k ≡ nodes_by names blocks directive nodes place one
top-is names blocks directive nodes places parts k place one d low is at =
    ap (λ (found : Option Parts). option_map_or (nodes_by names blocks directive nodes (get_or places k 0)) found []) (slice_get-get_or parts k d low)
    ∙ ap (nodes_by names blocks directive nodes (get_or places k 0)) (sym is)
    ∙ ap (λ (p : ℕ). nodes_by names blocks directive nodes p one) (sym at)

pub kinds-long : (blocks : List Block) (directive : List ℕ) (lists : List SharedList) (kinds : List ListKind) (before : Option ℕ) → kinds ≡ map kind_of (wholes_of blocks directive lists)
    → IfSome before (λ k. k < length (wholes_of blocks directive lists)) → IfSome before (λ k. k < length kinds)
kinds-long blocks directive lists kinds before are low =
    below-taken before (length (wholes_of blocks directive lists)) (length kinds) (sym (ap (λ (ks : List ListKind). length ks) are ∙ length-map (wholes_of blocks directive lists) kind_of)) low

-- ---- parts stand for whole lists

module _ (names : List (List ℕ)) (first count : ℕ) (wholes : List (List (List ℕ))) where
  abbrev numbers_at : List (List ℕ) → List ℕ
  numbers_at entries = map (λ number. first + number) (numbers_of names entries)

  abbrev pub whole_nodes : ℕ → List ℕ
  whole_nodes j = numbers_at (get_or wholes j [])

  joined : (one other : List (List ℕ)) → numbers_at (one ++ other) ≡ numbers_at one ++ numbers_at other
  joined one other = ap (map (λ number. first + number)) (filter_map-append (number_of names) one other) ∙ map-append (λ number. first + number) (numbers_of names one) (numbers_of names other)

  in-front : (list front own : List (List ℕ)) (y : ℕ) → list ≡ front ++ own → Contains (numbers_at front) y → Contains (numbers_at list) y
  in-front list front own y is at =
      subst (λ ys. Contains ys y) (sym (ap numbers_at is ∙ joined front own)) (Contains-append_left (numbers_at front) (numbers_at own) y at)

  in-own : (list front own : List (List ℕ)) (y : ℕ) → list ≡ front ++ own → Contains (numbers_at own) y → Contains (numbers_at list) y
  in-own list front own y is at =
      subst (λ ys. Contains ys y) (sym (ap numbers_at is ∙ joined front own)) (Contains-append_right (numbers_at front) (numbers_at own) y at)

  from-before : (list own : List (List ℕ)) (before : Option ℕ) (bound x : ℕ) → list ≡ list_before wholes before ++ own → IfSome before (λ k. k < bound)
      → Contains (map (λ number. count + number) (option_to_list before)) x → OfList count bound whole_nodes (numbers_at list) x
  from-before list own None bound x is low at = absurd (Contains-none x at)
  from-before list own (Some r) bound x is low at = ⊎_elim
      (λ (here : count + r ≡ x). inr (r, low, sym here, (λ y on. in-front list (get_or wholes r []) own y is on)))
      (λ (none : Contains [] x). absurd (Contains-none x none))
      (Contains-cases (count + r) x [] at)

  parts-only : (list own : List (List ℕ)) (before : Option ℕ) (bound x : ℕ) → list ≡ list_before wholes before ++ own → IfSome before (λ k. k < bound)
      → Contains (part_nodes names own None before first count) x → OfList count bound whole_nodes (numbers_at list) x
  parts-only list own before bound x is low at = ⊎_elim
      (λ (mine : Contains (numbers_at own) x). inl (in-own list (list_before wholes before) own x is mine))
      (λ (other : Contains (map (λ number. count + number) (option_to_list before)) x). from-before list own before bound x is low other)
      (Contains-append_cases (numbers_at own) (map (λ number. count + number) (option_to_list before)) x at)

  to-before : (own : List (List ℕ)) (before : Option ℕ) (bound y : ℕ) → IfSome before (λ k. k < bound) → Contains (numbers_at (list_before wholes before)) y
      → InParts count bound whole_nodes (part_nodes names own None before first count) y
  to-before own None bound y low at = absurd (Contains-none y at)
  to-before own (Some r) bound y low at = inr (r, low, Contains-append_right (numbers_at own) ((count + r) ∷ []) (count + r) (Contains-here (count + r) []), at)

  parts-each : (list own : List (List ℕ)) (before : Option ℕ) (bound y : ℕ) → list ≡ list_before wholes before ++ own → IfSome before (λ k. k < bound)
      → Contains (numbers_at list) y → InParts count bound whole_nodes (part_nodes names own None before first count) y
  parts-each list own before bound y is low at = ⊎_elim
      (λ (front : Contains (numbers_at (list_before wholes before)) y). to-before own before bound y low front)
      (λ (mine : Contains (numbers_at own) y). inl (Contains-append_left (numbers_at own) (map (λ number. count + number) (option_to_list before)) y mine))
      (Contains-append_cases (numbers_at (list_before wholes before)) (numbers_at own) y (subst (λ ys. Contains ys y) (ap numbers_at is ∙ joined (list_before wholes before) own) at))

  -- the same of a list that may name all
  tops-only : (list own : List (List ℕ)) (all before : Option ℕ) (bound x : ℕ) → list ≡ list_before wholes before ++ own → IfSome before (λ k. k < bound)
      → Contains (part_nodes names own all before first count) x → OfList count bound whole_nodes (named names list first all) x
  tops-only list own None before bound x is low at = parts-only list own before bound x is low at
  tops-only list own (Some all) before bound x is low at = inl at

  tops-each : (list own : List (List ℕ)) (all before : Option ℕ) (bound y : ℕ) → list ≡ list_before wholes before ++ own → IfSome before (λ k. k < bound)
      → Contains (named names list first all) y → InParts count bound whole_nodes (part_nodes names own all before first count) y
  tops-each list own None before bound y is low at = parts-each list own before bound y is low at
  tops-each list own (Some all) before bound y is low at = inl at

  module _ (few : first + length names ≤ count) where
    numbers-below : (entries : List (List ℕ)) (y : ℕ) → Contains (numbers_at entries) y → y < count
    numbers-below entries y at =
        let on = Contains-from_map (λ number. first + number) (numbers_of names entries) y at in
        let low = numbers-within names entries on.0 on.1 in
        let is = on.2 in
        omega (arith, few, low, is)

    named-below : (list : List (List ℕ)) (all : Option ℕ) (y : ℕ) → IfSome all (λ node. node < count) → Contains (named names list first all) y → y < count
    named-below list None y low at = numbers-below list y at
    named-below list (Some all) y low at = ⊎_elim
        (λ (here : all ≡ y). omega (arith, low, here))
        (λ (none : Contains [] y). absurd (Contains-none y none))
        (Contains-cases all y [] at)

all-within : (all : Option ℕ) (entries : List (List ℕ)) (count : ℕ) → IfSome all (λ node. node < count) → IfSome (node_of_all all entries) (λ node. node < count)
all-within None entries count low = tt
all-within (Some all) entries count low = by_star (is_all entries)
  where
    by_star : (b : Bool) → IfSome (cond b (Some all) None) (λ node. node < count)
    by_star true = low
    by_star false = tt

module _ (names : List (List ℕ)) (blocks : List Block) (directive : List ℕ) (places : List ℕ) (parts : List Parts) (lists : List SharedList) (nodes : ListNodes)
    (are : AreShared blocks directive places parts lists) (few : nodes.first + length names ≤ nodes.count) (low : IfSome nodes.all (λ node. node < nodes.count)) where
  abbrev wholes : List (List (List ℕ))
  wholes = wholes_of blocks directive lists

  abbrev plain : ℕ → List ℕ
  plain = nodes_at names blocks directive places nodes

  abbrev tops : ℕ → List ℕ
  tops = top_nodes names blocks directive nodes places parts

  abbrev inner : ℕ → List ℕ
  inner = inner_nodes names blocks directive nodes lists

  abbrev whole : ℕ → List ℕ
  whole = whole_nodes names nodes.first nodes.count wholes

  abbrev all_at : ℕ → Option ℕ
  all_at k = node_of_all nodes.all (list_at blocks directive (get_or places k 0))

  part-there : (k : ℕ) → k < length places → (one : Parts) × (slice_get parts k ≡ Some one)
  part-there k there = some_at parts k (let long = are.long in omega (arith, long, there))

  top-nodes : (k : ℕ) (one : Parts) → slice_get parts k ≡ Some one → tops k ≡ nodes_by names blocks directive nodes (get_or places k 0) one
  top-nodes k one at = ap (λ (found : Option Parts). option_map_or (nodes_by names blocks directive nodes (get_or places k 0)) found []) at

  before-here : (before : Option ℕ) → IfSome before (λ k. k < length wholes) → IfSome before (λ k. k < length lists)
  before-here before within = below-taken before (length wholes) (length lists) (length-map lists (λ list. list_at blocks directive list.place)) within

  list-there : (j : ℕ) → j < length lists → (one : SharedList) × (slice_get lists j ≡ Some one)
  list-there j there = some_at lists j there

  inner-nodes : (j : ℕ) (one : SharedList) → slice_get lists j ≡ Some one → inner j ≡ shared_nodes names blocks directive nodes one
  inner-nodes j one at = ap (λ (found : Option SharedList). option_map_or (shared_nodes names blocks directive nodes) found []) at

  -- the whole list of that number is the one before and the entries after it
  whole-parts : (j : ℕ) (one : SharedList) → slice_get lists j ≡ Some one → get_or wholes j [] ≡ list_before wholes one.before ++ nearest_at blocks directive one.place
  whole-parts j one at = whole-is blocks directive lists j one at ∙ (are.shared j one at).entries

  stand-for : StandFor nodes.count (length places) (length lists) plain tops inner whole
  stand-for = record {
    top_only = λ k x there at.
        let one = part-there k there in
        let has = are.have.each k one.0 one.1 in
        tops-only names nodes.first nodes.count wholes (list_at blocks directive (get_or places k 0)) _ (all_at k) one.0.before (length lists) x has.entries (before-here one.0.before has.before)
        (subst (λ ys. Contains ys x) (top-nodes k one.0 one.1) at);
    top_each = λ k y there at.
        let one = part-there k there in
        let has = are.have.each k one.0 one.1 in
        subst (λ ys. InParts nodes.count (length lists) whole ys y) (sym (top-nodes k one.0 one.1))
        (tops-each names nodes.first nodes.count wholes (list_at blocks directive (get_or places k 0)) _ (all_at k) one.0.before (length lists) y has.entries (before-here one.0.before has.before) at);
    inner_only = λ j x there at.
        let one = list-there j there in
        let shared = are.shared j one.0 one.1 in
        parts-only names nodes.first nodes.count wholes (get_or wholes j []) (nearest_at blocks directive one.0.place) one.0.before (length lists) x (whole-parts j one.0 one.1)
        (below-less one.0.before j (length lists) there shared.before) (subst (λ ys. Contains ys x) (inner-nodes j one.0 one.1) at);
    inner_each = λ j y there at.
        let one = list-there j there in
        let shared = are.shared j one.0 one.1 in
        subst (λ ys. InParts nodes.count j whole ys y) (sym (inner-nodes j one.0 one.1))
        (parts-each names nodes.first nodes.count wholes (get_or wholes j []) (nearest_at blocks directive one.0.place) one.0.before j y (whole-parts j one.0 one.1) shared.before at);
    plain_within = λ k y there at. named-below names nodes.first nodes.count wholes few (list_at blocks directive (get_or places k 0)) (all_at k) y (all-within nodes.all (list_at blocks directive (get_or places k 0)) nodes.count low) at;
    whole_within = λ j y there at. numbers-below names nodes.first nodes.count wholes few (get_or wholes j []) y at;
  }

  -- the edges of the parts lead over the nodes of shared lists
  pub lists-lead : (old one all : List Edge) (given : List SharedList) (next : ℕ) → nodes.node + length places ≤ nodes.count → All (IsWithin nodes.count) old → given ≡ lists
      → one ≡ old ++ list_edges nodes.direction nodes.node (length places) tops
      → all ≡ one ++ list_edges nodes.direction nodes.count (length given) (inner_nodes names blocks directive nodes given) → next ≡ nodes.count + length given
      → LeadOver nodes.count (old ++ edges_at names blocks directive places nodes) next all
  lists-lead old one all given next below inside same first last is =
      subst (λ (es : List Edge). LeadOver nodes.count (old ++ edges_at names blocks directive places nodes) next es)
      (sym (last ∙ ap (λ (ls : List SharedList). one ++ list_edges nodes.direction nodes.count (length ls) (inner_nodes names blocks directive nodes ls)) same
      ∙ ap (λ (es : List Edge). es ++ list_edges nodes.direction nodes.count (length lists) inner) first))
      (lead-over nodes.direction nodes.count nodes.node (length places) (length lists) plain tops inner old whole stand-for below inside next
      (is ∙ ap (λ (ls : List SharedList). nodes.count + length ls) same))
