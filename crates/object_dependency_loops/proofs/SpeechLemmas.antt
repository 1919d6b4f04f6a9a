-- Links to nodes, and more of them.
use Rattle.std.proofs.Common.{◌≡◌, ℕ, ◌+◌, ◌<◌, ◌≤◌, true, List, [], ◌∷◌, ◌++◌, length, take, get_or, Option, Some, None, sym, subst, ◌∙◌, ◌⊎◌, inl, inr, ⊎_elim, arith}
use Rattle.std.specs.Prelude.{All, Contains, IfSome, slice_index_or, ◌↔◌}
use Rattle.std.specs.List.{range_with_len}
use Rattle.std.proofs.lemmas.List.{get_or_default, take_more}
use Rattle.std.proofs.lemmas.List.Elements.{All-contains, All-from_get_or, Contains-append_cases, Contains-append_left, Contains-append_right, Contains-get_or}
use Rattle.graph.specs.declared.edges.Edge.{Edge}
use Rattle.graph.specs.claims.Chains.{Reaches}
use Rattle.graph_rules.specs.Rules.{IsOfRule}
use Rattle.lemmas.proofs.Elements.{Contains-from_map, Contains-from_range, Contains-map, Contains-none, Contains-range}
use Rattle.object_groups.specs.declared.lists.Direction.TheVariants.{ToNames}
use Rattle.object_groups.specs.declared.lists.ListNodes.{ListNodes}
use Rattle.object_groups.specs.ListEdges.{edge, edges_at, IsEdge, LeadOver, list_edges, nodes_of}
use Rattle.object_groups.specs.claims.Names.{is_all, numbers_of}
use Rattle.object_groups.specs.NodeLaws.{edge-from, edge-to, from-node}
use Rattle.object_groups.specs.ObjectLaws.{numbers-within}
use Rattle.object_groups.specs.claims.Objects.{list_at}
use Rattle.object_groups.specs.ReachLaws.{lead-none}
use Rattle.object_reader.specs.declared.block.Block.{Block}
use Rattle.object_dependency_loops.specs.Speech.{AddsSpeech, AreLinked, ByList, links_to, Speaks}
use Rattle.object_dependency_loops.proofs.ReachLemmas.{nodes-over, nodes-reach, over-on}

-- ---- the nodes that a list names are there

pub nodes-within : (names entries : List (List ℕ)) (first count : ℕ) (all : Option ℕ) (x : ℕ) → first + length names ≤ count → IfSome all (λ other. other < count) → Contains (nodes_of names entries first all) x
    → x < count
nodes-within names entries first count None x few low at =
    let on = Contains-from_map (λ number. first + number) (numbers_of names entries) x at in
    let within = numbers-within names entries on.0 on.1 in
    let is = on.2 in
    omega (arith, few, within, is)
nodes-within names entries first count (Some other) x few low at = by_kind (from-node names entries first other x at)
  where
    by_kind : ((x ≡ other) × (is_all entries ≡ true)) ⊎ ((k : ℕ) × (k < length names) × (x ≡ first + k) × Contains (numbers_of names entries) k) → x < count
    by_kind (inl both) = let is = both.0 in omega (arith, low, is)
    by_kind (inr (k, within, is, on)) = omega (arith, few, within, is)

-- ---- links

link-at : (places : List ℕ) (node from to : ℕ) → Contains (links_to places node) (edge from to) → (k : ℕ) × (k < length places) × (from ≡ slice_index_or places k 0) × (to ≡ node + k)
link-at places node from to at =
    let on = Contains-from_map (λ k. edge (slice_index_or places k 0) (node + k)) (range_with_len 0 (length places)) (edge from to) at in
    (on.0, Contains-from_range (length places) on.0 on.1, edge-from (slice_index_or places on.0 0) (node + on.0) from to on.2, edge-to (slice_index_or places on.0 0) (node + on.0) from to on.2)

at-link : (places : List ℕ) (node k place : ℕ) → k < length places → slice_index_or places k 0 ≡ place → Contains (links_to places node) (edge place (node + k))
at-link places node k place few is =
    subst (λ (p : ℕ). Contains (links_to places node) (edge p (node + k))) is
    (Contains-map (λ j. edge (slice_index_or places j 0) (node + j)) (range_with_len 0 (length places)) k (Contains-range (length places) k few))

-- one list more, and the links to its nodes
module _ (blocks objects bound next : ℕ) (old new links more : List Edge) (places : List ℕ) (lists : ℕ → List ℕ) (are : AreLinked blocks objects bound old links)
    (few : All (λ place. place < blocks) places) (below : (k x : ℕ) → k < length places → Contains (lists k) x → x < bound)
    (over : LeadOver (bound + length places) (old ++ list_edges ToNames bound (length places) lists) next new) (linked : more ≡ links ++ links_to places bound) where
  over_old : LeadOver bound old next new
  over_old = nodes-over bound (length places) lists old are.within below next new over

  reach_at : (k q : ℕ) → k < length places → q < bound → Reaches (IsEdge new) (bound + k) q ↔ ((x : ℕ) × Contains (lists k) x × Reaches (IsEdge old) x q)
  reach_at = nodes-reach bound (length places) lists old are.within below next new over

  link_within : (from to : ℕ) → Contains more (edge from to) → IsOfRule blocks next (edge from to)
  link_within from to at = ⊎_elim
      (λ (first : Contains links (edge from to)).
      let of = All-contains (IsOfRule blocks bound) links (edge from to) are.linked first in
      let low = of.node in
      let less = over_old.more in
      record { rule = of.rule; node = omega (arith, low, less) })
      (λ (last : Contains (links_to places bound) (edge from to)).
      let on = link-at places bound from to last in
      let here = on.1 in
      let is = on.2 in
      let end = on.3 in
      let less = over.more in
      let low = All-contains (λ place. place < blocks) places (get_or places on.0 0) few (Contains-get_or places on.0 0 on.1) in
      record { rule = omega (arith, low, is); node = omega (arith, here, end, less) })
      (Contains-append_cases links (links_to places bound) (edge from to) (subst (λ (es : List Edge). Contains es (edge from to)) linked at))

  abbrev Says : (place object : ℕ) → Type 0
  Says place object = (k : ℕ) × (k < length places) × (slice_index_or places k 0 ≡ place) × ((x : ℕ) × Contains (lists k) x × Reaches (IsEdge old) x object)

  to_speech : (place object : ℕ) → object < objects → Speaks more new place object → Speaks links old place object ⊎ Says place object
  to_speech place object low (node, at, reaches) =
      let enough = are.few in
      ⊎_elim
      (λ (first : Contains links (edge place node)).
      let of = All-contains (IsOfRule blocks bound) links (edge place node) are.linked first in
      inl (node, first, (over_old.same node object of.node (omega (arith, low, enough))).0 reaches))
      (λ (last : Contains (links_to places bound) (edge place node)).
      let on = link-at places bound place node last in
      inr (on.0, on.1, sym on.2, (reach_at on.0 object on.1 (omega (arith, low, enough))).0 (subst (λ (n : ℕ). Reaches (IsEdge new) n object) on.3 reaches)))
      (Contains-append_cases links (links_to places bound) (edge place node) (subst (λ (es : List Edge). Contains es (edge place node)) linked at))

  of_speech : (place object : ℕ) → object < objects → Speaks links old place object ⊎ Says place object → Speaks more new place object
  of_speech place object low (inl (node, at, reaches)) =
      let enough = are.few in
      let of = All-contains (IsOfRule blocks bound) links (edge place node) are.linked at in (
        node,
        subst (λ (es : List Edge). Contains es (edge place node)) (sym linked) (Contains-append_left links (links_to places bound) (edge place node) at),
        (over_old.same node object of.node (omega (arith, low, enough))).1 reaches,
      )
  of_speech place object low (inr (k, here, is, some)) =
      let enough = are.few in (
        bound + k,
        subst (λ (es : List Edge). Contains es (edge place (bound + k))) (sym linked) (Contains-append_right links (links_to places bound) (edge place (bound + k)) (at-link places bound k place here is)),
        (reach_at k object here (omega (arith, low, enough))).1 some,
      )

  pub adds-lists : (By : (place object : ℕ) → Type 0) → ((k object : ℕ) → k < length places → object < objects → ((x : ℕ) × Contains (lists k) x × Reaches (IsEdge old) x object) ↔ By (slice_index_or places k 0) object)
      → AddsSpeech blocks objects bound next old new links more places By
  adds-lists By says = record {
    over = over_old;
    linked = All-from_get_or (IsOfRule blocks next) more (edge 0 0)
        (λ i low. link_within (get_or more i (edge 0 0)).from (get_or more i (edge 0 0)).to (Contains-get_or more i (edge 0 0) low));
    exactly = λ place object low. (
      (λ speaks. ⊎_elim
          (λ (before : Speaks links old place object). inl before)
          (λ (here : Says place object). inr (placed place object low here))
          (to_speech place object low speaks)),
      (λ either. of_speech place object low (⊎_elim
          (λ (before : Speaks links old place object). inl before)
          (λ (both : Contains places place × By place object). inr (said place object low both))
          either)),
    );
  }
    where
      placed : (place object : ℕ) → object < objects → Says place object → Contains places place × By place object
      placed place object low (k, here, is, some) =
          (subst (λ (p : ℕ). Contains places p) is (Contains-get_or places k 0 here), subst (λ (p : ℕ). By p object) is ((says k object here low).0 some))

      said : (place object : ℕ) → object < objects → Contains places place × By place object → Says place object
      said place object low ((k, here, is), by) =
          let at : slice_index_or places k 0 ≡ place = get_or_default places k 0 place here ∙ is in
          (k, here, at, (says k object here low).1 (subst (λ (p : ℕ). By p object) (sym at) by))

-- the lists that blocks have
pub adds-listed : (blocks objects bound next : ℕ) (old new links more : List Edge) (places : List ℕ) (names : List (List ℕ)) (bs : List Block) (directive : List ℕ) (first : ℕ) (all : Option ℕ)
    → AreLinked blocks objects bound old links → All (λ place. place < blocks) places → first + length names ≤ bound → IfSome all (λ other. other < bound)
    → (nodes : ListNodes) → nodes ≡ record { direction = ToNames; node = bound; first = first; all = all; count = bound + length places }
    → LeadOver nodes.count (old ++ edges_at names bs directive places nodes) next new → more ≡ links ++ links_to places bound
    → AddsSpeech blocks objects bound next old new links more places (ByList names bs directive first all old)
adds-listed blocks objects bound next old new links more places names bs directive first all are few some low nodes nodes_are over linked =
    adds-lists blocks objects bound next old new links more places (λ k. nodes_of names (list_at bs directive (slice_index_or places k 0)) first all) are few
    (λ k x here at. nodes-within names (list_at bs directive (slice_index_or places k 0)) first bound all x some low at)
    (subst (λ (ns : ListNodes). LeadOver ns.count (old ++ edges_at names bs directive places ns) next new) nodes_are over) linked
    (ByList names bs directive first all old) (λ k object here there. ((λ some. some), (λ some. some)))

-- ---- one after the other

module _ (blocks objects : ℕ) where
  -- what is linked still is
  pub still-linked : (count next : ℕ) (old new links more : List Edge) (places : List ℕ) (Says : (place object : ℕ) → Type 0) → AreLinked blocks objects count old links
      → AddsSpeech blocks objects count next old new links more places Says → AreLinked blocks objects next new more
  still-linked count next old new links more places Says are adds =
      let few = are.few in
      let less = adds.over.more in
      record {
        few = omega (arith, few, less);
        within = adds.over.within;
        apart = λ p object low there reaches. are.apart p object low there ((adds.over.same p object (omega (arith, low, few)) (omega (arith, there, few))).0 reaches);
        linked = adds.linked;
      }

  -- of the same places, first this and then that
  pub adds-both : (count middle next : ℕ) (old between new links some more : List Edge) (places : List ℕ) (One Other Both : (place object : ℕ) → Type 0)
      → AddsSpeech blocks objects count middle old between links some places One → AddsSpeech blocks objects middle next between new some more places Other
      → ((place object : ℕ) → object < objects → (One place object ⊎ Other place object) ↔ Both place object)
      → AddsSpeech blocks objects count next old new links more places Both
  adds-both count middle next old between new links some more places One Other Both one other both = record {
    over = over-on count middle next old between new one.over other.over;
    linked = other.linked;
    exactly = λ place object low. (
      (λ speaks. ⊎_elim
          (λ (before : Speaks some between place object). ⊎_elim
          (λ (first : Speaks links old place object). inl first)
          (λ (at : Contains places place × One place object). inr (at.0, (both place object low).0 (inl at.1)))
          ((one.exactly place object low).0 before))
          (λ (at : Contains places place × Other place object). inr (at.0, (both place object low).0 (inr at.1)))
          ((other.exactly place object low).0 speaks)),
      (λ either. (other.exactly place object low).1 (⊎_elim
          (λ (first : Speaks links old place object). inl ((one.exactly place object low).1 (inl first)))
          (λ (at : Contains places place × Both place object). ⊎_elim
          (λ (says : One place object). inl ((one.exactly place object low).1 (inr (at.0, says))))
          (λ (says : Other place object). inr (at.0, says))
          ((both place object low).1 at.1))
          either)),
    );
  }

  -- the same, said otherwise
  pub adds-same : (count next : ℕ) (old new links more : List Edge) (places : List ℕ) (One Other : (place object : ℕ) → Type 0) → AddsSpeech blocks objects count next old new links more places One
      → ((place object : ℕ) → object < objects → One place object ↔ Other place object) → AddsSpeech blocks objects count next old new links more places Other
  adds-same count next old new links more places One Other adds same = record {
    over = adds.over;
    linked = adds.linked;
    exactly = λ place object low. (
      (λ speaks. ⊎_elim
          (λ (first : Speaks links old place object). inl first)
          (λ (at : Contains places place × One place object). inr (at.0, (same place object low).0 at.1))
          ((adds.exactly place object low).0 speaks)),
      (λ either. (adds.exactly place object low).1 (⊎_elim
          (λ (first : Speaks links old place object). inl first)
          (λ (at : Contains places place × Other place object). inr (at.0, (same place object low).1 at.1))
          either)),
    );
  }

  -- by edges over which the others lead, what is linked speaks of the same
  pub speaks-over : (count next : ℕ) (old new links : List Edge) → AreLinked blocks objects count old links → LeadOver count old next new
      → (place object : ℕ) → object < objects → Speaks links new place object ↔ Speaks links old place object
  speaks-over count next old new links are over place object low =
      let few = are.few in (
        (λ speaks.
            let of = All-contains (IsOfRule blocks count) links (edge place speaks.0) are.linked speaks.1 in
            (speaks.0, speaks.1, (over.same speaks.0 object of.node (omega (arith, low, few))).0 speaks.2)),
        (λ speaks.
            let of = All-contains (IsOfRule blocks count) links (edge place speaks.0) are.linked speaks.1 in
            (speaks.0, speaks.1, (over.same speaks.0 object of.node (omega (arith, low, few))).1 speaks.2)),
      )

  -- nothing more, of no block
  pub adds-none : (count : ℕ) (edges links : List Edge) (Says : (place object : ℕ) → Type 0) → AreLinked blocks objects count edges links → AddsSpeech blocks objects count count edges edges links links [] Says
  adds-none count edges links Says are = record {
    over = lead-none count edges are.within;
    linked = are.linked;
    exactly = λ place object low. (
      (λ speaks. inl speaks),
      (λ either. ⊎_elim (λ (before : Speaks links edges place object). before) (λ (at : Contains [] place × Says place object). absurd (Contains-none place at.0)) either),
    );
  }

  -- of more places, the same
  pub adds-append : (count middle next : ℕ) (old between new links some more : List Edge) (places others : List ℕ) (Says : (place object : ℕ) → Type 0)
      → AddsSpeech blocks objects count middle old between links some places Says → AddsSpeech blocks objects middle next between new some more others Says
      → AddsSpeech blocks objects count next old new links more (places ++ others) Says
  adds-append count middle next old between new links some more places others Says one other = record {
    over = over-on count middle next old between new one.over other.over;
    linked = other.linked;
    exactly = λ place object low. (
      (λ speaks. ⊎_elim
          (λ (before : Speaks some between place object). ⊎_elim
          (λ (first : Speaks links old place object). inl first)
          (λ (at : Contains places place × Says place object). inr (Contains-append_left places others place at.0, at.1))
          ((one.exactly place object low).0 before))
          (λ (at : Contains others place × Says place object). inr (Contains-append_right places others place at.0, at.1))
          ((other.exactly place object low).0 speaks)),
      (λ either. (other.exactly place object low).1 (⊎_elim
          (λ (first : Speaks links old place object). inl ((one.exactly place object low).1 (inl first)))
          (λ (at : Contains (places ++ others) place × Says place object). ⊎_elim
          (λ (here : Contains places place). inl ((one.exactly place object low).1 (inr (here, at.1))))
          (λ (there : Contains others place). inr (there, at.1))
          (Contains-append_cases places others place at.0))
          either)),
    );
  }

  -- one place more
  pub adds-more : (i d count middle next : ℕ) (old between new links some more : List Edge) (places : List ℕ) (Says : (place object : ℕ) → Type 0) → i < length places
      → AddsSpeech blocks objects count middle old between links some (take i places) Says → AddsSpeech blocks objects middle next between new some more (get_or places i d ∷ []) Says
      → AddsSpeech blocks objects count next old new links more (take (i + 1) places) Says
  adds-more i d count middle next old between new links some more places Says low one other =
      subst (λ (ps : List ℕ). AddsSpeech blocks objects count next old new links more ps Says) (sym (take_more places i d low))
      (adds-append count middle next old between new links some more (take i places) (get_or places i d ∷ []) Says one other)
