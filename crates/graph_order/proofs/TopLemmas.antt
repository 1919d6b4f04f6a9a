-- What is known at the path's last node, and what each of its moves leaves.
use Rattle.std.proofs.Common.{◌≡◌, ◌≢◌, ℕ, zero, suc, ◌-◌, ◌^◌, ◌<◌, ◌≤◌, List, [], length, get_or, min, Option, None, Some, refl, sym, ap, subst, ◌∙◌, inl, inr, ⊎_elim, arith}
use Rattle.std.specs.Prelude.{AllPairs, Contains, slice_get}
use Rattle.std.proofs.lemmas.Bool.{cases_lt, eqb-true}
use Rattle.std.proofs.lemmas.Bool.Decides.{Decides-eqb}
use Rattle.std.proofs.lemmas.Map.Made.{IsDistinct-from_AllPairs}
use Rattle.std.proofs.lemmas.Map.Steps.{length-le_from_distinct_below}
use Rattle.std.proofs.lemmas.Map.Views.{Contains-from_any}
use Rattle.std.proofs.lemmas.Option.{slice_get_within, slice_get-get_or, slice_get_read, get_or_from_slice_get}
use Rattle.std.proofs.lemmas.List.{get_or_default}
use Rattle.std.proofs.lemmas.List.Elements.{Contains-get_or}
use Rattle.lemmas.proofs.Chains.{Reaches-join}
use Rattle.lemmas.proofs.Elements.{at-Contains}
use Rattle.graph_order.specs.declared.walk.Mark.{Mark}
use Rattle.graph_order.specs.declared.walk.Mark.TheVariants.{Unseen, Live, Done}
use Rattle.graph_order.specs.declared.walk.Walk.{Walk}
use Rattle.graph.specs.claims.Chains.{Chain, IsOnLoop, Reaches}
use Rattle.graph.specs.claims.Edges.{Leads}
use Rattle.graph_order.specs.Walk.{AtMost, Closes, Enters, Fits, Goes, Leaves, Merges, Passes, end_at, least_of}
use Rattle.graph_order.proofs.ListLemmas.{Contains-at}
use Rattle.graph_order.proofs.WalkLemmas.{differ, same_place, Reaches-step}
use Rattle.graph_order.proofs.MoveLemmas.{Goes-enter, Goes-leave, Goes-merge, Goes-pass, Goes-close}

-- what a done node reaches is done
done-reaches : (graph : List (List ℕ)) (walk : Walk) → Fits graph walk → (steps p q : ℕ) → slice_get walk.marks.items p ≡ Some Done → Chain (Leads graph) steps p q
    → slice_get walk.marks.items q ≡ Some Done
done-reaches graph walk fits zero p q done same = subst (λ (k : ℕ). slice_get walk.marks.items k ≡ Some Done) same done
done-reaches graph walk fits (suc steps) p q done chain = done-reaches graph walk fits steps chain.0 q (fits.links.closed p chain.0 done chain.1) chain.2

-- the last of numbers that rise is the greatest
last_greatest : (xs : List ℕ) (x k : ℕ) → AllPairs (λ t u. t < u) xs → slice_get xs (length xs - 1) ≡ Some x → Contains xs k → k ≤ x
last_greatest xs x k rises last on =
    let at : get_or xs (length xs - 1) k ≡ x = get_or_from_slice_get xs (length xs - 1) x k last in
    ⊎_elim
    (λ (before : on.0 < length xs - 1). let less : get_or xs on.0 k < get_or xs (length xs - 1) k = rises on.0 (length xs - 1) k before (omega (arith, on.1)) in omega (arith, less, at, on.2))
    (λ (late : length xs - 1 ≤ on.0). let same : on.0 ≡ length xs - 1 = omega (arith, late, on.1) in omega (arith, ap (λ (i : ℕ). get_or xs i k) same, at, on.2))
    (cases_lt on.0 (length xs - 1))

pub mark-is : (marks : List Mark) (i : ℕ) (x mark : Mark) → i < length marks → x ≡ get_or marks i x → x ≡ mark → slice_get marks i ≡ Some mark
mark-is marks i x mark low at is = slice_get_read marks (length marks) i x refl low at ∙ ap (λ (m : Mark). Some m) is

-- each live node has one place, so no more are live than there are nodes
pub live-few : (graph : List (List ℕ)) (walk : Walk) → Fits graph walk → length walk.live.items < 2 ^ 32
live-few graph walk fits =
    let marks = walk.marks.items in
    let live = walk.live.items in
    let once : AllPairs (λ p q. p ≢ q) live =
    λ i j d before low same. omega (
      arith,
      before,
      same_place marks (get_or live i d) i j (fits.nodes.placed (get_or live i d) i (slice_get-get_or live i d (omega (arith, before, low))))
          (fits.nodes.placed (get_or live i d) j (slice_get-get_or live j d low ∙ ap (λ (k : ℕ). Some k) (sym same))),
    ) in
    let few : length live ≤ length marks = length-le_from_distinct_below live (length marks) (IsDistinct-from_AllPairs Decides-eqb live once)
    (λ q any. let at = Contains-at live q (Contains-from_any eqb-true q live any) in slice_get_within marks q (Live at.0) (fits.nodes.placed q at.0 at.1)) in
    omega (arith, few, fits.begun.as_many, fits.begun.few)

least_of-node : (least : Option ℕ) (node : ℕ) → least_of least node ≤ node
least_of-node None node = omega arith
least_of-node (Some least) node = omega arith

least_of-weaker : (least : Option ℕ) (node k : ℕ) → AtMost least k → least_of least node ≤ k
least_of-weaker None node k most = absurd most
least_of-weaker (Some least) node k most = omega (arith, most)

least_of-is : (P : ℕ → Type 0) (least : Option ℕ) (node : ℕ) → ((p : ℕ) → least ≡ Some p → P p) → P node → P (least_of least node)
least_of-is P None node old new = new
least_of-is P (Some least) node old new = ⊎_elim
    (λ (less : least < node). let is : least ≡ min least node = omega arith in subst P is (old least refl))
    (λ (other : node ≤ least). let is : node ≡ min least node = omega arith in subst P is new)
    (cases_lt least node)

module _ (graph : List (List ℕ)) (walk : Walk) (place : ℕ) (fits : Fits graph walk) (last : slice_get walk.path.items (length walk.path.items - 1) ≡ Some place) where
  place_on : Contains walk.path.items place
  place_on = at-Contains walk.path.items (length walk.path.items - 1) place last

  pub place_low : place < length walk.live.items
  place_low = fits.nodes.path_within place place_on

  some_root : 0 < length walk.roots.items
  some_root = let on = fits.nodes.first_root (omega (arith, place_low)) in omega (arith, on.1)

  pub root_last : (root : ℕ) → root ≡ get_or walk.roots.items (length walk.roots.items - 1) 0 → slice_get walk.roots.items (length walk.roots.items - 1) ≡ Some root
  root_last root is = slice_get-get_or walk.roots.items (length walk.roots.items - 1) 0 (omega (arith, some_root)) ∙ ap (λ (r : ℕ). Some r) (sym is)

module _ (graph : List (List ℕ)) (walk : Walk) (place node : ℕ) (fits : Fits graph walk)
    (last : slice_get walk.path.items (length walk.path.items - 1) ≡ Some place) (read : node ≡ get_or walk.live.items place node) where
  low' : place < length walk.live.items
  low' = place_low graph walk place fits last

  on' : Contains walk.path.items place
  on' = place_on graph walk place fits last

  node_at : slice_get walk.live.items place ≡ Some node
  node_at = slice_get_read walk.live.items (length walk.live.items) place node refl low' read

  node_live : slice_get walk.marks.items node ≡ Some (Live place)
  node_live = fits.nodes.placed node place node_at

  pub node_low : node < length graph
  node_low = omega (arith, fits.begun.as_many, slice_get_within walk.marks.items node (Live place) node_live)

  -- every live node reaches it
  reaching : (i p : ℕ) → slice_get walk.live.items i ≡ Some p → Reaches (Leads graph) p node
  reaching i p at = fits.links.joined i place p node at node_at
      (λ r on after upto. omega (arith, after, last_greatest walk.path.items place r fits.nodes.path_rises last (fits.nodes.roots_on_path r on)))

  last' : (root : ℕ) → root ≡ get_or walk.roots.items (length walk.roots.items - 1) 0 → slice_get walk.roots.items (length walk.roots.items - 1) ≡ Some root
  last' = root_last graph walk place fits last

  pub top-leave : (after : Walk) (root : ℕ) → root ≡ get_or walk.roots.items (length walk.roots.items - 1) 0 → (root ≡ place → ⊥) → Leaves place walk after
      → get_or walk.turns.items node 0 ≡ length (get_or graph node []) → Goes graph walk after
  top-leave after root is other leaves over = Goes-leave graph walk after place node fits leaves node_at over
      (λ on. let root_on : Contains walk.roots.items root = at-Contains walk.roots.items (length walk.roots.items - 1) root (last' root is) in
      other (omega (
        arith,
        last_greatest walk.roots.items root place fits.nodes.roots_rise (last' root is) on,
        last_greatest walk.path.items place root fits.nodes.path_rises last (fits.nodes.roots_on_path root root_on),
      )))

  pub top-close : (after : Walk) → Closes place walk after → get_or walk.turns.items node 0 ≡ length (get_or graph node []) → Goes graph walk after
  top-close after closes over = Goes-close graph walk after place node fits closes node_at over

  -- the node's turn, as it is read
  pub turn_is : (turn : ℕ) → turn ≡ get_or walk.turns.items node turn → turn ≡ get_or walk.turns.items node 0
  turn_is turn is = is ∙ get_or_default walk.turns.items node turn 0 (omega (arith, fits.turns.as_many, node_low))

  pub turn_low : (turn : ℕ) → turn ≡ get_or walk.turns.items node turn → (ends : List ℕ) → ends ≡ get_or graph node [] → (turn ≡ length ends → ⊥) → turn < length ends
  turn_low turn is ends are other =
      let few : get_or walk.turns.items node 0 ≤ length ends = rw are (fits.turns.few node) in
      omega (arith, few, turn_is turn is, other)

  module _ (turn end : ℕ) (turn_is : turn ≡ get_or walk.turns.items node 0) (more : turn < length (get_or graph node [])) (end_is : end ≡ get_or (get_or graph node []) turn 0) where
    pub end_leads : Leads graph node end
    end_leads = subst (λ (x : ℕ). Contains (get_or graph node []) x) (sym end_is) (Contains-get_or (get_or graph node []) turn 0 more)

    end_same : end_at graph node (get_or walk.turns.items node 0) ≡ end
    end_same = ap (λ (i : ℕ). get_or (get_or graph node []) i 0) (sym turn_is) ∙ sym end_is

    pub end_low : end < length walk.marks.items
    end_low = omega (arith, fits.begun.as_many, fits.begun.closed node end end_leads)

    pub top-enter : (after : Walk) → Enters end walk after → slice_get walk.marks.items end ≡ Some Unseen → Goes graph walk after
    top-enter after enters unseen = Goes-enter graph walk after end fits enters unseen
        (λ i p at. Reaches-join (Leads graph) p node end (reaching i p at) (Reaches-step (Leads graph) node end end_leads))

    pub top-merge : (after : Walk) (root to : ℕ) → Merges root walk after → to < root → slice_get walk.marks.items end ≡ Some (Live to) → Goes graph walk after
    top-merge after root to merges low mark = Goes-merge graph walk after root to node end fits merges (fits.nodes.place end to mark) low reaching end_leads

    pub top-pass : (after : Walk) → Passes node walk.least walk after → slice_get walk.marks.items end ≡ Some Done → Goes graph walk after
    top-pass after passes mark = Goes-pass graph walk after place node walk.least fits passes node_at on' node_low (omega (arith, turn_is, more))
        (λ t at. inl (rw end_same mark)) (λ k most. most) fits.told.on_loop
        (inr (λ back. differ walk.marks.items node (Live place) Done node_live
        (done-reaches graph walk fits back.0 (end_at graph node (get_or walk.turns.items node 0)) node (rw end_same mark) back.1) (λ e. cc)))

    pub top-pass_back : (after : Walk) (root to : ℕ) → root ≡ get_or walk.roots.items (length walk.roots.items - 1) 0 → root ≤ to → slice_get walk.marks.items end ≡ Some (Live to)
        → Passes node (Some (least_of walk.least node)) walk after → Goes graph walk after
    top-pass_back after root to is late mark passes =
        let back : Reaches (Leads graph) end node = reaching to end (fits.nodes.place end to mark) in
        Goes-pass graph walk after place node (Some (least_of walk.least node)) fits passes node_at on' node_low (omega (arith, turn_is, more))
        (λ t at. inr (
          to,
          rw end_same (fits.nodes.place end to mark),
          λ r on after upto. omega (arith, after, late, last_greatest walk.roots.items root r fits.nodes.roots_rise (last' root is) on),
        ))
        (λ k most. least_of-weaker walk.least node k most)
        (λ p same. let least_is : least_of walk.least node ≡ p = cc in
        subst (IsOnLoop (Leads graph)) least_is (least_of-is (IsOnLoop (Leads graph)) walk.least node fits.told.on_loop (back.0, (end, end_leads, back.1))))
        (inl (least_of-node walk.least node))
