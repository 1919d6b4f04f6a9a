-- Each move of the walk leaves fewer steps, and what is kept fits the graph still.
use Rattle.std.proofs.Common.{◌≡◌, ℕ, zero, suc, ◌+◌, ◌<◌, ◌≤◌, List, [], ◌∷◌, ◌++◌, length, get_or, set, take, drop, Option, Some, sym, ap, subst, ◌⊎◌, ⊎_elim, arith}
use Rattle.std.specs.Prelude.{Contains, slice_get}
use Rattle.std.proofs.lemmas.Bool.{cases_eq}
use Rattle.std.proofs.lemmas.Option.{slice_get_within}
use Rattle.std.proofs.lemmas.List.{take-append-drop, length-append, length-take-le, get_or-set_same, get_or-set_other}
use Rattle.graph_order.specs.declared.walk.Mark.{Mark}
use Rattle.graph_order.specs.declared.walk.Mark.TheVariants.{Unseen, Live, Done}
use Rattle.graph_order.specs.declared.walk.Walk.{Walk}
use Rattle.graph.specs.claims.Chains.{IsOnLoop, Reaches}
use Rattle.graph.specs.claims.Edges.{Leads}
use Rattle.graph_order.specs.Walk.{AtMost, Closes, Enters, Fits, Goes, IsLinked, IsOpen, IsTurned, Leaves, Merges, NoRoot, Passes, end_at, steps_of, steps_at, sum_below}
use Rattle.graph_order.proofs.ListLemmas.{set_same, set_other}
use Rattle.graph_order.proofs.WalkLemmas.{IsOpen-enter, IsTurned-enter, IsLinked-enter, IsDone-enter, IsBegun-enter, IsOpen-leave, IsTurned-leave, IsOpen-merge, IsLinked-merge, IsTurned-pass, IsLinked-pass, IsTold-pass}
use Rattle.graph_order.proofs.CloseLemmas.{IsOpen-close, IsTurned-close, IsLinked-close, IsDone-close, IsBegun-close, fewer}

-- ---- steps that are left

sum_below-le : (n : ℕ) (f g : ℕ → ℕ) → ((k : ℕ) → g k ≤ f k) → sum_below n g ≤ sum_below n f
unfolding sum_below
sum_below-le zero f g less = omega arith
sum_below-le (suc n) f g less =
    let here : g n ≤ f n = less n in
    let rest : sum_below n g ≤ sum_below n f = sum_below-le n f g less in
    omega arith

sum_below-others : (n : ℕ) (f g : ℕ → ℕ) (p : ℕ) → n ≤ p → ((k : ℕ) → (k ≡ p → ⊥) → g k ≤ f k) → sum_below n g ≤ sum_below n f
unfolding sum_below
sum_below-others zero f g p below less = omega arith
sum_below-others (suc n) f g p below less =
    let here : g n ≤ f n = less n (λ e. omega (arith, e, below)) in
    let rest : sum_below n g ≤ sum_below n f = sum_below-others n f g p (omega arith) less in
    omega arith

-- less by so much at one place, and nowhere more
sum_below-less : (n : ℕ) (f g : ℕ → ℕ) (p by : ℕ) → p < n → ((k : ℕ) → (k ≡ p → ⊥) → g k ≤ f k) → g p + by ≤ f p → sum_below n g + by ≤ sum_below n f
unfolding sum_below
sum_below-less zero f g p by within less here = absurd (omega arith)
sum_below-less (suc n) f g p by within less here = ⊎_elim
    (λ (same : n ≡ p).
    let last : g n + by ≤ f n = rw same here in
    let rest : sum_below n g ≤ sum_below n f = sum_below-others n f g p (omega arith) less in
    omega arith)
    (λ (other : n ≡ p → ⊥).
    let last : g n ≤ f n = less n other in
    let rest : sum_below n g + by ≤ sum_below n f = sum_below-less n f g p by (omega arith) less here in
    omega arith)
    (cases_eq n p)

steps-enter : (graph : List (List ℕ)) (marks : List Mark) (turns : List ℕ) (node t : ℕ) → node < length graph → slice_get marks node ≡ Some Unseen
    → sum_below (length graph) (steps_at graph (set marks node (Live t)) turns) + 3 ≤ sum_below (length graph) (steps_at graph marks turns)
steps-enter graph marks turns node t within unseen =
    sum_below-less (length graph) (steps_at graph marks turns) (steps_at graph (set marks node (Live t)) turns) node 3 within
    (λ k other. rw (set_other marks node k (Live t) other) (omega arith))
    (rw (set_same marks node (Live t) (slice_get_within marks node Unseen unseen), unseen) (omega arith))

steps-pass : (graph : List (List ℕ)) (marks : List Mark) (turns : List ℕ) (node : ℕ) → node < length graph → node < length turns → get_or turns node 0 < length (get_or graph node [])
    → sum_below (length graph) (steps_at graph marks (set turns node (get_or turns node 0 + 1))) + 1 ≤ sum_below (length graph) (steps_at graph marks turns)
steps-pass graph marks turns node within low more =
    sum_below-less (length graph) (steps_at graph marks turns) (steps_at graph marks (set turns node (get_or turns node 0 + 1))) node 1 within
    (λ k other. rw (get_or-set_other turns node k (get_or turns node 0 + 1) 0 other) (omega arith))
    (rw (get_or-set_same turns node (get_or turns node 0 + 1) 0 low) (omega arith))

steps-close : (graph : List (List ℕ)) (marks marks' : List Mark) (turns : List ℕ) → ((k : ℕ) → steps_of (slice_get marks' k) ≤ steps_of (slice_get marks k))
    → sum_below (length graph) (steps_at graph marks' turns) ≤ sum_below (length graph) (steps_at graph marks turns)
steps-close graph marks marks' turns fewer =
    sum_below-le (length graph) (steps_at graph marks turns) (steps_at graph marks' turns) (λ k. let less : steps_of (slice_get marks' k) ≤ steps_of (slice_get marks k) = fewer k in omega (arith, less))

-- ---- moves

pub Goes-enter : (graph : List (List ℕ)) (before after : Walk) (node : ℕ) → Fits graph before → Enters node before after → slice_get before.marks.items node ≡ Some Unseen
    → ((i p : ℕ) → slice_get before.live.items i ≡ Some p → Reaches (Leads graph) p node) → Goes graph before after
Goes-enter graph before after node fits enters unseen reaching =
    let marks = before.marks.items in
    let turns = before.turns.items in
    let live = before.live.items in
    let path = before.path.items in
    let roots = before.roots.items in
    let within : node < length graph = omega (arith, fits.begun.as_many, slice_get_within marks node Unseen unseen) in
    let steps = steps-enter graph marks turns node (length live) within unseen in (
      record {
        nodes = rw (enters.marks, enters.live, enters.path, enters.roots) (IsOpen-enter graph marks turns live path roots node unseen fits.nodes);
        turns = rw (enters.marks, enters.turns, enters.live, enters.path) (IsTurned-enter graph marks turns live path roots node unseen fits.turns);
        links = rw (enters.marks, enters.turns, enters.live, enters.roots) (IsLinked-enter graph marks turns live path roots node unseen fits.links (fits.turns.unseen node unseen) reaching);
        told = rw (enters.turns, enters.least) fits.told;
        done = rw (enters.marks, enters.done) (IsDone-enter graph marks turns live path roots node unseen before.done.items fits.done);
        begun = rw (enters.marks, enters.next) (IsBegun-enter graph marks turns live path roots node unseen before.next fits.begun);
      },
      rw (enters.marks, enters.turns, enters.path, enters.roots, enters.next) (omega (arith, steps, length-append path (length live ∷ []), length-append roots (length live ∷ []))),
    )

pub Goes-leave : (graph : List (List ℕ)) (before after : Walk) (place node : ℕ) → Fits graph before → Leaves place before after → slice_get before.live.items place ≡ Some node
    → get_or before.turns.items node 0 ≡ length (get_or graph node []) → (Contains before.roots.items place → ⊥) → Goes graph before after
Goes-leave graph before after place node fits leaves at over no_root =
    let marks = before.marks.items in
    let turns = before.turns.items in
    let live = before.live.items in
    let roots = before.roots.items in
    let front = after.path.items in
    let nodes : IsOpen marks live (front ++ place ∷ []) roots = subst (λ (path : List ℕ). IsOpen marks live path roots) leaves.path fits.nodes in
    let turned : IsTurned graph marks turns live (front ++ place ∷ []) = subst (λ (path : List ℕ). IsTurned graph marks turns live path) leaves.path fits.turns in (
      record {
        nodes = rw (leaves.marks, leaves.live, leaves.roots) (IsOpen-leave marks live front roots place nodes no_root);
        turns = rw (leaves.marks, leaves.turns, leaves.live) (IsTurned-leave graph marks turns live front place node turned at over);
        links = rw (leaves.marks, leaves.turns, leaves.live, leaves.roots) fits.links;
        told = rw (leaves.turns, leaves.least) fits.told;
        done = rw (leaves.marks, leaves.done) fits.done;
        begun = rw (leaves.marks, leaves.next) fits.begun;
      },
      rw (leaves.marks, leaves.turns, leaves.roots, leaves.next) (omega (arith, ap (λ (path : List ℕ). length path) leaves.path, length-append front (place ∷ []))),
    )

pub Goes-merge : (graph : List (List ℕ)) (before after : Walk) (root to node end : ℕ) → Fits graph before → Merges root before after → slice_get before.live.items to ≡ Some end → to < root
    → ((i p : ℕ) → slice_get before.live.items i ≡ Some p → Reaches (Leads graph) p node) → Leads graph node end → Goes graph before after
Goes-merge graph before after root to node end fits merges at low reaching leads =
    let marks = before.marks.items in
    let turns = before.turns.items in
    let live = before.live.items in
    let path = before.path.items in
    let front = after.roots.items in
    let nodes : IsOpen marks live path (front ++ root ∷ []) = subst (λ (roots : List ℕ). IsOpen marks live path roots) merges.roots fits.nodes in
    let links : IsLinked graph marks turns live (front ++ root ∷ []) = subst (λ (roots : List ℕ). IsLinked graph marks turns live roots) merges.roots fits.links in (
      record {
        nodes = rw (merges.marks, merges.live, merges.path) (IsOpen-merge marks live path front root nodes (omega (arith, low)));
        turns = rw (merges.marks, merges.turns, merges.live, merges.path) fits.turns;
        links = rw (merges.marks, merges.turns, merges.live) (IsLinked-merge graph marks turns live front root to node end links at low reaching leads);
        told = rw (merges.turns, merges.least) fits.told;
        done = rw (merges.marks, merges.done) fits.done;
        begun = rw (merges.marks, merges.next) fits.begun;
      },
      rw (merges.marks, merges.turns, merges.path, merges.next) (omega (arith, ap (λ (roots : List ℕ). length roots) merges.roots, length-append front (root ∷ []))),
    )

-- an edge is passed whose end is done, or is live and no root stands after it
pub Goes-pass : (graph : List (List ℕ)) (before after : Walk) (place node : ℕ) (least : Option ℕ) → Fits graph before → Passes node least before after → slice_get before.live.items place ≡ Some node
    → Contains before.path.items place → node < length graph → get_or before.turns.items node 0 < length (get_or graph node [])
    → ((t : ℕ) → slice_get before.live.items t ≡ Some node → (slice_get before.marks.items (end_at graph node (get_or before.turns.items node 0)) ≡ Some Done)
    ⊎ ((j : ℕ) × (slice_get before.live.items j ≡ Some (end_at graph node (get_or before.turns.items node 0))) × NoRoot before.roots.items j t))
    → ((k : ℕ) → AtMost before.least k → AtMost least k) → ((p : ℕ) → least ≡ Some p → IsOnLoop (Leads graph) p)
    → AtMost least node ⊎ (Reaches (Leads graph) (end_at graph node (get_or before.turns.items node 0)) node → ⊥) → Goes graph before after
Goes-pass graph before after place node least fits passes at on within more new weaker on_loop told =
    let marks = before.marks.items in
    let turns = before.turns.items in
    let live = before.live.items in
    let path = before.path.items in
    let roots = before.roots.items in
    let low : node < length turns = omega (arith, fits.turns.as_many, within) in
    let steps = steps-pass graph marks turns node within low more in (
      record {
        nodes = rw (passes.marks, passes.live, passes.path, passes.roots) fits.nodes;
        turns = rw (passes.marks, passes.turns, passes.live, passes.path) (IsTurned-pass graph marks turns live path roots node low place fits.nodes fits.turns at on more);
        links = rw (passes.marks, passes.turns, passes.live, passes.roots) (IsLinked-pass graph marks turns live path roots node low fits.links new);
        told = rw (passes.turns, passes.least) (IsTold-pass graph marks turns live path roots node low before.least least fits.told weaker on_loop told);
        done = rw (passes.marks, passes.done) fits.done;
        begun = rw (passes.marks, passes.next) fits.begun;
      },
      rw (passes.marks, passes.turns, passes.path, passes.roots, passes.next) (omega (arith, steps)),
    )

pub Goes-close : (graph : List (List ℕ)) (before after : Walk) (place node : ℕ) → Fits graph before → Closes place before after → slice_get before.live.items place ≡ Some node
    → get_or before.turns.items node 0 ≡ length (get_or graph node []) → Goes graph before after
Goes-close graph before after place node fits closes at over =
    let marks = before.marks.items in
    let marks' = after.marks.items in
    let turns = before.turns.items in
    let live = before.live.items in
    let front = take place live in
    let segment = drop place live in
    let path = after.path.items in
    let roots = after.roots.items in
    let split : live ≡ front ++ segment = sym (take-append-drop place live) in
    let root : place ≡ length front = sym (length-take-le place live (omega (arith, slice_get_within live place node at))) in
    let nodes : IsOpen marks (front ++ segment) (path ++ length front ∷ []) (roots ++ length front ∷ []) =
    rw (← split, ← root, ← closes.path, ← closes.roots) fits.nodes in
    let turned : IsTurned graph marks turns (front ++ segment) (path ++ length front ∷ []) = rw (← split, ← root, ← closes.path) fits.turns in
    let links : IsLinked graph marks turns (front ++ segment) (roots ++ length front ∷ []) = rw (← split, ← root, ← closes.roots) fits.links in
    let first : slice_get (front ++ segment) (length front) ≡ Some node = rw (← split, ← root) at in
    let steps = steps-close graph marks marks' turns (fewer graph marks marks' turns front segment path roots nodes closes.marks) in (
      record {
        nodes = rw closes.live (IsOpen-close graph marks marks' turns front segment path roots nodes closes.marks);
        turns = rw (closes.live, closes.turns) (IsTurned-close graph marks marks' turns front segment path roots nodes closes.marks node turned first over);
        links = rw (closes.live, closes.turns) (IsLinked-close graph marks marks' turns front segment path roots nodes closes.marks node turned first over links);
        told = rw (closes.turns, closes.least) fits.told;
        done = rw closes.done (IsDone-close graph marks marks' turns front segment path roots nodes closes.marks before.done.items links fits.done);
        begun = rw closes.next (IsBegun-close graph marks marks' turns front segment path roots nodes closes.marks before.next fits.begun);
      },
      rw (closes.turns, closes.next) (omega (arith, steps, ap (λ (xs : List ℕ). length xs) closes.path, length-append path (place ∷ []), ap (λ (xs : List ℕ). length xs) closes.roots, length-append roots (place ∷ []))),
    )
