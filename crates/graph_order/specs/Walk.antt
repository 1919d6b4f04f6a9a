-- A walk along every edge that is reached from the nodes below a number, depth first: the least node on a loop and, if there is none, an order.
use Rattle.std.specs.Prelude.{◌≡◌, ℕ, zero, suc, ◌+◌, ◌-◌, ◌^◌, ◌<◌, ◌≤◌, ◌≢◌, ◌⊎◌, List, [], ◌∷◌, ◌++◌, length, take, drop, reverse, min, AllPairs, Contains, IfNone, Option, Some, None, slice_get, slice_index, slice_index_or, slice_set}
use Rattle.graph.specs.claims.Chains.{IsOnLoop, Reaches}
use Rattle.graph.specs.claims.Edges.{Leads}
use Rattle.graph_order.specs.Order.{IsOrder}
use Rattle.graph_order.specs.declared.walk.Mark.{Mark}
use Rattle.graph_order.specs.declared.walk.Mark.TheVariants.{Unseen, Live, Done}
use Rattle.graph_order.specs.declared.walk.Step.{Step}
use Rattle.graph_order.specs.declared.walk.Step.TheVariants.{On, Over}
use Rattle.graph_order.specs.declared.walk.Walk.{Walk}

-- no root stands after the first place, up to the second: the node at the second reaches that at the first
abbrev pub NoRoot : List ℕ → (after upto : ℕ) → Type 0
NoRoot roots after upto = (root : ℕ) → Contains roots root → after < root → root ≤ upto → ⊥

-- there is a least node, and it is no greater than this one
abbrev pub AtMost : Option ℕ → ℕ → Type 0
AtMost None node = ⊥
AtMost (Some least) node = least ≤ node

abbrev pub least_of : Option ℕ → ℕ → ℕ
least_of None node = node
least_of (Some least) node = min least node

-- the end of that number among a node's ends
abbrev pub end_at : List (List ℕ) → ℕ → ℕ → ℕ
end_at graph node turn = slice_index (slice_index_or graph node []) turn

-- which nodes are live, and which of their places are the path's and roots
pub record IsOpen (marks : List Mark) (live path roots : List ℕ) : Type 0 where
  pub place : (k t : ℕ) → slice_get marks k ≡ Some (Live t) → slice_get live t ≡ Some k
  pub placed : (k t : ℕ) → slice_get live t ≡ Some k → slice_get marks k ≡ Some (Live t)
  pub path_within : (t : ℕ) → Contains path t → t < length live
  pub path_rises : AllPairs (λ t u. t < u) path
  pub roots_on_path : (t : ℕ) → Contains roots t → Contains path t
  pub roots_rise : AllPairs (λ t u. t < u) roots
  pub first_root : 0 < length live → Contains roots 0

-- each node that the path has left had all its turns, and an unseen one none
pub record IsTurned (graph : List (List ℕ)) (marks : List Mark)
    (turns live path : List ℕ) : Type 0 where
  pub as_many : length turns ≡ length graph
  pub few : (k : ℕ) → slice_index turns k ≤ length (slice_index_or graph k [])
  pub unseen : (k : ℕ) → slice_get marks k ≡ Some Unseen → slice_index turns k ≡ 0
  pub left : (k t : ℕ) → slice_get live t ≡ Some k → (Contains path t → ⊥)
      → slice_index turns k ≡ length (slice_index_or graph k [])
  pub over : (k : ℕ) → slice_get marks k ≡ Some Done
      → slice_index turns k ≡ length (slice_index_or graph k [])

-- done nodes lead to done ones, and live nodes reach one another as far as no root stands between them
pub record IsLinked (graph : List (List ℕ)) (marks : List Mark)
    (turns live roots : List ℕ) : Type 0 where
  pub closed : (p q : ℕ) → slice_get marks p ≡ Some Done → Leads graph p q
      → slice_get marks q ≡ Some Done
  pub joined : (i j p q : ℕ) → slice_get live i ≡ Some p → slice_get live j ≡ Some q
      → NoRoot roots j i → Reaches (Leads graph) p q
  pub passed : (t k i : ℕ) → slice_get live t ≡ Some k → i < slice_index turns k
      → (slice_get marks (end_at graph k i) ≡ Some Done)
      ⊎ ((j : ℕ) × (slice_get live j ≡ Some (end_at graph k i)) × NoRoot roots j t)

-- the least node on a loop is known of those whose edges were passed
pub record IsTold (graph : List (List ℕ)) (turns : List ℕ) (least : Option ℕ) : Type 0 where
  pub told : (k i : ℕ) → i < slice_index turns k
      → AtMost least k ⊎ (Reaches (Leads graph) (end_at graph k i) k → ⊥)
  pub on_loop : (p : ℕ) → least ≡ Some p → IsOnLoop (Leads graph) p

-- the nodes that are done, each once; one that leads to a later one lies on a loop
pub record IsDone (graph : List (List ℕ)) (marks : List Mark) (done : List ℕ) : Type 0 where
  pub marked : (k : ℕ) → Contains done k → slice_get marks k ≡ Some Done
  pub each : (k : ℕ) → slice_get marks k ≡ Some Done → Contains done k
  pub once : AllPairs (λ p q. p ≢ q) done
  pub backward : (i j p q : ℕ) → slice_get done i ≡ Some p → slice_get done j ≡ Some q
      → Leads graph p q → (j < i) ⊎ Reaches (Leads graph) q p

-- every node below the next one was seen
pub record IsBegun (graph : List (List ℕ)) (marks : List Mark) (next : ℕ) : Type 0 where
  pub few : length graph < 2 ^ 32
  pub as_many : length marks ≡ length graph
  pub within : next ≤ length graph
  pub closed : (p q : ℕ) → Leads graph p q → q < length graph
  pub seen : (k : ℕ) → k < next → slice_get marks k ≡ Some Unseen → ⊥

pub record Fits (graph : List (List ℕ)) (walk : Walk) : Type 0 where
  pub nodes : IsOpen walk.marks.items walk.live.items walk.path.items walk.roots.items
  pub turns : IsTurned graph walk.marks.items walk.turns.items walk.live.items walk.path.items
  pub links : IsLinked graph walk.marks.items walk.turns.items walk.live.items walk.roots.items
  pub told : IsTold graph walk.turns.items walk.least
  pub done : IsDone graph walk.marks.items walk.done.items
  pub begun : IsBegun graph walk.marks.items walk.next

-- the walk from the nodes below the number is over: each of them that lies on a loop was told and, if these were all
-- nodes and there is no loop, here is an order
pub record IsOver (graph : List (List ℕ)) (count : ℕ) (done : List ℕ) (least : Option ℕ) : Type 0 where
  pub on_loop : (p : ℕ) → least ≡ Some p → IsOnLoop (Leads graph) p
  pub told : (p : ℕ) → p < count → IsOnLoop (Leads graph) p → AtMost least p
  pub order : length graph ≤ count → IfNone least (IsOrder graph (reverse done))

-- ---- how many steps are left, at most

abbrev pub steps_of : Option Mark → ℕ
steps_of None = 0
steps_of (Some Unseen) = 3
steps_of (Some (Live place)) = 0
steps_of (Some Done) = 0

abbrev pub steps_at : List (List ℕ) → List Mark → List ℕ → ℕ → ℕ
steps_at graph marks turns k =
    steps_of (slice_get marks k) + (length (slice_index_or graph k []) - slice_index turns k)

-- a sum over the numbers below a bound
unfoldable pub sum_below : ℕ → (ℕ → ℕ) → ℕ
sum_below zero f = 0
sum_below (suc n) f = sum_below n f + f n

abbrev pub steps_left : List (List ℕ) → Walk → ℕ
steps_left graph walk =
    (length graph - walk.next)
    + sum_below (length graph) (steps_at graph walk.marks.items walk.turns.items)
    + length walk.path.items + length walk.roots.items

-- ---- steps

-- a step leaves fewer steps
abbrev pub Goes : List (List ℕ) → Walk → Walk → Type 0
Goes graph before after = Fits graph after × (steps_left graph after < steps_left graph before)

abbrev pub MatchStep : List (List ℕ) → (starts : ℕ) → Walk → Walk → Step → Type 0
MatchStep graph starts before after On = Goes graph before after
MatchStep graph starts before after Over =
    Fits graph after × (after.path.items ≡ []) × (starts ≤ after.next)

pub record Enters (node : ℕ) (before after : Walk) : Type 0 where
  pub marks : after.marks.items
      ≡ slice_set before.marks.items node (Live (length before.live.items))
  pub turns : after.turns.items ≡ before.turns.items
  pub live : after.live.items ≡ before.live.items ++ node ∷ []
  pub path : after.path.items ≡ before.path.items ++ length before.live.items ∷ []
  pub roots : after.roots.items ≡ before.roots.items ++ length before.live.items ∷ []
  pub done : after.done.items ≡ before.done.items
  pub next : after.next ≡ before.next
  pub least : after.least ≡ before.least

pub record Leaves (place : ℕ) (before after : Walk) : Type 0 where
  pub marks : after.marks.items ≡ before.marks.items
  pub turns : after.turns.items ≡ before.turns.items
  pub live : after.live.items ≡ before.live.items
  pub path : before.path.items ≡ after.path.items ++ place ∷ []
  pub roots : after.roots.items ≡ before.roots.items
  pub done : after.done.items ≡ before.done.items
  pub next : after.next ≡ before.next
  pub least : after.least ≡ before.least

-- exactly these nodes are marked, and the others as they were
pub record IsMarkedDone (before : List Mark) (nodes : List ℕ) (after : List Mark) : Type 0 where
  pub as_many : length after ≡ length before
  pub these : (k : ℕ) → Contains nodes k → slice_get after k ≡ Some Done
  pub others : (k : ℕ) → (Contains nodes k → ⊥) → slice_get after k ≡ slice_get before k

pub record Closes (place : ℕ) (before after : Walk) : Type 0 where
  pub marks : IsMarkedDone before.marks.items (drop place before.live.items) after.marks.items
  pub turns : after.turns.items ≡ before.turns.items
  pub live : after.live.items ≡ take place before.live.items
  pub path : before.path.items ≡ after.path.items ++ place ∷ []
  pub roots : before.roots.items ≡ after.roots.items ++ place ∷ []
  pub done : after.done.items ≡ before.done.items ++ drop place before.live.items
  pub next : after.next ≡ before.next
  pub least : after.least ≡ before.least

pub record Merges (root : ℕ) (before after : Walk) : Type 0 where
  pub marks : after.marks.items ≡ before.marks.items
  pub turns : after.turns.items ≡ before.turns.items
  pub live : after.live.items ≡ before.live.items
  pub path : after.path.items ≡ before.path.items
  pub roots : before.roots.items ≡ after.roots.items ++ root ∷ []
  pub done : after.done.items ≡ before.done.items
  pub next : after.next ≡ before.next
  pub least : after.least ≡ before.least

pub record Passes (node : ℕ) (told : Option ℕ) (before after : Walk) : Type 0 where
  pub marks : after.marks.items ≡ before.marks.items
  pub turns : after.turns.items
      ≡ slice_set before.turns.items node (slice_index before.turns.items node + 1)
  pub live : after.live.items ≡ before.live.items
  pub path : after.path.items ≡ before.path.items
  pub roots : after.roots.items ≡ before.roots.items
  pub done : after.done.items ≡ before.done.items
  pub next : after.next ≡ before.next
  pub least : after.least ≡ told
