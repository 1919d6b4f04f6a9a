-- A search: its marks, what it gains, and its end.
use Rattle.std.proofs.Common.{◌≡◌, ◌≢◌, ℕ, zero, suc, ◌+◌, ◌<◌, ◌≤◌, eqb, List, [], ◌∷◌, ◌++◌, length, get_or, set, take, replicate, ◌^◌, refl, sym, ap, subst, ◌∙◌, inl, inr, ⊎_elim, arith}
use Rattle.std.specs.Prelude.{Contains, All, AllPairs}
use Rattle.std.specs.List.{IsDistinct}
use Rattle.std.proofs.lemmas.Bool.{cases_eq, cases_lt}
use Rattle.std.proofs.lemmas.Bool.Decides.{Decides-eqb}
use Rattle.std.proofs.lemmas.Map.Made.{IsDistinct-from_AllPairs}
use Rattle.std.proofs.lemmas.Map.Steps.{length-le_from_distinct_below}
use Rattle.std.proofs.lemmas.Map.Views.{Contains-from_any}
use Rattle.std.proofs.lemmas.Bool.{eqb-true}
use Rattle.std.proofs.lemmas.List.{length-replicate, append-nil, append_assoc, length-set, length-append, length-take-le, get_or-set_same, get_or-set_other, get_or_append_left, get_or_past, get_or-take, get_or_default, take_more, take_more_set}
use Rattle.std.proofs.lemmas.List.Elements.{All-from_get_or, All-get_or, Contains-get_or, Contains-push, Contains-push_cases, Contains-append_left, Contains-append_right, Contains-append_cases}
use Rattle.std.proofs.lemmas.List.Quantifiers.{all_pairs_push}
use Rattle.graph.specs.claims.Chains.{Chain, Reaches}
use Rattle.graph.specs.claims.Edges.{Leads}
use Rattle.graph.specs.Reach.{Found, IsReached, IsMarked, IsSearch, Gains, IsTurn}

-- ---- marks

zeros : (count k : ℕ) → get_or (replicate {A = ℕ} count 0) k 0 ≡ 0
zeros zero k = refl
zeros (suc count) zero = refl
zeros (suc count) (suc k) = zeros count k

-- what was found is a node
pub IsMarked-within : (marks : List ℕ) (stamp : ℕ) (found : List ℕ) (k : ℕ) → IsMarked marks stamp found → Contains found k → k < length marks
IsMarked-within marks stamp found k is at = ⊎_elim
    (λ (low : k < length marks). low)
    (λ (past : length marks ≤ k). absurd (omega (arith, is.some, is.stamped k at, get_or_past marks k 0 past)))
    (cases_lt k (length marks))

pub IsMarked-all : (marks : List ℕ) (stamp : ℕ) (found : List ℕ) → IsMarked marks stamp found → All (λ q. q < length marks) found
IsMarked-all marks stamp found is = All-from_get_or (λ q. q < length marks) found 0 (λ i low. IsMarked-within marks stamp found (get_or found i 0) is (Contains-get_or found i 0 low))

apart : (marks : List ℕ) (stamp : ℕ) (found : List ℕ) (node : ℕ) → IsMarked marks stamp found → (get_or marks node 0 ≡ stamp → ⊥) → AllPairs (λ p q. p ≢ q) (found ++ node ∷ [])
apart marks stamp found node is unmarked =
    all_pairs_push (λ p q. p ≢ q) found node is.once (λ k d low same. unmarked (is.stamped node (subst (λ (x : ℕ). Contains found x) same (Contains-get_or found k d low))))

pub IsMarked-push : (marks : List ℕ) (stamp : ℕ) (found : List ℕ) (node : ℕ) → IsMarked marks stamp found → node < length marks → (get_or marks node 0 ≡ stamp → ⊥)
    → IsMarked (set marks node stamp) stamp (found ++ node ∷ [])
IsMarked-push marks stamp found node is within unmarked = record {
  some = is.some;
  below = λ k. ⊎_elim
      (λ (same : k ≡ node). rw (same, get_or-set_same marks node stamp 0 within) (omega arith))
      (λ (other : k ≡ node → ⊥). rw (get_or-set_other marks node k stamp 0 other) (is.below k))
      (cases_eq k node);
  marked = λ k marked. ⊎_elim
      (λ (same : k ≡ node). rw same (Contains-push found node))
      (λ (other : k ≡ node → ⊥). Contains-append_left found (node ∷ []) k (is.marked k (sym (get_or-set_other marks node k stamp 0 other) ∙ marked)))
      (cases_eq k node);
  stamped = λ k at. ⊎_elim
      (λ (same : k ≡ node). rw (same, get_or-set_same marks node stamp 0 within) refl)
      (λ (other : k ≡ node → ⊥). get_or-set_other marks node k stamp 0 other ∙ ⊎_elim
      (λ (old : Contains found k). is.stamped k old)
      (λ (new : node ≡ k). absurd (other (sym new)))
      (Contains-push_cases found node k at))
      (cases_eq k node);
  once = apart marks stamp found node is unmarked;
}

-- nothing is found yet
abbrev pub none_found : ℕ → Found
none_found nodes = record {
  nodes = nodes;
  found = [];
}

pub IsSearch-new : (marks queue : List ℕ) (nodes stamp : ℕ) → nodes < 2 ^ 32 → 0 < stamp → marks ≡ replicate nodes 0 → queue ≡ replicate nodes 0 → IsSearch marks stamp queue 0
IsSearch-new marks queue nodes stamp low some marked queued =
    let long : length (replicate {A = ℕ} nodes 0) ≡ nodes = length-replicate {A = ℕ} nodes 0 in
    rw (marked, queued) (record {
      few = omega (arith, long, low);
      long = refl;
      room = omega arith;
      marked = record {
        some = some;
        below = λ k. omega (arith, zeros nodes k);
        marked = λ k same. absurd (omega (arith, some, zeros nodes k, same));
        stamped = λ k at. absurd (omega (arith, at.1));
        once = λ i j d before few. absurd (omega (arith, few));
      };
    })

-- the next search has the next stamp
pub IsSearch-again : (marks : List ℕ) (stamp : ℕ) (queue : List ℕ) (count : ℕ) → IsSearch marks stamp queue count → IsSearch marks (stamp + 1) queue 0
IsSearch-again marks stamp queue count is = record {
  few = is.few;
  long = is.long;
  room = omega arith;
  marked = record {
    some = omega arith;
    below = λ k. omega (arith, is.marked.below k);
    marked = λ k same. absurd (omega (arith, is.marked.below k, same));
    stamped = λ k at. absurd (omega (arith, at.1));
    once = λ i j d before few. absurd (omega (arith, few));
  };
}

-- or the first one, once all marks are cleared
pub IsSearch-cleared : (marks cleared : List ℕ) (stamp : ℕ) (queue : List ℕ) (count : ℕ) → IsSearch marks stamp queue count → cleared ≡ replicate (length marks) 0
    → IsSearch cleared 1 queue 0
IsSearch-cleared marks cleared stamp queue count is clear =
    let long : length (replicate {A = ℕ} (length marks) 0) ≡ length marks = length-replicate {A = ℕ} (length marks) 0 in
    rw clear (record {
      few = omega (arith, long, is.few);
      long = omega (arith, long, is.long);
      room = omega arith;
      marked = record {
        some = omega arith;
        below = λ k. omega (arith, zeros (length marks) k);
        marked = λ k same. absurd (omega (arith, zeros (length marks) k, same));
        stamped = λ k at. absurd (omega (arith, at.1));
        once = λ i j d before few. absurd (omega (arith, few));
      };
    })

-- no more than the nodes were found, so that one that isn't found has room
pub IsSearch-room : (marks : List ℕ) (stamp : ℕ) (queue : List ℕ) (count node : ℕ) → IsSearch marks stamp queue count → node < length marks → (get_or marks node 0 ≡ stamp → ⊥) → count < length queue
IsSearch-room marks stamp queue count node is within unmarked =
    let found : List ℕ = take count queue in
    let more : IsMarked (set marks node stamp) stamp (found ++ node ∷ []) = IsMarked-push marks stamp found node is.marked within unmarked in
    let distinct : IsDistinct eqb (found ++ node ∷ []) = IsDistinct-from_AllPairs Decides-eqb (found ++ node ∷ []) more.once in
    let few : length (found ++ node ∷ []) ≤ length (set marks node stamp) = length-le_from_distinct_below (found ++ node ∷ []) (length (set marks node stamp)) distinct
    (λ q any. IsMarked-within (set marks node stamp) stamp (found ++ node ∷ []) q more (Contains-from_any eqb-true q (found ++ node ∷ []) any)) in
    let long : length (found ++ node ∷ []) ≡ length found + 1 = length-append found (node ∷ []) in
    let same : length (set marks node stamp) ≡ length marks = length-set marks node stamp in
    let taken : length found ≡ count = length-take-le count queue is.room in
    let as_many : length queue ≡ length marks = is.long in
    omega arith

pub IsSearch-find : (marks : List ℕ) (stamp : ℕ) (queue : List ℕ) (count node : ℕ) → IsSearch marks stamp queue count → node < length marks → (get_or marks node 0 ≡ stamp → ⊥)
    → IsSearch (set marks node stamp) stamp (set queue count node) (count + 1)
IsSearch-find marks stamp queue count node is within unmarked =
    let room : count < length queue = IsSearch-room marks stamp queue count node is within unmarked in
    record {
      few = rw (length-set marks node stamp) is.few;
      long = rw (length-set marks node stamp, length-set queue count node) is.long;
      room = rw (length-set queue count node) (omega arith);
      marked = rw (take_more_set queue count node room) (IsMarked-push marks stamp (take count queue) node is.marked within unmarked);
    }

-- what was found at a turn
pub IsSearch-node : (marks : List ℕ) (stamp : ℕ) (queue : List ℕ) (count turn : ℕ) → IsSearch marks stamp queue count → turn < count → get_or queue turn 0 < length marks
IsSearch-node marks stamp queue count turn is low =
    let long : turn < length (take count queue) = rw (length-take-le count queue is.room) low in
    subst (λ (q : ℕ). q < length marks) (get_or-take count queue turn 0 low)
    (All-get_or (λ q. q < length marks) (take count queue) turn 0 long (IsMarked-all marks stamp (take count queue) is.marked))

-- ---- gains

pub Gains-one : (found : List ℕ) (node : ℕ) → Gains found (node ∷ []) (found ++ node ∷ [])
Gains-one found node = record {
  front = (node ∷ [], refl);
  only = λ q at. Contains-append_cases found (node ∷ []) q at;
  each = λ q at. subst (λ (x : ℕ). Contains (found ++ node ∷ []) x) (only_one q at) (Contains-push found node);
}
  where
    only_one : (q : ℕ) → Contains (node ∷ []) q → node ≡ q
    only_one q (zero, within, at) = at
    only_one q (suc k, within, at) = absurd (omega (arith, within))

pub Gains-none : (found : List ℕ) → Gains found [] found
Gains-none found = record {
  front = ([], sym (append-nil found));
  only = λ q at. inl at;
  each = λ q at. absurd (omega (arith, at.1));
}

-- one more of the nodes
pub Gains-more : (old nodes found new : List ℕ) (i node : ℕ) → i < length nodes → node ≡ get_or nodes i 0 → Gains old (take i nodes) found → Gains found (node ∷ []) new → Gains old (take (i + 1) nodes) new
Gains-more old nodes found new i node low is before after =
    let step : take (i + 1) nodes ≡ take i nodes ++ node ∷ [] = take_more nodes i 0 low ∙ ap (λ (x : ℕ). take i nodes ++ x ∷ []) (sym is) in
    record {
      front = (before.front.0 ++ after.front.0, after.front.1 ∙ ap (λ (front : List ℕ). front ++ after.front.0) before.front.1 ∙ append_assoc old before.front.0 after.front.0);
      only = λ q at. rw step (⊎_elim
          (λ (early : Contains found q). ⊎_elim
          (λ (first : Contains old q). inl first)
          (λ (among : Contains (take i nodes) q). inr (Contains-append_left (take i nodes) (node ∷ []) q among))
          (before.only q early))
          (λ (last : Contains (node ∷ []) q). inr (Contains-append_right (take i nodes) (node ∷ []) q last))
          (after.only q at));
      each = λ q at. ⊎_elim
          (λ (early : Contains (take i nodes) q). rw after.front.1 (Contains-append_left found after.front.0 q (before.each q early)))
          (λ (last : Contains (node ∷ []) q). after.each q last)
          (Contains-append_cases (take i nodes) (node ∷ []) q (rw step at at));
    }

-- ---- turns

-- one more step at the end of a chain
pub Chain-more : (Leads : ℕ → ℕ → Type 0) (steps p q r : ℕ) → Chain Leads steps p q → Leads q r → Chain Leads (suc steps) p r
Chain-more Leads zero p q r same leads = (r, subst (λ (x : ℕ). Leads x r) (sym same) leads, refl)
Chain-more Leads (suc steps) p q r chain leads = (chain.0, chain.1, Chain-more Leads steps chain.0 q r chain.2 leads)

-- what is closed under steps has all that is reached from within
pub Chain-closed : (Leads : ℕ → ℕ → Type 0) (found : List ℕ) → ((p q : ℕ) → Contains found p → Leads p q → Contains found q)
    → (steps p q : ℕ) → Contains found p → Chain Leads steps p q → Contains found q
Chain-closed Leads found closed zero p q at same = subst (λ (x : ℕ). Contains found x) same at
Chain-closed Leads found closed (suc steps) p q at chain = Chain-closed Leads found closed steps chain.0 q (closed p chain.0 at chain.1) chain.2

pub IsTurn-start : (graph : List (List ℕ)) (from : ℕ) (found : List ℕ) → Gains [] (from ∷ []) found → IsTurn graph from 0 found
IsTurn-start graph from found gains = record {
  start = gains.each from (0, omega arith, refl);
  reached = λ q at. ⊎_elim
      (λ (none : Contains [] q). absurd (omega (arith, none.1)))
      (λ (one : Contains (from ∷ []) q). (0, only_one q one))
      (gains.only q at);
  seen = λ k q low leads. absurd (omega (arith, low));
}
  where
    only_one : (q : ℕ) → Contains (from ∷ []) q → from ≡ q
    only_one q (zero, within, at) = at
    only_one q (suc k, within, at) = absurd (omega (arith, within))

pub IsTurn-more : (graph : List (List ℕ)) (from turn : ℕ) (found new ends : List ℕ) → turn < length found → ends ≡ get_or graph (get_or found turn 0) []
    → IsTurn graph from turn found → Gains found ends new → IsTurn graph from (turn + 1) new
IsTurn-more graph from turn found new ends low are is gains =
    let stays : (q : ℕ) → Contains found q → Contains new q = λ q at. rw gains.front.1 (Contains-append_left found gains.front.0 q at) in
    let same : (k : ℕ) → k < length found → get_or new k 0 ≡ get_or found k 0 = λ k within. ap (λ (xs : List ℕ). get_or xs k 0) gains.front.1 ∙ get_or_append_left found gains.front.0 0 k within in
    record {
      start = stays from is.start;
      reached = λ q at. ⊎_elim
          (λ (old : Contains found q). is.reached q old)
          (λ (end : Contains ends q).
          let here : Reaches (Leads graph) from (get_or found turn 0) = is.reached (get_or found turn 0) (Contains-get_or found turn 0 low) in
          (suc here.0, Chain-more (Leads graph) here.0 from (get_or found turn 0) q here.1 (subst (λ (xs : List ℕ). Contains xs q) are end)))
          (gains.only q at);
      seen = λ k q before leads. ⊎_elim
          (λ (early : k < turn). stays q (is.seen k q early (subst (λ (p : ℕ). Leads graph p q) (same k (omega arith)) leads)))
          (λ (late : turn ≤ k).
          let now : k ≡ turn = omega arith in
          gains.each q (rw are (subst (λ (p : ℕ). Leads graph p q) (same k (omega arith) ∙ ap (λ (i : ℕ). get_or found i 0) now) leads)))
          (cases_lt k turn);
    }

-- every node that was found had its turn
pub IsTurn-end : (graph : List (List ℕ)) (from turn : ℕ) (found : List ℕ) → IsTurn graph from turn found → length found ≤ turn → AllPairs (λ p q. p ≢ q) found → IsReached graph from found
IsTurn-end graph from turn found is over once = record {
  exactly = λ q. (
    is.reached q,
    λ (reaches : Reaches (Leads graph) from q). Chain-closed (Leads graph) found
        (λ p r at leads. is.seen at.0 r (omega (arith, at.1)) (subst (λ (x : ℕ). Leads graph x r) (sym (get_or_default found at.0 0 p at.1 ∙ at.2)) leads))
        reaches.0 from q is.start reaches.1,
  );
  once = once;
}
