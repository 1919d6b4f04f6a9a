-- Laws of edges, of the nodes below a bound, and of those that a list names.
use Rattle.std.proofs.Common.{ap, cond, eqb, false, filter, inl, inr, length, List, map, nat_lt, None, refl, Some, subst, sym, true, [], ⊎_elim, Bool, ℕ, ◌+◌, ◌<◌, ◌⊎◌, ◌∙◌, ◌≡◌}
use Rattle.std.specs.Prelude.{slice_index, Contains, ◌↔◌}
use Rattle.std.specs.List.{dedup, IsAllAdjacentAnswer}
use Rattle.std.specs.List.Sorted.{IsPermutation, IsSorted, IsStrictlyIncreasing}
use Rattle.std.specs.Ordering.{nat_cmp}
use Rattle.std.proofs.lemmas.Bool.{false≢true, lt-ltb, ltb-true}
use Rattle.lemmas.proofs.Elements.{Contains-cases, Contains-filter, Contains-from_filter, Contains-from_map, Contains-here, Contains-map, Contains-none, in_order-rising, in_order-same}
use Rattle.graph.specs.declared.edges.Edge.{Edge}
use Rattle.object_groups.specs.ListEdges.{edge, named, nodes_of}
use Rattle.object_groups.specs.claims.Names.{is_all, Lists, numbers_of}
use Rattle.object_groups.specs.Nodes.{AreBelow}
use Rattle.object_groups.specs.ObjectLaws.{numbers-within}

pub edge-from : (a b from to : ℕ) → edge a b ≡ edge from to → from ≡ a
edge-from a b from to is = sym (ap (λ (e : Edge). e.from) is)

pub edge-to : (a b from to : ℕ) → edge a b ≡ edge from to → to ≡ b
edge-to a b from to is = sym (ap (λ (e : Edge). e.to) is)

-- numbers that rise, and are those of the nodes that are below the bound
pub below-from : (objects : ℕ) (nodes found : List ℕ) → IsStrictlyIncreasing found → ((k : ℕ) → Contains found k ↔ Contains (filter (λ node. nat_lt node objects) nodes) k)
    → AreBelow objects nodes found
below-from objects nodes found rising same = record {
  rising = rising;
  exactly = λ k. (
    (λ here. let on = Contains-from_filter (λ node. nat_lt node objects) nodes k ((same k).0 here) in (on.0, ltb-true k objects on.1)),
    (λ both. (same k).1 (Contains-filter (λ node. nat_lt node objects) nodes k both.0 (lt-ltb k objects both.1))),
  );
}

pub below-from_sorted : (objects : ℕ) (nodes ys zs : List ℕ) → IsPermutation (filter (λ node. nat_lt node objects) nodes) ys → IsSorted nat_cmp ys → zs ≡ dedup eqb ys
    → AreBelow objects nodes zs
below-from_sorted objects nodes ys zs moved sorted is = below-from objects nodes zs
    (in_order-rising (filter (λ node. nat_lt node objects) nodes) ys zs moved sorted is)
    (in_order-same (filter (λ node. nat_lt node objects) nodes) ys zs moved sorted is)

-- what `is_sorted_by` says, asked whether each number is below the next
pub rising-answer : (xs : List ℕ) (answer : Bool) → IsAllAdjacentAnswer (λ x y b. b ≡ nat_lt x y) xs answer → (answer ≡ true) ↔ IsStrictlyIncreasing xs
rising-answer xs true all = ((λ is k low. ltb-true (slice_index xs k) (slice_index xs (k + 1)) (sym (all k 0 low))), (λ rises. refl))
rising-answer xs false some =
    ((λ is. absurd (false≢true is)), (λ rises. absurd (false≢true (some.2 0 ∙ lt-ltb (slice_index xs some.0) (slice_index xs (some.0 + 1)) (rises some.0 some.1)))))

-- ---- the nodes that a list names

-- a list names one: by the node of all, or by its own
abbrev pub ToNode : (names entries : List (List ℕ)) (first all k : ℕ) → Type 0
ToNode names entries first all k =
    Contains (nodes_of names entries first (Some all)) all ⊎ Contains (nodes_of names entries first (Some all)) (first + k)

pub to-node : (names entries : List (List ℕ)) (first all k : ℕ) → Lists names entries k → ToNode names entries first all k
to-node names entries first all k lists = by_all (is_all entries) refl lists
  where
    by_all : (b : Bool) → is_all entries ≡ b → Lists names entries k → ToNode names entries first all k
    by_all true is lists = inl (subst (λ (c : Bool). Contains (named names entries first (cond c (Some all) None)) all) (sym is) (Contains-here all []))
    by_all false is (inl every) = absurd (false≢true (sym is ∙ every.0))
    by_all false is (inr has) = inr (subst (λ (c : Bool). Contains (named names entries first (cond c (Some all) None)) (first + k)) (sym is) (Contains-map (λ number. first + number) (numbers_of names entries) k has))

-- a node is that of all, or that of one that the list names
abbrev pub FromNode : (names entries : List (List ℕ)) (first all node : ℕ) → Type 0
FromNode names entries first all node = ((node ≡ all) × (is_all entries ≡ true))
    ⊎ ((k : ℕ) × (k < length names) × (node ≡ first + k) × Contains (numbers_of names entries) k)

pub from-node : (names entries : List (List ℕ)) (first all node : ℕ) → Contains (nodes_of names entries first (Some all)) node → FromNode names entries first all node
from-node names entries first all node at = by_all (is_all entries) refl
  where
    given : (b : Bool) → is_all entries ≡ b → Contains (named names entries first (cond b (Some all) None)) node
    given b is = subst (λ (c : Bool). Contains (named names entries first (cond c (Some all) None)) node) is at

    by_all : (b : Bool) → is_all entries ≡ b → FromNode names entries first all node
    by_all true is = ⊎_elim
        (λ (here : all ≡ node). inl (sym here, is))
        (λ (later : Contains [] node). absurd (Contains-none node later))
        (Contains-cases all node [] (given true is))
    by_all false is =
        let on = Contains-from_map (λ number. first + number) (numbers_of names entries) node (given false is) in
        inr (on.0, numbers-within names entries on.0 on.1, sym on.2, on.1)
