-- The ends of edges, and edges one list more.
use Rattle.std.proofs.Common.{[], ap, arith, Bool, cond, eq-eqb, eqb, eqb-true, false, filter, get_or, length, List, map, refl, subst, sym, true, ℕ, ⊎_elim, ◌++◌, ◌+◌, ◌<◌, ◌∙◌, ◌∷◌, ◌≡◌, ◌≤◌}
use Rattle.std.proofs.lemmas.List.{append-nil, flat_map_more, get_or_append_left, get_or_past, length_push, map-append}
use Rattle.std.proofs.lemmas.List.Elements.{All-append, All-map, All-weaker, filter-append}
use Rattle.std.specs.List.{flat_map, range_with_len}
use Rattle.std.proofs.lemmas.Bool.{cases_lt, false≢true}
use Rattle.std.proofs.Math.Seq.{get_or-append_seam}
use Rattle.std.specs.Prelude.{All}
use Rattle.lemmas.proofs.Numbers.{below_more}
use Rattle.graph.specs.declared.edges.Edge.{Edge}
use Rattle.graph.specs.Edges.{ends_of, IsWithin}

pub ends-append : (xs ys : List Edge) (p : ℕ) → ends_of (xs ++ ys) p ≡ ends_of xs p ++ ends_of ys p
ends-append xs ys p =
    ap (map (λ (edge : Edge). edge.to)) (filter-append (λ (edge : Edge). eqb edge.from p) xs ys)
    ∙ map-append (λ (edge : Edge). edge.to) (filter (λ (edge : Edge). eqb edge.from p) xs) (filter (λ (edge : Edge). eqb edge.from p) ys)

pub edges-more : (f : ℕ → List Edge) (first : List Edge) (n : ℕ) (old new one : List Edge) → old ≡ first ++ flat_map f (range_with_len 0 n) → new ≡ old ++ one → one ≡ f n
    → new ≡ first ++ flat_map f (range_with_len 0 (n + 1))
edges-more f first n old new one before more is =
    more ∙ ap (λ edges. edges ++ one) before ∙ ap (λ edges. (first ++ flat_map f (range_with_len 0 n)) ++ edges) is
    ∙ flat_map_more f first (range_with_len 0 n) n ∙ ap (λ numbers. first ++ flat_map f numbers) (sym (below_more n))

-- the edges from one node
abbrev edge_from : ℕ → ℕ → Edge
edge_from place to = record { from = place; to = to }

pub ends-from : (place p : ℕ) (b : Bool) → eqb place p ≡ b → (tos : List ℕ) → ends_of (map (edge_from place) tos) p ≡ cond b tos []
ends-from place p true is [] = refl
ends-from place p false is [] = refl
ends-from place p true is (to ∷ tos) = rw is (ap (λ more. to ∷ more) (ends-from place p true is tos))
ends-from place p false is (to ∷ tos) = rw is (ends-from place p false is tos)

-- one more list of ends
pub get_or-snoc : (lists : List (List ℕ)) (list : List ℕ) (p : ℕ) (b : Bool) → eqb (length lists) p ≡ b
    → get_or (lists ++ list ∷ []) p [] ≡ get_or lists p [] ++ cond b list []
get_or-snoc lists list p true is =
    let here : length lists ≡ p = eqb-true (length lists) p is in
    rw (← here) (get_or-append_seam lists list [] [] ∙ ap (λ none. none ++ list) (sym (get_or_past lists (length lists) [] (omega arith))))
get_or-snoc lists list p false is = ⊎_elim
    (λ (low : p < length lists). get_or_append_left lists (list ∷ []) [] p low ∙ sym (append-nil (get_or lists p [])))
    (λ (past : length lists ≤ p). ⊎_elim
    (λ (further : length lists < p). get_or_past (lists ++ list ∷ []) p [] (let long = length_push lists list in omega (arith, long))
    ∙ sym (append-nil (get_or lists p []) ∙ get_or_past lists p [] past))
    (λ (back : p ≤ length lists). let same : length lists ≡ p = omega arith in absurd (false≢true (sym is ∙ eq-eqb (length lists) p same)))
    (cases_lt (length lists) p))
    (cases_lt p (length lists))

pub within-more : (n place : ℕ) (old new : List Edge) (tos : List ℕ) → place < n → All (λ q. q < n) tos → All (IsWithin n) old
    → new ≡ old ++ map (edge_from place) tos → All (IsWithin n) new
within-more n place old new tos low ends before more =
    let added : All (IsWithin n) (map (edge_from place) tos) = All-map (IsWithin n) (edge_from place) tos
    (All-weaker (λ q. q < n) (λ q. IsWithin n (edge_from place q)) (λ q at. record { from = low; to = at }) tos ends) in
    subst (λ (edges : List Edge). All (IsWithin n) edges) (sym more) (All-append (IsWithin n) old (map (edge_from place) tos) before added)
