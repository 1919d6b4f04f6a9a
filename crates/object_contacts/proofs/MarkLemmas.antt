-- Marks, and the numbers that are marked.
use Rattle.std.proofs.Common.{◌≡◌, ℕ, zero, suc, ◌+◌, ◌<◌, ◌≤◌, Bool, true, false, cond, eqb, List, [], ◌∷◌, ◌++◌, length, get_or, set, replicate, Some, refl, sym, ap, subst, ◌∙◌, ◌⊎◌, inl, inr, ⊎_elim, arith}
use Rattle.std.specs.Prelude.{All, Contains, ◌↔◌}
use Rattle.std.specs.List.{range_with_len}
use Rattle.std.specs.List.Sorted.{IsStrictlyIncreasing}
use Rattle.std.proofs.lemmas.Bool.{eq-eqb, eqb-true, false≢true}
use Rattle.std.proofs.lemmas.Option.{same_Some}
use Rattle.std.proofs.lemmas.List.Elements.{All-filter, Contains-append_left, Contains-push, Contains-push_cases}
use Rattle.std.proofs.lemmas.List.FromFn.{get_or-range_with_len, length-range_with_len}
use Rattle.std.proofs.lemmas.List.Kept.{IsStrictlyIncreasing-filter}
use Rattle.lemmas.proofs.Elements.{Contains-filter, Contains-from_filter, Contains-none, Contains-range}
use Rattle.lemmas.proofs.Writes.{at_set}
use Rattle.lemmas.proofs.Lists.{none-marked}
use Rattle.object_contacts.specs.claims.Lanes.{AreLanes}
use Rattle.object_contacts.specs.Marks.{IsMarked, marked, Marks, OfSome}

-- ---- marks that come to others

pub marks-none : {X : Type 0} (f : X → ℕ → Type 0) (marks : List Bool) → Marks (OfSome f []) marks marks
marks-none {X} f marks k = ((λ at. inl at), from)
  where
    from : IsMarked marks k ⊎ OfSome f [] k → IsMarked marks k
    from (inl before) = before
    from (inr some) = absurd (Contains-none some.0 some.1)

pub marks-more : {X : Type 0} (f : X → ℕ → Type 0) (xs ys : List X) (x : X) (first old new : List Bool) → ys ≡ xs ++ x ∷ []
    → Marks (OfSome f xs) first old → Marks (f x) old new → Marks (OfSome f ys) first new
marks-more {X} f xs ys x first old new more before added k = (
  (λ at. ⊎_elim earlier (λ (here : f x k). inr (x, last, here)) ((added k).0 at)),
  from,
)
  where
    last : Contains ys x
    last = subst (λ zs. Contains zs x) (sym more) (Contains-push xs x)

    earlier : IsMarked old k → IsMarked first k ⊎ OfSome f ys k
    earlier at = ⊎_elim (λ (start : IsMarked first k). inl start)
        (λ (some : OfSome f xs k). inr (some.0, subst (λ zs. Contains zs some.0) (sym more) (Contains-append_left xs (x ∷ []) some.0 some.1), some.2))
        ((before k).0 at)

    of_one : (y : X) → f y k → Contains xs y ⊎ (x ≡ y) → IsMarked new k
    of_one y says (inl front) = (added k).1 (inl ((before k).1 (inr (y, front, says))))
    of_one y says (inr same) = (added k).1 (inr (subst (λ z. f z k) (sym same) says))

    from : IsMarked first k ⊎ OfSome f ys k → IsMarked new k
    from (inl start) = (added k).1 (inl ((before k).1 (inl start)))
    from (inr some) = of_one some.0 some.2 (Contains-push_cases xs x some.0 (subst (λ zs. Contains zs some.0) more some.1))

pub marks-both : (P Q : ℕ → Type 0) (first old new : List Bool) → Marks P first old → Marks Q old new → Marks (λ k. P k ⊎ Q k) first new
marks-both P Q first old new before added k = (
  (λ at. ⊎_elim earlier (λ (here : Q k). inr (inr here)) ((added k).0 at)),
  from,
)
  where
    earlier : IsMarked old k → IsMarked first k ⊎ (P k ⊎ Q k)
    earlier at = ⊎_elim (λ (start : IsMarked first k). inl start) (λ (here : P k). inr (inl here)) ((before k).0 at)

    from : IsMarked first k ⊎ (P k ⊎ Q k) → IsMarked new k
    from (inl start) = (added k).1 (inl ((before k).1 (inl start)))
    from (inr (inl here)) = (added k).1 (inl ((before k).1 (inr here)))
    from (inr (inr here)) = (added k).1 (inr here)

-- one number more
pub mark-one : (marks : List Bool) (i : ℕ) → i < length marks → Marks (λ number. Some i ≡ Some number) marks (set marks i true)
mark-one marks i within k = by_test (eqb i k) refl
  where
    is : get_or (set marks i true) k false ≡ cond (eqb i k) true (get_or marks k false)
    is = at_set marks i k true false within

    by_test : (b : Bool) → eqb i k ≡ b → IsMarked (set marks i true) k ↔ (IsMarked marks k ⊎ (Some i ≡ Some k))
    by_test true same = (
      (λ at. inr (ap Some (eqb-true i k same))),
      (λ either. is ∙ ap (λ b. cond b true (get_or marks k false)) same),
    )
    by_test false other = (
      (λ at. inl (sym (is ∙ ap (λ b. cond b true (get_or marks k false)) other) ∙ at)),
      (λ either. is ∙ ap (λ b. cond b true (get_or marks k false)) other ∙ ⊎_elim (λ (before : IsMarked marks k). before)
          (λ (found : Some i ≡ Some k). absurd (false≢true (sym other ∙ eq-eqb i k (same_Some i k found)))) either),
    )

-- ---- the numbers that are marked

rising-range : (n : ℕ) → IsStrictlyIncreasing (range_with_len 0 n)
rising-range n k within =
    let long = length-range_with_len 0 n in
    let one = get_or-range_with_len 0 n k 0 (omega (arith, long, within)) in
    let other = get_or-range_with_len 0 n (k + 1) 0 (omega (arith, long, within)) in
    omega (arith, one, other)

is-low : (marks : List Bool) (k : ℕ) → IsMarked marks k → k < length marks
is-low [] k at = absurd (false≢true at)
is-low (m ∷ marks) zero at = omega arith
is-low (m ∷ marks) (suc k) at = let low = is-low marks k at in omega (arith, low)

pub are-lanes : (P : ℕ → Type 0) (n : ℕ) (first marks : List Bool) (numbers : List ℕ) → first ≡ replicate n false → numbers ≡ marked marks → Marks P first marks → AreLanes P numbers
are-lanes P n first marks numbers none are is = record {
  rising = subst IsStrictlyIncreasing (sym are) (IsStrictlyIncreasing-filter (λ number. get_or marks number false) (range_with_len 0 (length marks)) (rising-range (length marks)));
  exactly = λ k. (
    (λ at. to k (Contains-from_filter (λ number. get_or marks number false) (range_with_len 0 (length marks)) k (subst (λ ns. Contains ns k) are at)).1),
    (λ here. subst (λ ns. Contains ns k) (sym are) (from k ((is k).1 (inr here)))),
  );
}
  where
    to : (k : ℕ) → IsMarked marks k → P k
    to k at = ⊎_elim (λ (start : IsMarked first k). absurd (false≢true (sym (none-marked n k) ∙ ap (λ ms. get_or ms k false) (sym none) ∙ start))) (λ (here : P k). here) ((is k).0 at)

    from : (k : ℕ) → IsMarked marks k → Contains (marked marks) k
    from k at = Contains-filter (λ number. get_or marks number false) (range_with_len 0 (length marks)) k (Contains-range (length marks) k (is-low marks k at)) at

pub marked-low : (marks : List Bool) (bound : ℕ) → length marks ≤ bound → All (λ number. number < bound) (marked marks)
marked-low marks bound few = All-filter (λ number. get_or marks number false) (λ number. number < bound) (range_with_len 0 (length marks)) low
  where
    low : All (λ number. number < bound) (range_with_len 0 (length marks))
    low k d within =
        let long = length-range_with_len 0 (length marks) in
        let here : k < length marks = omega (arith, long, within) in
        let is = get_or-range_with_len 0 (length marks) k d here in
        omega (arith, is, here, few)
