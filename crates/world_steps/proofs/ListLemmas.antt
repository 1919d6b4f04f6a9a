-- Lists: a fact at one place and elsewhere, and what stands at the front or next.
use Rattle.std.proofs.Common.{◌≡◌, ◌≢◌, ℕ, ◌+◌, ◌<◌, Bool, true, List, [], ◌∷◌, ◌++◌, length, take, slice_get, is_some, Result, Ok, Err, OnOk, OnErr, Some, subst, sym, ap, ◌∙◌, arith, inl, inr}
use Rattle.std.proofs.lemmas.Bool.{cases_eq}
use Rattle.std.proofs.lemmas.List.{take_more}
use Rattle.std.proofs.lemmas.Option.{get_or_from_slice_get, slice_get_within}

-- what holds at i and elsewhere holds everywhere
pub everywhere : (P : ℕ → Type 0) (i : ℕ) → P i → ((k : ℕ) → k ≢ i → P k) → (k : ℕ) → P k
everywhere P i here others k = elim (cases_eq k i) [ inl e ↦ subst P (sym e) here | inr ne ↦ others k ne ]

module _ {X : Type 0} where
  -- whether a list has a front
  pub some_front : (xs : List X) (b : Bool) → b ≡ is_some (slice_get xs 0) → (b ≡ true → 0 < length xs) × (0 < length xs → b ≡ true)
  some_front [] b e = (λ t. absurd (cc), λ lt. absurd (omega arith))
  some_front (x ∷ xs) b e = (λ _. omega arith, λ _. e)

  -- the first elements, with the next
  pub take_found : (xs : List X) (i : ℕ) (x : X) → slice_get xs i ≡ Some x → take (i + 1) xs ≡ take i xs ++ x ∷ []
  take_found xs i x e = take_more xs i x (slice_get_within xs i x e) ∙ ap (λ y. take i xs ++ y ∷ []) (get_or_from_slice_get xs i x x e)

-- what follows from each outcome of a call
pub on_either : {T E P1 P2 Q1 Q2 R : Type 0} (r : Result T E) → (P1 → P2 → R) → (Q1 → Q2 → R) → OnOk r P1 → OnOk r P2 → OnErr r Q1 → OnErr r Q2 → R
on_either (Ok x) done left p1 p2 q1 q2 = done p1 p2
on_either (Err e) done left p1 p2 q1 q2 = left q1 q2
