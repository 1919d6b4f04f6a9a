-- One object more of those that are counted.
use Rattle.std.proofs.Common.{◌≡◌, ℕ, ◌+◌, Bool, true, false, cond, List, [], ◌∷◌, ◌++◌, filter, length, refl, ap, ◌∙◌}
use Rattle.std.proofs.lemmas.List.{length-append}
use Rattle.std.specs.List.{range_with_len}
use Rattle.lemmas.proofs.Lists.{filter_range_more}
use Rattle.night_marks.specs.Counts.{one_if}

one : (n : ℕ) (b : Bool) → length (cond b (n ∷ []) []) ≡ one_if b
one n true = refl
one n false = refl

-- how many of the numbers pass a test, and one number more
pub count_more : (p : ℕ → Bool) (n : ℕ) → length (filter p (range_with_len 0 (n + 1))) ≡ length (filter p (range_with_len 0 n)) + one_if (p n)
count_more p n =
    ap length (filter_range_more p n) ∙ length-append (filter p (range_with_len 0 n)) (cond (p n) (n ∷ []) [])
    ∙ ap (λ (k : ℕ). length (filter p (range_with_len 0 n)) + k) (one n (p n))
