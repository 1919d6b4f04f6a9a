-- Numbers that pass a test, one by one.
use Rattle.std.proofs.Common.{◌≡◌, ℕ, ◌+◌, Bool, cond, List, [], ◌∷◌, ◌++◌, sym, ap, ◌∙◌}
use Rattle.lemmas.proofs.Lists.{filter_range_more}
use Rattle.object_warnings.specs.Numbers.{numbers_where}

-- one number more
pub one-more : (passes : ℕ → Bool) (n : ℕ) (old new : List ℕ) (flag : Bool) → old ≡ numbers_where passes n
    → new ≡ old ++ cond flag (n ∷ []) [] → flag ≡ passes n → new ≡ numbers_where passes (n + 1)
one-more passes n old new flag before more is =
    more ∙ ap (λ (xs : List ℕ). xs ++ cond flag (n ∷ []) []) before
    ∙ ap (λ (b : Bool). numbers_where passes n ++ cond b (n ∷ []) []) is
    ∙ sym (filter_range_more passes n)
