-- The width of the longest of some texts.
use Rattle.std.proofs.Common.{◌≡◌, ℕ, ◌+◌, max, List, [], ◌∷◌, ◌++◌, fold, ap, refl, ◌∙◌}
use Rattle.std.specs.List.{range_with_len}
use Rattle.lemmas.proofs.Numbers.{below_more}
use Rattle.pretty_lines.specs.Columns.{characters, widest}

fold_more : (f : ℕ → ℕ → ℕ) (start : ℕ) (xs : List ℕ) (x : ℕ) → fold f start (xs ++ x ∷ []) ≡ f (fold f start xs) x
fold_more f start [] x = refl
fold_more f start (y ∷ xs) x = fold_more f (f start y) xs x

-- one text more
pub widest_more : (text : ℕ → List ℕ) (count : ℕ) → widest text (count + 1) ≡ max (widest text count) (characters (text count))
widest_more text count =
    let f : ℕ → ℕ → ℕ = λ width k. max width (characters (text k)) in
    ap (λ (xs : List ℕ). fold f 0 xs) (below_more count) ∙ fold_more f 0 (range_with_len 0 count) count
