-- Lines that pass a test, one by one.
use Rattle.std.proofs.Common.{◌≡◌, ℕ, ◌+◌, Bool, true, false, cond, List, [], ◌∷◌, ◌++◌, append_assoc, append-nil, map, refl, sym, ap, ◌∙◌}
use Rattle.std.specs.List.{flat_map, range_with_len}
use Rattle.std.proofs.lemmas.List.{map-append}
use Rattle.std.proofs.lemmas.Grind.{flat_map-append}
use Rattle.lemmas.proofs.Lists.{filter_range_more}
use Rattle.lemmas.proofs.Numbers.{below_more}
use Rattle.object_reader.specs.declared.block.Block.{Block}
use Rattle.object_warnings.specs.Directives.{lines_at, lines_below}
use Rattle.object_warnings.specs.Numbers.{numbers_where}
use Rattle.object_warnings.specs.declared.lines.Line.{Line}

abbrev pub line : ℕ → ℕ → Line
line place number = record { place = place; number = number }

-- the lines of a block with so many directives
abbrev pub lines_of : (ℕ → ℕ → Bool) → (count place : ℕ) → List Line
lines_of has count place = map (line place) (numbers_where (has place) count)

one-line : (place number : ℕ) (b : Bool) → map (line place) (cond b (number ∷ []) []) ≡ cond b (line place number ∷ []) []
one-line place number true = refl
one-line place number false = refl

-- one directive more
line-more : (has : ℕ → ℕ → Bool) (count place : ℕ) → lines_of has (count + 1) place ≡ lines_of has count place ++ cond (has place count) (line place count ∷ []) []
line-more has count place =
    ap (map (line place)) (filter_range_more (has place) count)
    ∙ map-append (line place) (numbers_where (has place) count) (cond (has place count) (count ∷ []) [])
    ∙ ap (λ more. lines_of has count place ++ more) (one-line place count (has place count))

pub push-more : (has : ℕ → ℕ → Bool) (count place : ℕ) (first old new : List Line) (flag : Bool) → old ≡ first ++ lines_of has count place
    → new ≡ old ++ cond flag (line place count ∷ []) [] → flag ≡ has place count → new ≡ first ++ lines_of has (count + 1) place
push-more has count place first old new flag before more is =
    more ∙ ap (λ (xs : List Line). xs ++ cond flag (line place count ∷ []) []) before
    ∙ append_assoc first (lines_of has count place) (cond flag (line place count ∷ []) [])
    ∙ ap (λ (b : Bool). first ++ (lines_of has count place ++ cond b (line place count ∷ []) [])) is
    ∙ ap (λ (xs : List Line). first ++ xs) (sym (line-more has count place))

-- one block more
pub block-more : (has : ℕ → ℕ → Bool) (blocks : List Block) (count : ℕ) → lines_below has blocks (count + 1) ≡ lines_below has blocks count ++ lines_at has blocks count
block-more has blocks count =
    ap (flat_map (lines_at has blocks)) (below_more count)
    ∙ flat_map-append (lines_at has blocks) (range_with_len 0 count) (count ∷ [])
    ∙ ap (λ more. lines_below has blocks count ++ more) (append-nil (lines_at has blocks count))

pub blocks-more : (has : ℕ → ℕ → Bool) (blocks : List Block) (count : ℕ) (old new : List Line) → old ≡ lines_below has blocks count
    → new ≡ old ++ lines_at has blocks count → new ≡ lines_below has blocks (count + 1)
blocks-more has blocks count old new before more =
    more ∙ ap (λ (xs : List Line). xs ++ lines_at has blocks count) before ∙ sym (block-more has blocks count)
