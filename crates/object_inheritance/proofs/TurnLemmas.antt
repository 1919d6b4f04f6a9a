-- The turns of a search for lines of dates.
use Rattle.std.proofs.Common.{◌≡◌, ℕ, ◌+◌, List, [], ◌∷◌, ◌++◌, length, map, Option, Some, None, refl, sym, ap, ◌∙◌, arith}
use Rattle.std.specs.Prelude.{MatchOption, reverse}
use Rattle.std.specs.Option.{option_to_list}
use Rattle.std.proofs.lemmas.List.{reverse-append}
use Rattle.object_inheritance.specs.declared.dated_lines.Turn.{Turn}
use Rattle.object_inheritance.specs.declared.dated_lines.Turn.TheVariants.{Enter, Leave}
use Rattle.object_inheritance.specs.LineSearch.{IsNextTurn}

-- ---- the next turn

no-items : {X : Type 0} (xs : List X) → length xs ≡ 0 → xs ≡ []
no-items [] none = refl
no-items (x ∷ xs) none = absurd (omega (arith, none))

pub next-is : (old new : List Turn) (n m : ℕ) (next : Option Turn) → old ≡ new ++ option_to_list next → n ≡ length old → MatchOption next ((n ≡ 0) × (m ≡ 0)) (λ _. m + 1 ≡ n)
    → IsNextTurn (reverse old) next (reverse new)
next-is old new n m None is long cases = ap (λ (turns : List Turn). reverse turns) (no-items old (sym long ∙ cases.0))
next-is old new n m (Some turn) is long cases = ap (λ (turns : List Turn). reverse turns) is ∙ reverse-append new (turn ∷ [])

pub left-first : (turns new : List Turn) (place : ℕ) → new ≡ turns ++ Leave place ∷ [] → reverse new ≡ Leave place ∷ reverse turns
left-first turns new place is = ap (λ (ts : List Turn). reverse ts) is ∙ reverse-append turns (Leave place ∷ [])

pub turns-more : (used rest : List ℕ) (place : ℕ) (first old new : List Turn) → used ≡ place ∷ rest → reverse old ≡ map Enter rest ++ first → new ≡ old ++ Enter place ∷ [] → reverse new ≡ map Enter used ++ first
turns-more used rest place first old new is before more =
    ap (λ (ts : List Turn). reverse ts) more ∙ reverse-append old (Enter place ∷ []) ∙ ap (λ (ts : List Turn). Enter place ∷ ts) before
    ∙ ap (λ (ps : List ℕ). map Enter ps ++ first) (sym is)
