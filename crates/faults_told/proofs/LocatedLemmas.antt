-- The last of the files that have begun, one file after another.
use Rattle.std.proofs.Common.{◌≡◌, ℕ, ◌+◌, ◌<◌, Bool, true, false, cond, List, [], ◌∷◌, ◌++◌, filter, get_or, length, nat_lt, take, Option, Some, None, refl, sym, ap, ◌∙◌}
use Rattle.std.specs.List.{last_or}
use Rattle.std.proofs.lemmas.List.{take_more}
use Rattle.std.proofs.lemmas.List.Elements.{filter-append}
use Rattle.faults_told.specs.Located.{source_of}
use Rattle.faults_told.specs.declared.located.Source.{Source}

last-end : {X : Type 0} (o : Option X) (xs : List X) (x : X) → last_or o (xs ++ (x ∷ [])) ≡ Some x
last-end o [] x = refl
last-end o (y ∷ ys) x = last-end (Some y) ys x

nothing-more : {X : Type 0} (xs : List X) → xs ++ [] ≡ xs
nothing-more [] = refl
nothing-more (x ∷ xs) = ap (λ (ys : List _). x ∷ ys) (nothing-more xs)

-- one file more
pub source_more : (sources : List Source) (line i : ℕ) (d : Source) (found new : Option Source) → i < length sources → found ≡ source_of (take i sources) line
    → new ≡ cond (nat_lt (get_or sources i d).before line) (Some (get_or sources i d)) found → new ≡ source_of (take (i + 1) sources) line
source_more sources line i d found new within before more =
    let x = get_or sources i d in
    let begun = filter (λ (s : Source). nat_lt s.before line) (take i sources) in
    more ∙ ap (cond (nat_lt x.before line) (Some x)) before
    ∙ last (nat_lt x.before line) begun x
    ∙ ap (last_or None) (sym (filter-append (λ (s : Source). nat_lt s.before line) (take i sources) (x ∷ [])))
    ∙ ap (λ (xs : List Source). source_of xs line) (sym (take_more sources i d within))
  where
    last : (b : Bool) (xs : List Source) (x : Source) → cond b (Some x) (last_or None xs) ≡ last_or None (xs ++ cond b (x ∷ []) [])
    last true xs x = sym (last-end None xs x)
    last false xs x = ap (last_or None) (sym (nothing-more xs))
