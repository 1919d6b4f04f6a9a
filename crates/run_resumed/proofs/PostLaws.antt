-- The posts of a run that goes on, one for each that was given.
use Rattle.std.proofs.Common.{◌≡◌, List, [], ◌∷◌, ◌++◌, map, ap, ap₂, sym, ◌∙◌, append_assoc}
use Rattle.std.proofs.lemmas.List.{map-append}

-- one more of each
pub grown : {P Q X : Type 0} (f : P → X) (g : Q → X) (found new : List P) (p : P) (yielded : List Q) (q : Q) → new ≡ found ++ p ∷ []
    → f p ≡ g q → map f found ≡ map g yielded → map f new ≡ map g (yielded ++ q ∷ [])
grown {P} {Q} {X} f g found new p yielded q longer same so_far =
    ap (map f) longer ∙ map-append f found (p ∷ []) ∙ ap₂ (λ (xs : List X) (x : X). xs ++ x ∷ []) so_far same
    ∙ sym (map-append g yielded (q ∷ []))

-- what comes after it is the rest
pub next_rest : {X : Type 0} (before rest whole : List X) (x : X) (after : List X) → before ++ rest ≡ whole → rest ≡ x ∷ after
    → (before ++ x ∷ []) ++ after ≡ whole
next_rest {X} before rest whole x after all is =
    append_assoc before (x ∷ []) after ∙ ap (λ (r : List X). before ++ r) (sym is) ∙ all
