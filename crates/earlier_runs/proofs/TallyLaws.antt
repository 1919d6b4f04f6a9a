-- Which letters were about to be handed over, one after another.
use Rattle.std.proofs.Common.{◌≡◌, ℕ, ◌+◌, ◌<◌, Bool, cond, List, [], ◌∷◌, ◌++◌, filter, get_or, length, take, ap, sym, ◌∙◌}
use Rattle.std.proofs.lemmas.List.Elements.{filter_more}

-- one more was looked at
pub begun_more : {X : Type 0} (p : X → Bool) (xs found new : List X) (i : ℕ) (d n : X) → i < length xs → new ≡ found ++ cond (p n) (n ∷ []) [] → n ≡ get_or xs i d
    → found ≡ filter p (take i xs) → new ≡ filter p (take (i + 1) xs)
begun_more {X} p xs found new i d n within step is so_far =
    step ∙ ap (λ (ys : List X). ys ++ cond (p n) (n ∷ []) []) so_far
    ∙ ap (λ (m : X). filter p (take i xs) ++ cond (p m) (m ∷ []) []) is
    ∙ sym (filter_more p xs i d within)
