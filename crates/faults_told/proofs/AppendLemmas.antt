-- Texts that are added one after another.
use Rattle.std.proofs.Common.{◌≡◌, ℕ, List, ◌++◌, sym, ap, ◌∙◌, append_assoc}
use Rattle.std.specs.Fmt.{decimal}

-- two
pub two_added : {X : Type 0} (old a b one new : List X) → one ≡ old ++ a → new ≡ one ++ b → new ≡ old ++ (a ++ b)
two_added old a b one new first second = second ∙ ap (λ (xs : List _). xs ++ b) first ∙ append_assoc old a b

-- the place of a line
pub place_added : (old file said colon gap one two three new : List ℕ) (number given : ℕ) → one ≡ old ++ said → two ≡ one ++ colon → three ≡ two ++ decimal given → new ≡ three ++ gap
    → said ≡ file → given ≡ number → new ≡ old ++ (file ++ colon ++ decimal number ++ gap)
place_added old file said colon gap one two three new number given first second third fourth named numbered =
    two_added old (said ++ colon ++ decimal given) gap three new
    (two_added old (said ++ colon) (decimal given) two three (two_added old said colon one two first second) third) fourth
    ∙ ap (λ (xs : List ℕ). old ++ (xs ++ colon ++ decimal given ++ gap)) named
    ∙ ap (λ (n : ℕ). old ++ (file ++ colon ++ decimal n ++ gap)) numbered

-- a place and a name
pub head_added : (old place at name said one new : List ℕ) → one ≡ old ++ at → new ≡ one ++ said → at ≡ place → said ≡ name → new ≡ old ++ (place ++ name)
head_added old place at name said one new first second placed named =
    two_added old at said one new first second
    ∙ ap (λ (xs : List ℕ). old ++ (xs ++ said)) placed
    ∙ ap (λ (xs : List ℕ). old ++ (place ++ xs)) named
