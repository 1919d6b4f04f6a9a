-- The number that digits write.
use Rattle.std.proofs.Common.{◌≡◌, ℕ, ◌+◌, ◌-◌, ◌*◌, ◌<◌, List, [], ◌∷◌, length, map, take, get_or, ap, ◌∙◌}
use Rattle.std.proofs.lemmas.List.{take_more, map-append}
use Rattle.std.proofs.lemmas.Int.Digits.{number_push}
use Rattle.object_values.specs.claims.Values.{number_of}

-- one more digit
pub number_of-more : (digits : List ℕ) (at : ℕ) → at < length digits
    → number_of (take (at + 1) digits) ≡ number_of (take at digits) * 10 + (get_or digits at 0 - 48)
number_of-more digits at within =
    ap number_of (take_more digits at 0 within)
    ∙ rw (map-append (λ (digit : ℕ). digit - 48) (take at digits) (get_or digits at 0 ∷ [])) (number_push 10 (map (λ digit. digit - 48) (take at digits)) (get_or digits at 0 - 48))
