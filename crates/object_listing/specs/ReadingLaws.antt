-- Laws of what is read of directives.
use Rattle.std.proofs.Common.{Bool, cond, false, length, List, None, Option, Some, true, ℕ, ◌<◌}
use Rattle.std.specs.Prelude.{nat_eq}
use Rattle.std.specs.Option.{IfSome, option_map}
use Rattle.std.specs.Str.{bytes_eq}
use Rattle.lemmas.proofs.Searches.{position-within}
use Rattle.object_groups.specs.claims.Names.{number_of}
use Rattle.object_inheritance.specs.claims.Inherited.{name}
use Rattle.object_listing.specs.claims.Readings.{period_named, period_of}

-- a period by its name is there
pub period-few : (periods : List (List ℕ)) (text : List ℕ) → IfSome (period_named periods text) (λ p. p.0 < length periods)
period-few periods text = by_length (nat_eq (length text) 0)
  where
    by_found : (found : Option ℕ) → IfSome found (λ k. k < length periods) → IfSome (option_map period_of found) (λ p. p.0 < length periods)
    by_found None low = tt
    by_found (Some k) low = low

    by_length : (empty : Bool) → IfSome (cond empty None (option_map period_of (number_of periods text))) (λ p. p.0 < length periods)
    by_length true = tt
    by_length false = by_found (number_of periods text) (position-within (bytes_eq text) periods)
