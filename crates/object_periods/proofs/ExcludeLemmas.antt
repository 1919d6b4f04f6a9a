-- The numbers of names.
use Rattle.std.proofs.Common.{◌≡◌, ℕ, ◌<◌, List, length, subst}
use Rattle.std.specs.Prelude.{All}
use Rattle.std.specs.Str.{bytes_eq}
use Rattle.std.proofs.lemmas.List.{length-map}
use Rattle.lemmas.proofs.Searches.{All-found, position-within}
use Rattle.object_groups.specs.claims.Names.{number_of, numbers_of}
use Rattle.object_groups.specs.claims.Objects.{name_at, names_in, objects_in}
use Rattle.object_periods.specs.claims.Periods.{excluded_at}
use Rattle.object_reader.specs.declared.block.Block.{Block}
use Rattle.object_reader.specs.declared.block.BlockKind.TheVariants.{TimePeriod}

-- each is that of a name
pub numbers-within : (names entries : List (List ℕ)) → All (λ k. k < length names) (numbers_of names entries)
numbers-within names entries = All-found (number_of names) (λ k. k < length names) (λ name. position-within (bytes_eq name) names) entries

-- there are as many names as periods
pub names-long : (blocks : List Block) → length (names_in blocks TimePeriod) ≡ length (objects_in blocks TimePeriod)
unfolding names_in
names-long blocks = length-map (objects_in blocks TimePeriod) (name_at blocks TimePeriod)

-- each is that of a period
pub excluded-within : (blocks : List Block) (place : ℕ) → All (λ k. k < length (objects_in blocks TimePeriod)) (excluded_at blocks place)
excluded-within blocks place =
    subst (λ (n : ℕ). All (λ k. k < n) (excluded_at blocks place)) (names-long blocks) (numbers-within (names_in blocks TimePeriod) _)
