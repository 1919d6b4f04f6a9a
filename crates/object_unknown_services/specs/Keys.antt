-- Service blocks, and blocks that name services, by descriptions.
use Rattle.std.specs.Prelude.{◌≡◌, ℕ, ◌+◌, ◌<◌, ◌↔◌, ◌⊎◌, List, [], length, unwrap_or, Contains, slice_index_or}
use Rattle.object_groups.specs.claims.Names.{number_of}
use Rattle.object_groups.specs.claims.Objects.{names_in}
use Rattle.object_reached.specs.declared.roles.Role.{Role}
use Rattle.object_reader.specs.declared.block.Block.{Block}
use Rattle.object_reader.specs.declared.block.BlockKind.TheVariants.{Service}
use Rattle.object_services.specs.claims.Doubled.{description_of, place_of}
use Rattle.object_unknown_services.specs.Named.{descriptions_at}

-- The key of a description among those of the service blocks: the number of the first that has it, and how many
-- there are where none has it.
abbrev pub key_of : (names : List (List ℕ)) → (description : List ℕ) → ℕ
key_of names description = unwrap_or (number_of names description) (length names)

-- one of the descriptions has the key
abbrev pub HasKey : (names descriptions : List (List ℕ)) → (key : ℕ) → Type 0
HasKey names descriptions key = (description : List ℕ) × Contains descriptions description
    × (key_of names description ≡ key)

-- one of the first so many service blocks stands at the place, and its description has the key
abbrev pub GivesBelow : List Block → (bound key place : ℕ) → Type 0
GivesBelow blocks bound key place = (number : ℕ) × (number < bound)
    × (place_of blocks number ≡ place)
    × (key_of (names_in blocks Service) (description_of blocks number) ≡ key)

-- one of the service blocks does
abbrev pub GivesKey : List Block → (key place : ℕ) → Type 0
GivesKey blocks key place = GivesBelow blocks (length (names_in blocks Service)) key place

-- the block at the place names in that role a description that has the key
abbrev pub NamesKey : List Block → Role → (key place : ℕ) → Type 0
NamesKey blocks role key place =
    HasKey (names_in blocks Service) (descriptions_at blocks role place) key

-- and its pair is among those that were found, with itself
abbrev pub NamesFirst : List Block → Role → (found : List (ℕ × ℕ)) → (key place : ℕ) → Type 0
NamesFirst blocks role found key place = Contains found (place, place) × NamesKey blocks role key place

-- there are so many lists, and each has exactly the places of which `P` says so
pub record AreListsOf (count : ℕ) (P : (number place : ℕ) → Type 0) (lists : List (List ℕ))
    : Type 0 where
  pub long : length lists ≡ count
  pub each : (number place : ℕ) → Contains (slice_index_or lists number []) place ↔ P number place

-- there is a list for each key
abbrev pub AreByKey : (names : List (List ℕ)) → (P : (key place : ℕ) → Type 0)
    → (lists : List (List ℕ)) → Type 0
AreByKey names P lists = AreListsOf (length names + 1) P lists

-- exactly the places of which `P` says so came to the lists
pub record Adds (P : (key place : ℕ) → Type 0) (old new : List (List ℕ)) : Type 0 where
  pub long : length new ≡ length old
  pub each : (key place : ℕ) → Contains (slice_index_or new key []) place
      ↔ (Contains (slice_index_or old key []) place ⊎ P key place)
