-- Blocks that name services, without those of which an earlier one has the same lists.
use Rattle.std.specs.Prelude.{◌≡◌, ℕ, ◌+◌, ◌<◌, ◌≤◌, true, List, [], length, Contains, IfSome, slice_index_or}
use Rattle.std.proofs.Common.{eqb}
use Rattle.std.specs.Map.{lookup}
use Rattle.object_groups.specs.claims.Objects.{is_object_at, list_at, names_in}
use Rattle.object_reached.specs.declared.roles.Role.{Role}
use Rattle.object_reached.specs.Alike.{AreListsAlike, HaveLists, ListPlaces, places_eq}
use Rattle.object_reached.specs.claims.Roles.{directives_of, service_kind}
use Rattle.object_reader.specs.declared.block.Block.{Block}
use Rattle.object_reader.specs.declared.block.BlockKind.TheVariants.{Service}
use Rattle.object_unknown_services.specs.declared.distinct.Met.{Met}
use Rattle.object_unknown_services.specs.declared.keys.Namers.{Namers}
use Rattle.object_unknown_services.specs.Keys.{NamesKey}

-- the block at the place is registered, and of the type that speaks of services in that role
abbrev pub IsNamer : List Block → Role → (place : ℕ) → Type 0
IsNamer blocks role place = is_object_at blocks (service_kind role) place ≡ true

-- the two blocks have the same lists of hosts, of host groups and of descriptions
abbrev pub AreSame : List Block → Role → (one other : ℕ) → Type 0
AreSame blocks role one other = (others : ListPlaces)
    × HaveLists blocks (directives_of role) one others
    × HaveLists blocks (directives_of role) other others

-- what the block at the place lists as descriptions
abbrev pub entries_at : List Block → Role → (place : ℕ) → List (List ℕ)
entries_at blocks role place = list_at blocks (directives_of role).descriptions place

-- One of the first so many blocks names services, and so does one with the same list of descriptions.
pub record IsDistinct (blocks : List Block) (role : Role) (bound place list : ℕ) : Type 0 where
  pub low : place < bound
  pub namer : IsNamer blocks role place
  pub list_low : list < bound
  pub list_namer : IsNamer blocks role list
  pub same : entries_at blocks role list ≡ entries_at blocks role place

-- Of the first so many blocks these name services, each beside the first that has its list of descriptions; and each that
-- names services has the same lists as one of them, which doesn't come later.
pub record AreDistinct (blocks : List Block) (role : Role) (bound : ℕ) (found : List (ℕ × ℕ))
    : Type 0 where
  pub each : (place list : ℕ) → Contains found (place, list) → IsDistinct blocks role bound place list
  pub lists : (place list : ℕ) → Contains found (place, list) → Contains found (list, list)
  pub all : (place : ℕ) → place < bound → IsNamer blocks role place → (first : ℕ) × (list : ℕ)
      × (first ≤ place) × Contains found (first, list) × AreSame blocks role first place

-- what was met of the first so many blocks
pub record IsMet (blocks : List Block) (role : Role) (bound : ℕ) (met : Met) : Type 0 where
  pub alike : AreListsAlike (record { blocks = blocks; directives = directives_of role }) met.alikes
  pub distinct : AreDistinct blocks role bound met.found.items
  pub by_lists : (others : ListPlaces) → IfSome (lookup (places_eq others) met.by_lists.entries)
      (λ first. (list : ℕ) × Contains met.found.items (first, list)
      × HaveLists blocks (directives_of role) first others)
  pub by_descriptions : (place : ℕ) → IfSome (lookup (eqb place) met.by_descriptions.entries)
      (λ list. Contains met.found.items (list, list)
      × (entries_at blocks role list ≡ entries_at blocks role place))

-- The blocks that name a description of a key are, by the list of descriptions that has it, these; or they come after one of
-- these that has the same lists.
pub record AreNamers (blocks : List Block) (role : Role) (namers : Namers) : Type 0 where
  pub keys : length namers.described ≡ length (names_in blocks Service) + 1
  pub blocks_are : length namers.by_list ≡ length blocks
  pub within : (key list : ℕ) → Contains (slice_index_or namers.described key []) list
      → list < length blocks
  pub each : (key list place : ℕ) → Contains (slice_index_or namers.described key []) list
      → Contains (slice_index_or namers.by_list list []) place → NamesKey blocks role key place
  pub all : (key place : ℕ) → NamesKey blocks role key place → (first : ℕ) × (list : ℕ) × (first ≤ place)
      × Contains (slice_index_or namers.described key []) list
      × Contains (slice_index_or namers.by_list list []) first
      × AreSame blocks role first place
