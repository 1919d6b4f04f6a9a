-- The contacts that blocks list, and how it is kept what those list that are asked for: each list once, and which of
-- them a block has.
use Rattle.std.specs.Prelude.{◌≡◌, ℕ, ◌<◌, ◌≤◌, Bool, true, false, ◌&&◌, ◌==◌, ◌⊎◌, List, [], length, map, is_none, Option, None, Some, IfSome, slice_index_or}
use Rattle.std.specs.Map.{lookup}
use Rattle.std.proofs.Common.{Global, Vec}
use Rattle.due_model.specs.claims.Limits.{max_contacts}
use Rattle.due_model.specs.declared.config.ContactId.{ContactId}
use Rattle.object_groups.specs.declared.groups.GroupKind.TheVariants.{ContactGroups}
use Rattle.object_groups.specs.Groups.{GroupsOf}
use Rattle.object_groups.specs.claims.Objects.{names_in}
use Rattle.object_listing.specs.claims.Listing.{AreThose, contact_directives, gives_neither, IsListed}
use Rattle.object_listing.specs.Listing.{AreOrigins, ListingOf}
use Rattle.object_reader.specs.declared.block.Block.{Block}
use Rattle.object_reader.specs.declared.block.BlockKind.TheVariants.{Contact}

-- The listing is that of contacts, and these are the contact groups of the same blocks, which have no more contacts
-- than fit.
pub record AreOfContacts (listing : ListingOf) (groups : GroupsOf) : Type 0 where
  pub directives_are : listing.directives ≡ contact_directives
  pub groups_are : groups ≡ record { blocks = listing.blocks; kind = ContactGroups }
  pub few : length (names_in listing.blocks Contact) ≤ max_contacts

-- these are the contacts that the block at the place lists
abbrev pub AreContactsAt : List Block → (place : ℕ) → List ContactId → Type 0
AreContactsAt blocks place contacts =
    AreThose (IsListed blocks contact_directives place) (map (λ contact. contact.0) contacts)

-- ---- what is asked for

-- the contacts of the blocks that are asked for, each of which has its flag set
pub record AskedContacts : Type 0 where
  pub blocks : List Block
  pub asked : List Bool

-- the block at the place is asked for
abbrev pub IsAsked : (asked : List Bool) → (place : ℕ) → Type 0
IsAsked asked place = slice_index_or asked place false ≡ true

-- ---- the lists by their numbers

-- the list that a block has: that of the number, or an empty one
abbrev pub list_of : List (List ContactId) → Option ℕ → List ContactId
list_of lists None = []
list_of lists (Some number) = slice_index_or lists number []

-- the block at the place has the list of that number, and none exactly where it gives neither directive
pub record HasList (blocks : List Block) (lists : List (List ContactId)) (place : ℕ)
    (number : Option ℕ) : Type 0 where
  pub within : IfSome number (λ n. n < length lists)
  pub lacks : is_none number ≡ gives_neither blocks contact_directives place
  pub contacts : AreContactsAt blocks place (list_of lists number)

-- some block that is asked for has the list of that number
abbrev pub IsAskedList : (asked : List Bool) → (numbers : List (Option ℕ)) → (number : ℕ) → Type 0
IsAskedList asked numbers number =
    (place : ℕ) × IsAsked asked place × (slice_index_or numbers place None ≡ Some number)

-- each block that is asked for has its list, and there are no lists but theirs
pub record HasLists (blocks : List Block) (asked : List Bool) (lists : List (List ContactId))
    (numbers : List (Option ℕ)) : Type 0 where
  pub each : (place : ℕ) → IsAsked asked place
      → HasList blocks lists place (slice_index_or numbers place None)
  pub only : (number : ℕ) → number < length lists → IsAskedList asked numbers number

-- the same of those below a place
pub record HasListsBelow (blocks : List Block) (asked : List Bool) (place : ℕ)
    (lists : List (List ContactId)) (numbers : List (Option ℕ)) : Type 0 where
  pub long : length numbers ≡ place
  pub each : (at : ℕ) → at < place → IsAsked asked at
      → HasList blocks lists at (slice_index_or numbers at None)
  pub only : (number : ℕ) → number < length lists → IsAskedList asked numbers number

-- ---- the lists by the origins of their blocks

-- the number of a list, for the origins of blocks
abbrev pub Entries : Type 0
Entries = List ((ℕ × ℕ) × ℕ)

abbrev pub pair_eq : ℕ × ℕ → ℕ × ℕ → Bool
pair_eq a b = a.0 == b.0 && a.1 == b.1

-- each block with these origins lists what stands in the list of that number
pub record IsListOf (blocks : List Block) (lists : List (List ContactId)) (origins : ℕ × ℕ)
    (number : ℕ) : Type 0 where
  pub within : number < length lists
  pub each : (place : ℕ) → AreOrigins blocks contact_directives place origins
      → AreContactsAt blocks place (slice_index_or lists number [])

-- the same of all that were found
abbrev pub AreFound : List Block → List (List ContactId) → Entries → Type 0
AreFound blocks lists entries = (origins : ℕ × ℕ)
    → IfSome (lookup (pair_eq origins) entries) (IsListOf blocks lists origins)

-- the lists stay, each under its number
abbrev pub Stay : (old new : List (List ContactId)) → Type 0
Stay old new = (number : ℕ) → number < length old
    → (number < length new) × (slice_index_or new number [] ≡ slice_index_or old number [])

-- The block at the place has the list of that number, where it is asked for. The others stay, and there is none more but
-- the block's own.
pub record AddsList (blocks : List Block) (place : ℕ) (asked : Bool)
    (old new : List (List ContactId)) (entries : Entries) (number : Option ℕ) : Type 0 where
  pub found : AreFound blocks new entries
  pub stay : Stay old new
  pub more : (k : ℕ) → k < length new
      → (k < length old) ⊎ ((asked ≡ true) × (number ≡ Some k))
  pub list : asked ≡ true → HasList blocks new place number

-- ---- how they are kept

abbrev pub lists_in : List (Vec ContactId Global) → List (List ContactId)
lists_in lists = map (λ list. list.items) lists
