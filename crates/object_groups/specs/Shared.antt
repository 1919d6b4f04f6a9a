-- The lists that blocks have for a directive, by their parts: a list that other blocks have too, and the entries after it.
use Rattle.std.specs.Prelude.{◌≡◌, ℕ, ◌<◌, List, [], ◌∷◌, ◌++◌, length, map, Option, None, Some, IfSome, slice_get, slice_index_or, if◌then◌else◌}
use Rattle.std.proofs.Common.{Bool, eqb}
use Rattle.std.specs.Map.{lookup}
use Rattle.object_groups.specs.declared.shared.Parts.{Parts}
use Rattle.object_groups.specs.declared.shared.SharedList.{SharedList}
use Rattle.object_groups.specs.claims.Objects.{list_at}
use Rattle.object_inheritance.specs.claims.Inherited.{given}
use Rattle.object_inheritance.specs.Inherited.{nearest_entries}
use Rattle.object_reader.specs.declared.block.Block.{Block}

-- the entries of the text that is given to the block at a place, without the list that it is added to
abbrev pub nearest_at : List Block → List ℕ → ℕ → List (List ℕ)
nearest_at blocks directive place = nearest_entries (given blocks directive place)

-- the same where they are part of a list, and none where they aren't
abbrev pub own_part : List Block → List ℕ → ℕ → Bool → List (List ℕ)
own_part blocks directive place own = if own then nearest_at blocks directive place else []

-- the whole list of that number; none where there is no number
abbrev pub list_before : (wholes : List (List (List ℕ))) → Option ℕ → List (List ℕ)
list_before wholes None = []
list_before wholes (Some number) = slice_index_or wholes number []

-- the whole lists
abbrev pub wholes_of : List Block → List ℕ → List SharedList → List (List (List ℕ))
wholes_of blocks directive lists = map (λ list. list_at blocks directive list.place) lists

-- a shared list is one of a lower number and the entries after it
pub record IsSharedList (blocks : List Block) (directive : List ℕ)
    (wholes : List (List (List ℕ))) (number : ℕ) (list : SharedList) : Type 0 where
  pub before : IfSome list.before (λ other. other < number)
  pub entries : list_at blocks directive list.place
      ≡ list_before wholes list.before ++ nearest_at blocks directive list.place

abbrev pub AreSharedLists : List Block → List ℕ → List SharedList → Type 0
AreSharedLists blocks directive lists = (number : ℕ) (list : SharedList)
    → slice_get lists number ≡ Some list
    → IsSharedList blocks directive (wholes_of blocks directive lists) number list

-- the list of the block at the place has these parts
pub record HasParts (blocks : List Block) (directive : List ℕ)
    (wholes : List (List (List ℕ))) (place : ℕ) (parts : Parts) : Type 0 where
  pub before : IfSome parts.before (λ other. other < length wholes)
  pub entries : list_at blocks directive place
      ≡ list_before wholes parts.before ++ own_part blocks directive place parts.own

-- the same of the first of the places, as many as there are parts
pub record HaveParts (blocks : List Block) (directive : List ℕ)
    (wholes : List (List (List ℕ))) (places : List ℕ) (parts : List Parts) : Type 0 where
  pub each : (k : ℕ) (one : Parts) → slice_get parts k ≡ Some one
      → HasParts blocks directive wholes (slice_index_or places k 0) one

-- these are the parts of the lists of the blocks at the places, and the lists that they share
pub record AreShared (blocks : List Block) (directive : List ℕ) (places : List ℕ)
    (parts : List Parts) (lists : List SharedList) : Type 0 where
  pub shared : AreSharedLists blocks directive lists
  pub long : length parts ≡ length places
  pub have : HaveParts blocks directive (wholes_of blocks directive lists) places parts

-- ---- how they are found

-- the list of that number has these entries; where there is no number, there are none
pub record IsNumberOf (wholes : List (List (List ℕ))) (number : Option ℕ)
    (entries : List (List ℕ)) : Type 0 where
  pub within : IfSome number (λ other. other < length wholes)
  pub are : list_before wholes number ≡ entries

-- the lists so far, and for places of blocks the number of the list that the block has
pub record AreFound (blocks : List Block) (directive : List ℕ) (numbers : List (ℕ × ℕ))
    (lists : List SharedList) : Type 0 where
  pub shared : AreSharedLists blocks directive lists
  pub numbered : (place : ℕ) → IfSome (lookup (eqb place) numbers)
      (λ number. IsNumberOf (wholes_of blocks directive lists) (Some number)
      (list_at blocks directive place))

-- lists came to those that were there
pub record Grows (old new : List SharedList) : Type 0 where
  pub more : List SharedList
  pub are : new ≡ old ++ more

-- Of these blocks, the last found first, each has the list of the one before it, and its entries after that: the
-- first of them that of `front`, and the last is the block at the place.
abbrev pub IsChain : List Block → List ℕ → (chain : List ℕ) → (place : ℕ)
    → (front : List (List ℕ)) → Type 0
IsChain blocks directive [] place front = front ≡ list_at blocks directive place
IsChain blocks directive (at ∷ chain) place front =
    (list_at blocks directive at ≡ front ++ nearest_at blocks directive at)
    × IsChain blocks directive chain place (list_at blocks directive at)
