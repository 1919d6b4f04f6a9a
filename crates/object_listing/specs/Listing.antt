-- What blocks list by the names of objects and of groups of them (chapter "Object Definitions").
use Rattle.std.specs.Prelude.{◌≡◌, ℕ, List, Contains, ◌⊎◌, ◌↔◌}
use Rattle.object_reader.specs.declared.block.Block.{Block}
use Rattle.object_inheritance.specs.Columns.{Column}
use Rattle.object_inheritance.specs.claims.Inherited.{given, own, value}
use Rattle.object_listing.specs.claims.Listing.{Directives}

-- The blocks at these two places have what the block at the place has: the one its list of objects, the other its
-- list of groups.
pub record AreOrigins (blocks : List Block) (listing : Directives) (place : ℕ)
    (origins : ℕ × ℕ) : Type 0 where
  pub objects : given blocks listing.objects origins.0 ≡ given blocks listing.objects place
  pub groups : given blocks listing.groups origins.1 ≡ given blocks listing.groups place

-- They give it themselves, where it has any.
pub record AreGivers (blocks : List Block) (listing : Directives) (place : ℕ)
    (origins : ℕ × ℕ) : Type 0 where
  pub objects : own blocks listing.objects origins.0 ≡ value blocks listing.objects place
  pub groups : own blocks listing.groups origins.1 ≡ value blocks listing.groups place

-- ---- how it is kept and found

-- blocks, and two directives
pub record ListingOf : Type 0 where
  pub blocks : List Block
  pub directives : Directives

-- what all blocks have for both directives
pub record AreLists (blocks : List Block) (objects groups : Column)
    (listing : Directives) : Type 0 where
  pub objects_are : objects ≡ record { blocks = blocks; directive = listing.objects }
  pub groups_are : groups ≡ record { blocks = blocks; directive = listing.groups }

-- these numbers, and exactly those beside them of which `P` says so
abbrev pub Adds : (P : ℕ → Type 0) → (old new : List ℕ) → Type 0
Adds P old new = (k : ℕ) → Contains new k ↔ (Contains old k ⊎ P k)
