-- The objects of one type among blocks: what is registered, its name and its lists (chapters
-- "Object Definitions" and "Object Inheritance").
use Rattle.std.specs.Prelude.{◌≡◌, ℕ, List}
use Rattle.object_reader.specs.declared.block.Block.{Block}
use Rattle.object_reader.specs.declared.block.BlockKind.{BlockKind}
use Rattle.object_groups.specs.claims.Objects.{objects_in, names_in}

-- ---- how they are kept

-- blocks, and a type of their objects
pub record ObjectsOf : Type 0 where
  pub blocks : List Block
  pub kind : BlockKind

-- the places and the names are those of the objects
pub record AreObjects (blocks : List Block) (kind : BlockKind) (places : List ℕ)
    (names : List (List ℕ)) : Type 0 where
  pub listed : places ≡ objects_in blocks kind
  pub named : names ≡ names_in blocks kind
