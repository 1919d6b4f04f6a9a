-- Objects that have the name of another of their type (chapter "Object Definitions").
use Rattle.std.specs.Prelude.{◌≡◌, ℕ, ◌<◌, true, List}
use Rattle.object_groups.specs.claims.Objects.{is_object_at, name_at}
use Rattle.object_reader.specs.declared.block.Block.{Block}
use Rattle.object_reader.specs.declared.block.BlockKind.{BlockKind}
use Rattle.object_names.specs.declared.named.NamedKind.{NamedKind}
use Rattle.object_names.specs.claims.Named.{block_kind}

-- The block at the place is an object of the type, and one of that type before it has its name.
pub record IsDoubledOf (blocks : List Block) (kind : BlockKind) (place : ℕ) : Type 0 where
  pub object : is_object_at blocks kind place ≡ true
  pub earlier : ℕ
  pub before : earlier < place
  pub also : is_object_at blocks kind earlier ≡ true
  pub same : name_at blocks kind earlier ≡ name_at blocks kind place

-- the same of some type of object that has a name of its own
abbrev pub IsDoubled : List Block → ℕ → Type 0
IsDoubled blocks place = (kind : NamedKind) × IsDoubledOf blocks (block_kind kind) place
