-- Objects that have the name of another of their type (chapter "Object Definitions").
use Rattle.std.specs.Prelude.{ℕ, List, Contains}
use Rattle.object_reader.specs.declared.block.Block.{Block}
use Rattle.object_names.specs.declared.named.NamedKind.{NamedKind}
use Rattle.object_names.specs.claims.Named.{block_kind}
use Rattle.object_names.specs.claims.Doubled.{IsDoubledOf}

-- ---- how they are found

-- the same of one of these types
abbrev pub IsDoubledAmong : List Block → List NamedKind → ℕ → Type 0
IsDoubledAmong blocks kinds place =
    (kind : NamedKind) × Contains kinds kind × IsDoubledOf blocks (block_kind kind) place
