-- Laws of resolved blocks, of any blocks.
use Rattle.std.specs.Prelude.{ℕ, List}
use Rattle.due_model.specs.claims.Accepted.{IsAccepted}
use Rattle.due_model.specs.declared.config.Config.{Config}
use Rattle.object_reader.specs.declared.block.Block.{Block}
use Rattle.object_resolve.specs.claims.Resolve.{IsRefusal, IsResolved}
use Rattle.object_faults.specs.declared.load_fault.BlockFault.{BlockFault}

-- A configuration that blocks give is accepted.
abbrev pub ResolvedIsAccepted : Type 0
ResolvedIsAccepted = (blocks : List Block) (config : Config)
    → IsResolved blocks config → IsAccepted config

-- Blocks with a fault give no configuration.
abbrev pub ResolvedIsUnrefused : Type 0
ResolvedIsUnrefused = (blocks : List Block) (config : Config) (line : ℕ) (fault : BlockFault)
    → IsResolved blocks config → IsRefusal blocks line fault → ⊥
