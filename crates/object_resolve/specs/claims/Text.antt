-- The configuration that object text gives, or why it gives none.
use Rattle.std.specs.Prelude.{ℕ, Bool, List, if◌then◌else◌}
use Rattle.due_model.specs.declared.config.Config.{Config}
use Rattle.object_reader.specs.declared.block.Block.{Block}
use Rattle.object_reader.specs.declared.fault.ReadFault.TheVariants as read
use Rattle.object_reader.specs.claims.Grammar.{IsObjectText, IsRefused}
use Rattle.object_faults.specs.declared.load_fault.LoadFault.{LoadFault}
use Rattle.object_faults.specs.declared.load_fault.LoadFault.TheVariants as load
use Rattle.nagios_text.specs.claims.Blocks.{plain_blocks}
use Rattle.nagios_text.specs.claims.Lone.{marked}
use Rattle.object_resolve.specs.claims.Resolve.{IsRefusal, IsResolved}

-- the text that is read, where it is read as Nagios does: directives without a value have a mark for one
abbrev pub text_read : (nagios : Bool) → List ℕ → List ℕ
text_read nagios text = if nagios then marked text else text

-- and what its blocks are taken for
abbrev pub blocks_read : (nagios : Bool) → List Block → List Block
blocks_read nagios blocks = if nagios then plain_blocks blocks else blocks

-- the text is blocks, and they give this configuration
abbrev pub IsTextOf : (nagios : Bool) → Config → List ℕ → Type 0
IsTextOf nagios config text =
    (blocks : List Block) × IsObjectText (text_read nagios text) blocks
    × IsResolved (blocks_read nagios blocks) config

-- The fault of the text: it is too large, or that of its first line with a fault, or of the first
-- of its blocks that is refused.
abbrev pub IsTextFault : (nagios : Bool) → List ℕ → LoadFault → Type 0
IsTextFault nagios text (load.Line line fault) = IsRefused (text_read nagios text) (read.AtLine line fault)
IsTextFault nagios text (load.Block line fault) =
    (blocks : List Block) × IsObjectText (text_read nagios text) blocks
    × IsRefusal (blocks_read nagios blocks) line fault
IsTextFault nagios text load.TooLarge = IsRefused (text_read nagios text) read.TooLarge
IsTextFault nagios text load.NoMemory = ⊥
