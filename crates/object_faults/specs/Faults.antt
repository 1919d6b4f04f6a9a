-- The faults of the values that registered blocks have: which block has the first.
use Rattle.std.specs.Prelude.{List}
use Rattle.object_reader.specs.declared.block.Block.{Block}
use Rattle.object_faults.specs.declared.fault.PassFault.{PassFault}
use Rattle.object_faults.specs.declared.fault.PassFault.TheVariants.{AtLine, NoMemory}
use Rattle.object_faults.specs.claims.Faults.{IsFirstFault}

-- a refusal is the first fault, or memory ran out
abbrev pub IsRefusal : List Block → PassFault → Type 0
IsRefusal blocks (AtLine line fault) = IsFirstFault blocks line fault
IsRefusal blocks NoMemory = Unit {0}
