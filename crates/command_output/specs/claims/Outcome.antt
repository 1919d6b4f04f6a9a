-- How a command ends: the text of what it fails with, and the exit status.
use Rattle.std.specs.Prelude.{◌≡◌, Bool, true}
use Rattle.command_output.specs.declared.outcome.CommandFault.{CommandFault}
use Rattle.command_output.specs.declared.outcome.CommandFault.TheVariants.{Objects, Unreadable, Output, NoMemory}

-- a fault of the writing, to a writer that can fail or can't
abbrev pub IsWriteFault : (can_fail : Bool) → CommandFault → Type 0
IsWriteFault can_fail (Objects fault) = ⊥
IsWriteFault can_fail Unreadable = ⊥
IsWriteFault can_fail Output = can_fail ≡ true
IsWriteFault can_fail NoMemory = Unit {0}
