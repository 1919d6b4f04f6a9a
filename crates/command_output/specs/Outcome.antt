-- How a command ends: the text of what it fails with, and the exit status.
use Rattle.std.specs.Prelude.{ℕ, List, codes, ◌++◌, Result, Ok, Err}
use Rattle.object_faults.specs.declared.load_fault.LoadFault.{LoadFault}
use Rattle.object_faults.specs.declared.load_fault.LoadFault.TheVariants as load
use Rattle.object_faults.specs.LoadFaults.{fault_text as load_text}
use Rattle.command_output.specs.declared.outcome.CommandFault.{CommandFault}
use Rattle.command_output.specs.declared.outcome.CommandFault.TheVariants.{Objects, Unreadable, Output, NoMemory}
use Rattle.command_output.specs.declared.outcome.Ending.{Ending}
use Rattle.command_output.specs.declared.outcome.Ending.TheVariants.{Whole, Short, Undelivered}

-- what a program says of a fault on standard error
abbrev pub fault_text : CommandFault → List ℕ
fault_text (Objects fault) = codes "objects: " ++ load_text fault
fault_text Unreadable = codes "objects: unreadable"
fault_text Output = codes "output: failed"
fault_text NoMemory = codes "memory"

-- want of memory says nothing of an object text
abbrev pub fault_of : LoadFault → CommandFault
fault_of (load.Line line fault) = Objects (load.Line line fault)
fault_of (load.Block line fault) = Objects (load.Block line fault)
fault_of load.TooLarge = Objects load.TooLarge
fault_of load.NoMemory = NoMemory

-- ---- the exit status

abbrev pub ending_status : Ending → ℕ
ending_status Whole = 0
ending_status Short = 1
ending_status Undelivered = 3

abbrev pub fault_status : CommandFault → ℕ
fault_status (Objects fault) = 1
fault_status Unreadable = 1
fault_status Output = 1
fault_status NoMemory = 4

abbrev pub outcome_status : Result Ending CommandFault → ℕ
outcome_status (Ok ending) = ending_status ending
outcome_status (Err fault) = fault_status fault
