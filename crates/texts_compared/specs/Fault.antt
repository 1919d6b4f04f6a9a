-- Why a comparison was given up: its text and the exit status.
use Rattle.std.specs.Prelude.{ℕ, List, codes, ◌++◌, Result, Ok, Err}
use Rattle.object_faults.specs.LoadFaults.{fault_text as load_text}
use Rattle.command_output.specs.declared.outcome.CommandFault.{CommandFault}
use Rattle.command_output.specs.declared.outcome.CommandFault.TheVariants.{Objects, Unreadable, Output, NoMemory}
use Rattle.command_output.specs.declared.outcome.Ending.{Ending}
use Rattle.command_output.specs.Outcome.{ending_status, fault_status, fault_text}
use Rattle.texts_compared.specs.declared.fault.CompareFault.{CompareFault}
use Rattle.texts_compared.specs.declared.fault.CompareFault.TheVariants.{Command, With, WithUnreadable}

abbrev pub compare_fault_text : CompareFault → List ℕ
compare_fault_text (Command fault) = fault_text fault
compare_fault_text (With fault) = codes "with: " ++ load_text fault
compare_fault_text WithUnreadable = codes "with: unreadable"

abbrev pub compare_fault_status : CompareFault → ℕ
compare_fault_status (Command fault) = fault_status fault
compare_fault_status (With fault) = 1
compare_fault_status WithUnreadable = 1

-- what a fault of an object text is, where that is the second
abbrev pub fault_of_second : CommandFault → CompareFault
fault_of_second (Objects fault) = With fault
fault_of_second Unreadable = WithUnreadable
fault_of_second Output = Command Output
fault_of_second NoMemory = Command NoMemory

-- the exit status of a comparison
abbrev pub compare_status : Result Ending CompareFault → ℕ
compare_status (Ok ending) = ending_status ending
compare_status (Err fault) = compare_fault_status fault
