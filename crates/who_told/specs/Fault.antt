-- What `who` says of a fault on standard error, and its exit status.
use Rattle.std.specs.Prelude.{ℕ, List, ◌++◌, codes, Result, Ok, Err}
use Rattle.command_output.specs.Outcome.{ending_status, fault_status as command_status, fault_text as command_text}
use Rattle.command_output.specs.declared.outcome.Ending.{Ending}
use Rattle.who_told.specs.declared.fault.WhoFault.{WhoFault}
use Rattle.who_told.specs.declared.fault.WhoFault.TheVariants as fault
use Rattle.who_told.specs.declared.names.Unknown.{Unknown}
use Rattle.who_told.specs.declared.names.Unknown.TheVariants.{Host, Service, HostState, ServiceState}

abbrev pub unknown_text : Unknown → List ℕ
unknown_text (Host name) = codes "usage: no host " ++ name.now
unknown_text (Service host name) = codes "usage: no service " ++ host.now ++ codes "/" ++ name.now
unknown_text (HostState word) = codes "usage: no host state " ++ word.now
unknown_text (ServiceState word) = codes "usage: no service state " ++ word.now

abbrev pub fault_text : WhoFault → List ℕ
fault_text (fault.Unknown unknown) = unknown_text unknown
fault_text (fault.Command command) = command_text command

abbrev pub fault_status : WhoFault → ℕ
fault_status (fault.Unknown unknown) = 2
fault_status (fault.Command command) = command_status command

abbrev pub who_status : Result Ending WhoFault → ℕ
who_status (Ok ending) = ending_status ending
who_status (Err fault) = fault_status fault
