-- What a run that goes on is given up for, and how the program then ends.
use Rattle.std.specs.Prelude.{ℕ, List, ⊤}
use Rattle.due_model.specs.declared.config.Choices.{Choices}
use Rattle.due_model.specs.declared.config.Config.{Config}
use Rattle.due_model.specs.declared.config.LaneId.{LaneId}
use Rattle.run_devices.specs.Fault.{AreRight, IsCommandFault, RunFails, run_fault_status}
use Rattle.run_resumed.specs.declared.fault.ResumeFault.{ResumeFault}
use Rattle.run_resumed.specs.declared.fault.ResumeFault.TheVariants.{Run, State}

abbrev pub resume_status : ResumeFault → ℕ
resume_status (Run fault) = run_fault_status fault
resume_status State = 1

-- As any run; or for its journals, which are looked at only where all words are right.
abbrev pub ResumeFails : (texts : List (List ℕ)) → ResumeFault → Type 0
ResumeFails texts (Run fault) = RunFails texts fault
ResumeFails texts State =
    (choices : Choices) × (config : Config) × (lanes : List LaneId)
    × AreRight choices texts config lanes

-- it is none of its channels
abbrev pub IsNoChannelFault : ResumeFault → Type 0
IsNoChannelFault (Run fault) = IsCommandFault fault
IsNoChannelFault State = ⊤
