-- What a replay does: it writes the report of its input, or fails.
use Rattle.std.specs.Prelude.{ℕ, Bool, List, Option}
use Rattle.due_model.specs.declared.config.Choices.{Choices}
use Rattle.due_model.specs.declared.zone.Zone.{Zone}
use Rattle.command_output.specs.declared.outcome.CommandFault.{CommandFault}
use Rattle.command_output.specs.declared.outcome.Ending.{Ending}
use Rattle.command_input.specs.Objects.{feed_in, objects_in}
use Rattle.replay.specs.claims.Replay.{ReportsOf, ReportsFrontOf, FailsOf}

-- ---- of one input, which has the object text, a mark, and the feed

abbrev pub Reports : Choices → (can_fail : Bool) → List ℕ → Zone → Ending → (old new : Option (List ℕ))
    → Type 0
Reports choices can_fail bytes zone ending old new =
    ReportsOf choices can_fail (objects_in bytes) (feed_in bytes) zone ending old new

abbrev pub ReportsFront : Choices → (can_fail : Bool) → List ℕ → Zone → (old new : Option (List ℕ)) → Type 0
ReportsFront choices can_fail bytes zone old new =
    ReportsFrontOf choices can_fail (objects_in bytes) (feed_in bytes) zone old new

abbrev pub FailsWith : Choices → (can_fail : Bool) → List ℕ → Zone → CommandFault
    → (old new : Option (List ℕ)) → Type 0
FailsWith choices can_fail bytes zone fault old new =
    FailsOf choices can_fail can_fail (objects_in bytes) (feed_in bytes) zone fault old new
