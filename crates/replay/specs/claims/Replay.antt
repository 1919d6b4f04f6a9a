-- What a replay does: it writes the report of its input, or fails.
use Rattle.std.specs.Prelude.{◌≡◌, ℕ, Bool, List, [], Option}
use Rattle.due_model.specs.declared.config.Choices.{Choices}
use Rattle.due_model.specs.declared.config.Config.{Config}
use Rattle.due_model.specs.declared.zone.Zone.{Zone}
use Rattle.event_feed.specs.claims.Feed.{Answer, AreGiven, answers}
use Rattle.text_lines.specs.claims.Lines.{pieces}
use Rattle.command_output.specs.declared.outcome.CommandFault.{CommandFault}
use Rattle.command_output.specs.declared.outcome.Ending.{Ending}
use Rattle.written.specs.claims.Written.{Writes, WritesFront}
use Rattle.command_input.specs.claims.Objects.{CommandFails, IsTextBy}
use Rattle.replay.specs.claims.Report.{ending_after, report_text}

-- the answers are those of a feed from its first line on
abbrev pub AreOfFeed : (can_fail : Bool) → Config → List ℕ → List Answer → Type 0
AreOfFeed can_fail config feed given =
    AreGiven can_fail given (answers config.objects 0 0 (pieces feed)) 0 (pieces feed)

-- What was written is the report of the feed for the configuration of the object text, and the reading ended so.
abbrev pub ReportsOf : Choices → (can_fail : Bool) → (objects feed : List ℕ) → Zone → Ending
    → (old new : Option (List ℕ)) → Type 0
ReportsOf choices can_fail objects feed zone ending old new =
    (config : Config) × (given : List Answer) × IsTextBy choices config objects
    × AreOfFeed can_fail config feed given × (ending ≡ ending_after [] given)
    × Writes old new (report_text config zone given)

-- what was written is a front of such a report
abbrev pub ReportsFrontOf : Choices → (can_fail : Bool) → (objects feed : List ℕ) → Zone
    → (old new : Option (List ℕ)) → Type 0
ReportsFrontOf choices can_fail objects feed zone old new =
    (config : Config) × (given : List Answer) × IsTextBy choices config objects
    × AreOfFeed can_fail config feed given
    × WritesFront old new (report_text config zone given)

-- what a fault says: a front of the report is written at most
abbrev pub FailsOf : Choices → (text_can_fail can_fail : Bool) → (objects feed : List ℕ) → Zone
    → CommandFault → (old new : Option (List ℕ)) → Type 0
FailsOf choices text_can_fail can_fail objects feed zone fault old new =
    CommandFails choices text_can_fail objects fault old new
    (ReportsFrontOf choices can_fail objects feed zone old new)
