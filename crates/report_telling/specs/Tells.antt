-- What it does to tell a report: the teller writes its lines, or it fails.
use Rattle.std.specs.Prelude.{◌≡◌, ℕ, Bool, List, [], Option}
use Rattle.due_model.specs.declared.config.Choices.{Choices}
use Rattle.due_model.specs.declared.config.Config.{Config}
use Rattle.due_model.specs.declared.zone.Zone.{Zone}
use Rattle.event_feed.specs.claims.Feed.{Answer}
use Rattle.command_output.specs.declared.outcome.CommandFault.{CommandFault}
use Rattle.command_output.specs.declared.outcome.Ending.{Ending}
use Rattle.written.specs.claims.Written.{Writes, WritesFront}
use Rattle.command_input.specs.claims.Objects.{CommandFails, IsTextBy}
use Rattle.command_input.specs.Objects.{feed_in, objects_in}
use Rattle.replay.specs.claims.Replay.{AreOfFeed}
use Rattle.replay.specs.claims.Report.{ending_after}
use Rattle.report_telling.specs.Lines.{report_lines}
use Rattle.report_telling.specs.Told.{Form, told_report}

-- What was written is what the teller writes of the report of the feed, for the configuration of the object text, and the
-- reading ended so.
abbrev pub TellsOf : {T : Type 0} → Choices → (Config → Zone → Form T) → T → (can_fail : Bool)
    → (objects feed : List ℕ) → Zone → Ending → (old new : Option (List ℕ)) → Type 0
TellsOf choices form teller can_fail objects feed zone ending old new =
    (config : Config) × (given : List Answer) × IsTextBy choices config objects
    × AreOfFeed can_fail config feed given × (ending ≡ ending_after [] given)
    × Writes old new (told_report (form config zone) teller (report_lines config zone given))

-- what was written is a front of that
abbrev pub TellsFrontOf : {T : Type 0} → Choices → (Config → Zone → Form T) → T → (can_fail : Bool)
    → (objects feed : List ℕ) → Zone → (old new : Option (List ℕ)) → Type 0
TellsFrontOf choices form teller can_fail objects feed zone old new =
    (config : Config) × (given : List Answer) × IsTextBy choices config objects
    × AreOfFeed can_fail config feed given
    × WritesFront old new (told_report (form config zone) teller (report_lines config zone given))

-- what a fault says: a front of it is written at most
abbrev pub FailsOf : {T : Type 0} → Choices → (Config → Zone → Form T) → T
    → (text_can_fail can_fail : Bool) → (objects feed : List ℕ) → Zone → CommandFault
    → (old new : Option (List ℕ)) → Type 0
FailsOf choices form teller text_can_fail can_fail objects feed zone fault old new =
    CommandFails choices text_can_fail objects fault old new
    (TellsFrontOf choices form teller can_fail objects feed zone old new)

-- ---- of a configuration and a feed

abbrev pub TellsFor : {T : Type 0} → (Config → Zone → Form T) → T → (can_fail : Bool) → Config
    → (feed : List ℕ) → Zone → Ending → (old new : Option (List ℕ)) → Type 0
TellsFor form teller can_fail config feed zone ending old new =
    (given : List Answer) × AreOfFeed can_fail config feed given
    × (ending ≡ ending_after [] given)
    × Writes old new (told_report (form config zone) teller (report_lines config zone given))

abbrev pub TellsFrontFor : {T : Type 0} → (Config → Zone → Form T) → T → (can_fail : Bool)
    → Config → (feed : List ℕ) → Zone → (old new : Option (List ℕ)) → Type 0
TellsFrontFor form teller can_fail config feed zone old new =
    (given : List Answer) × AreOfFeed can_fail config feed given
    × WritesFront old new (told_report (form config zone) teller (report_lines config zone given))

-- ---- of one input, which has the object text, a mark, and the feed

abbrev pub Tells : {T : Type 0} → Choices → (Config → Zone → Form T) → T → (can_fail : Bool) → List ℕ → Zone
    → Ending → (old new : Option (List ℕ)) → Type 0
Tells choices form teller can_fail bytes zone ending old new =
    TellsOf choices form teller can_fail (objects_in bytes) (feed_in bytes) zone ending old new

abbrev pub TellsFront : {T : Type 0} → Choices → (Config → Zone → Form T) → T → (can_fail : Bool) → List ℕ
    → Zone → (old new : Option (List ℕ)) → Type 0
TellsFront choices form teller can_fail bytes zone old new =
    TellsFrontOf choices form teller can_fail (objects_in bytes) (feed_in bytes) zone old new

abbrev pub FailsWith : {T : Type 0} → Choices → (Config → Zone → Form T) → T → (can_fail : Bool) → List ℕ
    → Zone → CommandFault → (old new : Option (List ℕ)) → Type 0
FailsWith choices form teller can_fail bytes zone fault old new =
    FailsOf choices form teller can_fail can_fail (objects_in bytes) (feed_in bytes) zone fault old new
