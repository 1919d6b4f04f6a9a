-- The lines of a report that are wanted, in a form.
use Rattle.std.specs.Prelude.{◌≡◌, ℕ, Bool, List, [], ◌++◌, filter, flat_map, Option, if◌then◌else◌}
use Rattle.due_model.specs.declared.config.Choices.{Choices}
use Rattle.due_model.specs.declared.config.Config.{Config}
use Rattle.due_model.specs.declared.zone.Zone.{Zone}
use Rattle.event_feed.specs.claims.Feed.{Answer}
use Rattle.command_output.specs.declared.outcome.CommandFault.{CommandFault}
use Rattle.command_output.specs.declared.outcome.Ending.{Ending}
use Rattle.written.specs.claims.Written.{Writes, WritesFront}
use Rattle.command_input.specs.claims.Objects.{CommandFails, IsTextBy}
use Rattle.command_input.specs.Objects.{feed_in, objects_in}
use Rattle.replay.specs.claims.Replay.{AreOfFeed}
use Rattle.replay.specs.claims.Report.{ending_after}
use Rattle.line_forms.specs.declared.report_line.ReportLine.{ReportLine}
use Rattle.line_forms.specs.Plain.{plain_text}
use Rattle.report_telling.specs.Lines.{report_lines}
use Rattle.report_forms.specs.declared.shown.LineForm.{LineForm}
use Rattle.report_forms.specs.declared.shown.LineForm.TheVariants.{Json, Plain}
use Rattle.report_forms.specs.declared.shown.ShownLines.{ShownLines}
use Rattle.line_forms.specs.Json.{json_text}
use Rattle.line_forms.specs.Picks.{is_picked}

-- a line in a form
abbrev pub form_text : LineForm → Config → Zone → ReportLine → List ℕ
form_text Plain c zone line = plain_text c line
form_text Json c zone line = json_text c zone line

-- what is written of a line: nothing where it isn't wanted
abbrev pub shown_text : ShownLines → Config → Zone → ReportLine → List ℕ
shown_text shown c zone line =
    if is_picked shown.picks c line then form_text shown.form c zone line else []

-- the lines of a report that are wanted, one after another
abbrev pub shown_report : ShownLines → Config → Zone → List Answer → List ℕ
shown_report shown c zone given =
    flat_map (form_text shown.form c zone)
    (filter (is_picked shown.picks c) (report_lines c zone given))

-- What was written is those lines of the report of the feed, for the configuration of the object text, and the reading
-- ended so.
abbrev pub ShowsOf : Choices → ShownLines → (can_fail : Bool) → (objects feed : List ℕ) → Zone → Ending
    → (old new : Option (List ℕ)) → Type 0
ShowsOf choices shown can_fail objects feed zone ending old new =
    (config : Config) × (given : List Answer) × IsTextBy choices config objects
    × AreOfFeed can_fail config feed given × (ending ≡ ending_after [] given)
    × Writes old new (shown_report shown config zone given)

-- what was written is a front of them
abbrev pub ShowsFrontOf : Choices → ShownLines → (can_fail : Bool) → (objects feed : List ℕ) → Zone
    → (old new : Option (List ℕ)) → Type 0
ShowsFrontOf choices shown can_fail objects feed zone old new =
    (config : Config) × (given : List Answer) × IsTextBy choices config objects
    × AreOfFeed can_fail config feed given
    × WritesFront old new (shown_report shown config zone given)

-- what a fault says: a front of them is written at most
abbrev pub FailsOf : Choices → ShownLines → (text_can_fail can_fail : Bool) → (objects feed : List ℕ) → Zone
    → CommandFault → (old new : Option (List ℕ)) → Type 0
FailsOf choices shown text_can_fail can_fail objects feed zone fault old new =
    CommandFails choices text_can_fail objects fault old new
    (ShowsFrontOf choices shown can_fail objects feed zone old new)

-- ---- of one input, which has the object text, a mark, and the feed

abbrev pub Shows : Choices → ShownLines → (can_fail : Bool) → List ℕ → Zone → Ending
    → (old new : Option (List ℕ)) → Type 0
Shows choices shown can_fail bytes zone ending old new =
    ShowsOf choices shown can_fail (objects_in bytes) (feed_in bytes) zone ending old new

abbrev pub FailsWith : Choices → ShownLines → (can_fail : Bool) → List ℕ → Zone → CommandFault
    → (old new : Option (List ℕ)) → Type 0
FailsWith choices shown can_fail bytes zone fault old new =
    FailsOf choices shown can_fail can_fail (objects_in bytes) (feed_in bytes) zone fault old new
