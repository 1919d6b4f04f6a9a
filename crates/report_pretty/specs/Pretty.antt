-- The lines of a report for people.
use Rattle.std.specs.Prelude.{◌≡◌, ℕ, Bool, List, [], ◌∷◌, ◌++◌, filter, Option}
use Rattle.due_model.specs.declared.config.Choices.{Choices}
use Rattle.due_model.specs.declared.config.Config.{Config}
use Rattle.due_model.specs.declared.zone.Zone.{Zone}
use Rattle.event_feed.specs.claims.Feed.{Answer}
use Rattle.command_output.specs.declared.outcome.CommandFault.{CommandFault}
use Rattle.command_output.specs.declared.outcome.Ending.{Ending}
use Rattle.written.specs.claims.Written.{Writes, WritesFront}
use Rattle.command_input.specs.claims.Objects.{CommandFails, IsTextBy}
use Rattle.command_input.specs.Objects.{feed_in, objects_in}
use Rattle.replay.specs.claims.Replay.{AreOfFeed}
use Rattle.replay.specs.claims.Report.{ending_after}
use Rattle.line_forms.specs.declared.report_line.ReportLine.{ReportLine}
use Rattle.line_forms.specs.declared.picks.Picks.{Picks}
use Rattle.line_forms.specs.Picks.{is_picked}
use Rattle.report_telling.specs.Lines.{report_lines}
use Rattle.pretty_lines.specs.declared.columns.Look.{Look}
use Rattle.pretty_lines.specs.declared.runs.Run.{Run}
use Rattle.pretty_lines.specs.Columns.{widths_of}
use Rattle.pretty_lines.specs.Runs.{added, all_rest, no_runs, runs_after}

-- lines, after these rows; at the end comes how those went on that still do, by the numbers of their objects
abbrev pub pretty_from : Config → Zone → Look → List (Option Run) → List ReportLine → List ℕ
pretty_from c zone look runs [] = all_rest c zone look runs
pretty_from c zone look runs (line ∷ lines) =
    added c zone look runs line ++ pretty_from c zone look (runs_after runs line) lines

-- how lines look in a configuration, with colours or without
abbrev pub look_of : Config → (coloured : Bool) → Look
look_of c coloured = record { widths = widths_of c; coloured = coloured }

-- the lines of a report that are wanted
abbrev pub pretty_report : Picks → (coloured : Bool) → Config → Zone → List Answer → List ℕ
pretty_report picks coloured c zone given =
    pretty_from c zone (look_of c coloured) no_runs
    (filter (is_picked picks c) (report_lines c zone given))

-- What was written is that, of the report of the feed, for the configuration of the object text, and the reading ended so.
abbrev pub PrettyOf : Choices → Picks → (coloured : Bool) → (can_fail : Bool) → (objects feed : List ℕ) → Zone
    → Ending → (old new : Option (List ℕ)) → Type 0
PrettyOf choices picks coloured can_fail objects feed zone ending old new =
    (config : Config) × (given : List Answer) × IsTextBy choices config objects
    × AreOfFeed can_fail config feed given × (ending ≡ ending_after [] given)
    × Writes old new (pretty_report picks coloured config zone given)

-- what was written is a front of it
abbrev pub PrettyFrontOf : Choices → Picks → (coloured : Bool) → (can_fail : Bool) → (objects feed : List ℕ)
    → Zone → (old new : Option (List ℕ)) → Type 0
PrettyFrontOf choices picks coloured can_fail objects feed zone old new =
    (config : Config) × (given : List Answer) × IsTextBy choices config objects
    × AreOfFeed can_fail config feed given
    × WritesFront old new (pretty_report picks coloured config zone given)

-- what a fault says: a front of it is written at most
abbrev pub FailsOf : Choices → Picks → (coloured : Bool) → (text_can_fail can_fail : Bool)
    → (objects feed : List ℕ) → Zone → CommandFault → (old new : Option (List ℕ)) → Type 0
FailsOf choices picks coloured text_can_fail can_fail objects feed zone fault old new =
    CommandFails choices text_can_fail objects fault old new
    (PrettyFrontOf choices picks coloured can_fail objects feed zone old new)

-- ---- of one input, which has the object text, a mark, and the feed

abbrev pub IsPretty : Choices → Picks → (coloured : Bool) → (can_fail : Bool) → List ℕ → Zone → Ending
    → (old new : Option (List ℕ)) → Type 0
IsPretty choices picks coloured can_fail bytes zone ending old new =
    PrettyOf choices picks coloured can_fail (objects_in bytes) (feed_in bytes) zone ending old new

abbrev pub FailsWith : Choices → Picks → (coloured : Bool) → (can_fail : Bool) → List ℕ → Zone
    → CommandFault → (old new : Option (List ℕ)) → Type 0
FailsWith choices picks coloured can_fail bytes zone fault old new =
    FailsOf choices picks coloured can_fail can_fail (objects_in bytes) (feed_in bytes) zone fault old new
