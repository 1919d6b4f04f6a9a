-- What `why` writes of a report, and how it ends.
use Rattle.std.specs.Prelude.{◌≡◌, ℕ, Bool, not, ◌&&◌, List, [], ◌∷◌, ◌++◌, filter, Option, None, Some}
use Rattle.command_output.specs.declared.outcome.Ending.{Ending}
use Rattle.due_model.specs.declared.config.Config.{Config}
use Rattle.due_model.specs.declared.zone.Zone.{Zone}
use Rattle.event_feed.specs.claims.Feed.{Answer}
use Rattle.line_forms.specs.declared.report_line.ReportLine.{ReportLine}
use Rattle.replay.specs.claims.Replay.{AreOfFeed}
use Rattle.replay.specs.claims.Report.{ending_after}
use Rattle.report_telling.specs.Lines.{report_lines}
use Rattle.why_told.specs.declared.attempts.Open.{Open}
use Rattle.why_told.specs.declared.teller.Asked.{Asked}
use Rattle.why_told.specs.Attempts.{after_line, nothing_open}
use Rattle.why_told.specs.Teller.{is_early, is_of}
use Rattle.why_told.specs.Why.{ending_text, line_text}
use Rattle.written.specs.claims.Written.{Writes, WritesFront}

-- Of the lines of an object's report, after what is open: what each adds, and at the end how what is open then ends, given the
-- last line before the span.
abbrev pub why_from : Asked → Config → Zone → Option ReportLine → Open → List ReportLine → List ℕ
why_from asked c zone before current [] = ending_text asked c zone before current
why_from asked c zone before current (line ∷ lines) =
    line_text asked c zone current line
    ++ why_from asked c zone before (after_line current line) lines

-- the last of lines, if there is one; else the one before them
abbrev pub last_of : Option ReportLine → List ReportLine → Option ReportLine
last_of before [] = before
last_of before (line ∷ lines) = last_of (Some line) lines

-- the line is of the object, before the span, and not in it
abbrev pub is_earlier : Asked → Config → ReportLine → Bool
is_earlier asked c line = not (is_of asked c line) && is_early asked c line

-- of a report: of its lines that are of what is asked
abbrev pub why_lines : Asked → Config → Zone → List ReportLine → List ℕ
why_lines asked c zone lines =
    why_from asked c zone (last_of None (filter (is_earlier asked c) lines)) nothing_open
    (filter (is_of asked c) lines)

abbrev pub why_report : Asked → Config → Zone → List Answer → List ℕ
why_report asked c zone given = why_lines asked c zone (report_lines c zone given)

-- That was written, of the report of the feed, and the reading ended so.
abbrev pub TellsWhy : Asked → (can_fail : Bool) → Config → (feed : List ℕ) → Zone → Ending
    → (old new : Option (List ℕ)) → Type 0
TellsWhy asked can_fail config feed zone ending old new =
    (given : List Answer) × AreOfFeed can_fail config feed given
    × (ending ≡ ending_after [] given) × Writes old new (why_report asked config zone given)

-- a front of it was
abbrev pub TellsWhyFront : Asked → (can_fail : Bool) → Config → (feed : List ℕ) → Zone
    → (old new : Option (List ℕ)) → Type 0
TellsWhyFront asked can_fail config feed zone old new =
    (given : List Answer) × AreOfFeed can_fail config feed given
    × WritesFront old new (why_report asked config zone given)
