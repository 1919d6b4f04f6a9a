-- The lines of a report, before they have a form: for each line of the feed its refusal, or what its event adds.
use Rattle.std.specs.Prelude.{◌≡◌, ℕ, List, [], ◌∷◌, ◌++◌, flat_map, map, Result, Ok, Err, if◌then◌else◌}
use Rattle.due_model.specs.declared.config.Config.{Config}
use Rattle.due_model.specs.declared.event.Event.{Event}
use Rattle.due_model.specs.declared.zone.Zone.{Zone}
use Rattle.event_feed.specs.declared.fault.FeedFault.{FeedFault}
use Rattle.event_feed.specs.declared.fault.FeedFault.TheVariants.{Ended}
use Rattle.event_feed.specs.claims.Feed.{Answer}
use Rattle.messages.specs.claims.Entries.{event_entries}
use Rattle.line_forms.specs.Plain.{plain_text}
use Rattle.replay.specs.claims.Report.{is_ended, past_after, report_text}
use Rattle.line_forms.specs.declared.report_line.ReportLine.{ReportLine}
use Rattle.line_forms.specs.declared.report_line.ReportLine.TheVariants.{Decided, Refused}

-- the line of the feed with this number is refused
abbrev pub refusal_line : (line : ℕ) → FeedFault → ReportLine
refusal_line line fault = Refused (record { line = line; fault = fault })

-- what a line of the feed adds after a past: the entries of its event, or its refusal
abbrev pub given_lines : Config → Zone → List Event → (line : ℕ) → Result Event FeedFault
    → List ReportLine
given_lines c zone past line (Ok e) = map Decided (event_entries c zone e past)
given_lines c zone past line (Err fault) = refusal_line line fault ∷ []

-- what one answer of a feed adds to a report
abbrev pub answer_lines : Config → Zone → List Event → Answer → List ReportLine
answer_lines c zone past answer =
    if is_ended past answer.given then refusal_line answer.line Ended ∷ []
    else given_lines c zone past answer.line answer.given

-- the report of what a feed answers, after a past
abbrev pub lines_from : Config → Zone → List Event → List Answer → List ReportLine
lines_from c zone past [] = []
lines_from c zone past (answer ∷ answers) =
    answer_lines c zone past answer
    ++ (if is_ended past answer.given then []
    else lines_from c zone (past_after past answer.given) answers)

-- the report of a feed from its beginning
abbrev pub report_lines : Config → Zone → List Answer → List ReportLine
report_lines c zone answers = lines_from c zone [] answers

-- ---- as `replay` writes them

-- The report of `replay` is the text of these lines.
abbrev pub LinesAreTheReport : Type 0
LinesAreTheReport = (c : Config) (zone : Zone) (given : List Answer)
    → report_text c zone given ≡ flat_map (plain_text c) (report_lines c zone given)
