-- The report of a feed: for each of its lines the refusal, or what the event adds.
use Rattle.std.specs.Prelude.{ℕ, Bool, false, ◌||◌, ◌==◌, List, [], ◌∷◌, ◌++◌, length, Result, Ok, Err, if◌then◌else◌}
use Rattle.due_model.specs.declared.config.Config.{Config}
use Rattle.due_model.specs.declared.event.Event.{Event}
use Rattle.due_model.specs.declared.zone.Zone.{Zone}
use Rattle.due_model.specs.claims.Limits.{max_events}
use Rattle.messages.specs.claims.Entries.{event_entries}
use Rattle.event_feed.specs.declared.fault.FeedFault.{FeedFault}
use Rattle.event_feed.specs.declared.fault.FeedFault.TheVariants.{Ended}
use Rattle.event_feed.specs.claims.Feed.{Answer, ends_feed}
use Rattle.command_output.specs.declared.outcome.Ending.{Ending}
use Rattle.command_output.specs.declared.outcome.Ending.TheVariants.{Short, Whole}
use Rattle.command_output.specs.claims.OutputLine.{entries_text}
use Rattle.command_output.specs.claims.ReportLine.{refused_line}

-- what a line of the feed adds after a past: the lines of its event, or of its refusal
abbrev pub given_text : Config → Zone → List Event → (line : ℕ) → Result Event FeedFault → List ℕ
given_text c zone past line (Ok e) = entries_text c (event_entries c zone e past)
given_text c zone past line (Err fault) = refused_line line fault

-- the past after it, the newest event first
abbrev pub past_after : List Event → Result Event FeedFault → List Event
past_after past (Ok e) = e ∷ past
past_after past (Err fault) = past

-- an event after as many as can be numbered ends the report
abbrev pub is_ended : List Event → Result Event FeedFault → Bool
is_ended past (Ok e) = length past == max_events
is_ended past (Err fault) = false

-- what one answer of a feed adds to a report
abbrev pub answer_text : Config → Zone → List Event → Answer → List ℕ
answer_text c zone past answer =
    if is_ended past answer.given then refused_line answer.line Ended
    else given_text c zone past answer.line answer.given

-- the report of what a feed answers, after a past
abbrev pub report_from : Config → Zone → List Event → List Answer → List ℕ
report_from c zone past [] = []
report_from c zone past (answer ∷ answers) =
    answer_text c zone past answer
    ++ (if is_ended past answer.given then []
    else report_from c zone (past_after past answer.given) answers)

-- the report of a feed from its beginning
abbrev pub report_text : Config → Zone → List Answer → List ℕ
report_text c zone answers = report_from c zone [] answers

-- ---- how it ends

-- whether the feed ended before its input
abbrev pub ends_short : List Event → List Answer → Bool
ends_short past [] = false
ends_short past (answer ∷ answers) =
    is_ended past answer.given || ends_feed answer.given
    || ends_short (past_after past answer.given) answers

-- how the reading of a feed ends, after a past
abbrev pub ending_after : List Event → List Answer → Ending
ending_after past answers = if ends_short past answers then Short else Whole
