-- What a picture keeps of a feed.
use Rattle.std.specs.Prelude.{◌≡◌, ℕ, ◌<◌, min, All, List, [], ◌∷◌, flat_map, length, Result, Ok, Err, Some, if◌then◌else◌}
use Rattle.due_model.specs.declared.config.Config.{Config}
use Rattle.due_model.specs.declared.config.ObjectId.{ObjectId}
use Rattle.due_model.specs.declared.event.Event.{Event}
use Rattle.due_model.specs.declared.zone.Zone.{Zone}
use Rattle.event_feed.specs.declared.fault.FeedFault.{FeedFault}
use Rattle.event_feed.specs.claims.Feed.{Answer}
use Rattle.line_forms.specs.declared.report_line.ReportLine.{ReportLine}
use Rattle.line_forms.specs.declared.report_line.ReportLine.TheVariants.{Decided, Refused}
use Rattle.messages.specs.declared.entries.Entry.{Entry}
use Rattle.messages.specs.claims.Entries.{event_entries}
use Rattle.night_marks.specs.declared.conditions.Change.{Change}
use Rattle.night_marks.specs.declared.kept.Kept.{Kept}
use Rattle.night_marks.specs.declared.night.Night.{Night}
use Rattle.night_marks.specs.Conditions.{event_object}
use Rattle.night_marks.specs.Kept.{IsFitMark, IsKept}
use Rattle.night_marks.specs.Night.{heard_event, nothing_heard, told_entries}
use Rattle.replay.specs.claims.Report.{is_ended, past_after}
use Rattle.report_telling.specs.Lines.{report_lines}

-- what is kept after a line of the feed, after a past: its event is heard, and what became of its messages is
-- told; a refused line changes nothing
abbrev pub night_given : Config → Zone → List Event → Night → Result Event FeedFault → Night
night_given c zone past night (Ok e) =
    told_entries (heard_event night e) (event_entries c zone e past)
night_given c zone past night (Err fault) = night

-- after what a feed answers; an event that can't be numbered ends it
abbrev pub night_on : Config → Zone → List Event → Night → List Answer → Night
night_on c zone past night [] = night
night_on c zone past night (answer ∷ answers) =
    if is_ended past answer.given then night
    else night_on c zone (past_after past answer.given) (night_given c zone past night answer.given)
    answers

-- after a feed from its beginning
abbrev pub night_of : Config → Zone → List Answer → Night
night_of c zone answers = night_on c zone [] nothing_heard answers

-- ---- what that is of the report

-- the notices and suppressions among the lines of a report, in order
abbrev pub entry_in : ReportLine → List Entry
entry_in (Decided entry) = entry ∷ []
entry_in (Refused refusal) = []

abbrev pub entries_in : List ReportLine → List Entry
entries_in lines = flat_map entry_in lines

-- objects have numbers of 16 bits, and moments are below the greatest number of 64
pub record IsFitEvent (e : Event) : Type 0 where
  pub moment : e.moment < 18446744073709551615
  pub object : (o : ObjectId) → event_object e.kind ≡ Some o → o.0 < 65536

abbrev pub IsFitAnswer : Answer → Type 0
IsFitAnswer answer = (e : Event) → answer.given ≡ Ok e → IsFitEvent e

-- all of these entries were told, and those are kept, in order, whose object isn't left out and whose moment
-- isn't before what is kept begins
pub record KeepsOf (kept : Kept) (told : ℕ) (entries : List Entry) : Type 0 where
  pub changes : List Change
  pub are : IsKept kept entries changes
  pub count : told ≡ min (length entries) 18446744073709551615

-- What a picture keeps and counts of a feed are the notices and suppressions of its report.
abbrev pub KeepsTheReport : Type 0
KeepsTheReport = (c : Config) (zone : Zone) (given : List Answer) → All IsFitAnswer given
    → All IsFitMark (entries_in (report_lines c zone given))
    → KeepsOf (night_of c zone given).kept (night_of c zone given).told
    (entries_in (report_lines c zone given))
