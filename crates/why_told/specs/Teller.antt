-- What the teller of `why` writes of a line, and what it is after it.
use Rattle.std.specs.Prelude.{ℕ, Bool, false, ◌&&◌, nat_le, nat_lt, List, [], None, Some, if◌then◌else◌}
use Rattle.due_model.specs.declared.config.Config.{Config}
use Rattle.due_model.specs.declared.zone.Zone.{Zone}
use Rattle.messages.specs.declared.entries.Entry.TheVariants.{Sent, Withheld}
use Rattle.line_forms.specs.declared.picks.Picks.{Picks}
use Rattle.line_forms.specs.declared.report_line.ReportLine.{ReportLine}
use Rattle.line_forms.specs.declared.report_line.ReportLine.TheVariants.{Decided, Refused}
use Rattle.line_forms.specs.Picks.{is_picked}
use Rattle.why_told.specs.declared.teller.Asked.{Asked}
use Rattle.why_told.specs.declared.teller.Reasons.{Reasons}
use Rattle.why_told.specs.Attempts.{after_line}
use Rattle.why_told.specs.Why.{ending_text, line_text}

-- it is of a moment from one up to another
abbrev pub is_between : (from to : ℕ) → ReportLine → Bool
is_between from to (Decided (Sent n)) = nat_le from n.moment && nat_le n.moment to
is_between from to (Decided (Withheld s)) = nat_le from s.moment && nat_le s.moment to
is_between from to (Refused refused) = false

-- it is of an earlier moment
abbrev pub is_before : (from : ℕ) → ReportLine → Bool
is_before from (Decided (Sent n)) = nat_lt n.moment from
is_before from (Decided (Withheld s)) = nat_lt s.moment from
is_before from (Refused refused) = false

-- the lines of the object
abbrev pub picks_of : Asked → Picks
picks_of asked = record { only = None; object = Some asked.object; contact = None }

-- the line is of what is asked: of that object, in that span
abbrev pub is_of : Asked → Config → ReportLine → Bool
is_of asked c line = is_between asked.from asked.to line && is_picked (picks_of asked) c line

-- it is of that object, before that span
abbrev pub is_early : Asked → Config → ReportLine → Bool
is_early asked c line = is_before asked.from line && is_picked (picks_of asked) c line

-- nothing of a line that isn't of what is asked
abbrev pub told_line : Reasons → Config → Zone → ReportLine → List ℕ
told_line reasons c zone line =
    if is_of reasons.asked c line then line_text reasons.asked c zone reasons.current line else []

-- after a line that isn't
abbrev pub after_other : Reasons → Config → ReportLine → Reasons
after_other reasons c line =
    if is_early reasons.asked c line then record reasons { before = Some line } else reasons

abbrev pub after_told : Reasons → Config → ReportLine → Reasons
after_told reasons c line =
    if is_of reasons.asked c line
    then record reasons { current = after_line reasons.current line }
    else after_other reasons c line

abbrev pub ended_text : Reasons → Config → Zone → List ℕ
ended_text reasons c zone = ending_text reasons.asked c zone reasons.before reasons.current
