-- What is open of an object's attempts, by the lines of its report so far.
use Rattle.std.specs.Prelude.{ℕ, ◌+◌, Bool, false, ◌&&◌, ◌==◌, nat_lt, [], ◌∷◌, ◌++◌, Option, None, Some, if◌then◌else◌}
use Rattle.std.specs.List.{list_any}
use Rattle.std.specs.Str.{bytes_eq}
use Rattle.due_model.specs.declared.config.ContactId.{ContactId}
use Rattle.due_model.specs.declared.notice.Suppression.{Suppression}
use Rattle.messages.specs.declared.entries.Entry.TheVariants.{Sent, Withheld}
use Rattle.notice_text.specs.claims.Names.{filter_name, kind_name, state_name}
use Rattle.line_forms.specs.declared.report_line.ReportLine.{ReportLine}
use Rattle.line_forms.specs.declared.report_line.ReportLine.TheVariants.{Decided, Refused}
use Rattle.why_told.specs.declared.attempts.Open.{Open}

-- the same filter stops the same kind of message about the same state
abbrev pub same_stop : (s t : Suppression) → Bool
same_stop s t =
    bytes_eq (filter_name s.filter) (filter_name t.filter)
    && bytes_eq (kind_name s.kind) (kind_name t.kind)
    && bytes_eq (state_name s.state) (state_name t.state)

-- one more; a count stays at the most that it can be
abbrev pub one_more : ℕ → ℕ
one_more count = if nat_lt count 18446744073709551615 then count + 1 else count

-- nothing is
abbrev pub nothing_open : Open
nothing_open = record { stopped = None; more = 0; met = [] }

-- ---- what a filter of the object stops in a row

-- the first of a row
abbrev pub first_stop : Suppression → Open
first_stop s = record { stopped = Some s; more = 0; met = [] }

-- it goes on with the row of which that is the last
abbrev pub goes_on_from : Option Suppression → Suppression → Bool
goes_on_from None s = false
goes_on_from (Some before) s = same_stop before s

-- it goes on with the row that is open
abbrev pub goes_on : Open → Suppression → Bool
goes_on current s = goes_on_from current.stopped s

abbrev pub after_stop : Open → Suppression → Open
after_stop current s =
    if goes_on current s
    then record { stopped = Some s; more = one_more current.more; met = [] } else first_stop s

-- ---- an attempt that went out

-- the line is of this event
abbrev pub is_of_event : (event : ℕ) → ReportLine → Bool
is_of_event event (Decided (Sent n)) = n.event == event
is_of_event event (Decided (Withheld s)) = s.event == event
is_of_event event (Refused refused) = false

-- the attempt of this event is open
abbrev pub has_event : Open → (event : ℕ) → Bool
has_event current event = list_any (is_of_event event) current.met

-- after a line of an attempt that went out, of this event
abbrev pub after_out : Open → (event : ℕ) → ReportLine → Open
after_out current event line = record {
  stopped = None;
  more = 0;
  met = (if has_event current event then current.met else []) ++ line ∷ [];
}

-- ---- after a line

abbrev pub after_withheld : Open → Suppression → Option ContactId → ReportLine → Open
after_withheld current s None line = after_stop current s
after_withheld current s (Some contact) line = after_out current s.event line

abbrev pub after_line : Open → ReportLine → Open
after_line current (Decided (Sent n)) = after_out current n.event (Decided (Sent n))
after_line current (Decided (Withheld s)) =
    after_withheld current s s.contact (Decided (Withheld s))
after_line current (Refused refused) = current
