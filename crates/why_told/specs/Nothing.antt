-- What is written where nothing was attempted.
use Rattle.std.specs.Prelude.{ℕ, ◌==◌, List, [], ◌++◌, codes, Option, None, Some, if◌then◌else◌}
use Rattle.due_model.specs.claims.Limits.{last_moment}
use Rattle.due_model.specs.declared.notice.Kind.{Kind}
use Rattle.due_model.specs.declared.state.State.{State}
use Rattle.due_model.specs.declared.zone.Zone.{Zone}
use Rattle.messages.specs.declared.entries.Entry.TheVariants.{Sent, Withheld}
use Rattle.notice_text.specs.claims.Names.{kind_name, state_name}
use Rattle.line_forms.specs.declared.report_line.ReportLine.{ReportLine}
use Rattle.line_forms.specs.declared.report_line.ReportLine.TheVariants.{Decided, Refused}
use Rattle.local_text.specs.Text.{local_text}
use Rattle.who_missed.specs.Forms.{is_json}
use Rattle.why_told.specs.declared.teller.Asked.{Asked}

-- from when on, and up to when, where that is asked
abbrev pub from_text : Zone → (moment : ℕ) → List ℕ
from_text zone moment = if moment == 0 then [] else codes " from " ++ local_text zone moment

abbrev pub to_text : Zone → (moment : ℕ) → List ℕ
to_text zone moment =
    if moment == last_moment then [] else codes " up to " ++ local_text zone moment

unfoldable pub nothing_front : Asked → Zone → List ℕ
nothing_front asked zone =
    codes "no attempt on " ++ asked.object.now ++ from_text zone asked.from ++ to_text zone asked.to

-- a kind and a state
unfoldable pub condition_text : Kind → State → List ℕ
condition_text kind state = kind_name kind ++ codes " " ++ state_name state

-- when the last attempt before was, and of what
unfoldable pub last_text : Zone → (moment : ℕ) → Kind → State → List ℕ
last_text zone moment kind state =
    codes "; the last one before: " ++ local_text zone moment ++ codes "  "
    ++ condition_text kind state

abbrev pub before_text : Zone → Option ReportLine → List ℕ
before_text zone None = []
before_text zone (Some (Decided (Sent n))) = last_text zone n.moment n.kind n.state
before_text zone (Some (Decided (Withheld s))) = last_text zone s.moment s.kind s.state
before_text zone (Some (Refused refused)) = []

-- that there was none, and which was the last before
unfoldable pub nothing_row : Asked → Zone → Option ReportLine → List ℕ
nothing_row asked zone before = nothing_front asked zone ++ before_text zone before ++ codes "\n"

-- as JSON there is nothing
abbrev pub nothing_text : Asked → Zone → Option ReportLine → List ℕ
nothing_text asked zone before =
    if is_json asked.form then [] else nothing_row asked zone before
