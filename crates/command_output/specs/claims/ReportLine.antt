-- The lines of a report, as bytes.
use Rattle.std.specs.Prelude.{ℕ, List, [], ◌∷◌, ◌++◌, codes, decimal, Option, Some, None}
use Rattle.due_model.specs.declared.config.Config.{Config}
use Rattle.due_model.specs.declared.config.ContactId.{ContactId}
use Rattle.due_model.specs.declared.notice.Kind.{Kind}
use Rattle.due_model.specs.declared.notice.Notice.{Notice}
use Rattle.due_model.specs.declared.notice.Suppression.{Suppression}
use Rattle.due_model.specs.declared.state.State.{State}
use Rattle.event_feed.specs.declared.fault.FeedFault.{FeedFault}
use Rattle.event_feed.specs.claims.Fault.{fault_name}
use Rattle.command_output.specs.claims.Fields.{field}
use Rattle.notice_text.specs.claims.Names.{filter_name, kind_name, state_name}
use Rattle.notice_text.specs.claims.Texts.{contact_text, lane_text, number_text, object_text}

-- what each of these lines begins with, after its letter: event;moment;object;kind;state
unfoldable pub head_fields : Config → (event moment object : ℕ) → Kind → State → List ℕ
head_fields c event moment object kind state =
    field (decimal event) ++ field (decimal moment) ++ field (object_text c object)
    ++ field (kind_name kind) ++ field (state_name state)

-- a notice: N;event;moment;object;kind;state;number;contact;lane
abbrev pub notice_line : Config → Notice → List ℕ
notice_line c n =
    codes "N" ++ head_fields c n.event n.moment n.object.0 n.kind n.state
    ++ field (number_text n.number) ++ field (contact_text c n.contact.0)
    ++ field (lane_text c n.lane.0) ++ 10 ∷ []

-- what an object's filter stopped: S;event;moment;object;kind;state;filter
abbrev pub stopped_line : Config → Suppression → List ℕ
stopped_line c s =
    codes "S" ++ head_fields c s.event s.moment s.object.0 s.kind s.state
    ++ field (filter_name s.filter) ++ 10 ∷ []

-- a contact that was refused: C;event;moment;object;kind;state;number;contact;filter
abbrev pub refused_contact_line : Config → Suppression → ContactId → List ℕ
refused_contact_line c s contact =
    codes "C" ++ head_fields c s.event s.moment s.object.0 s.kind s.state
    ++ field (number_text s.number) ++ field (contact_text c contact.0)
    ++ field (filter_name s.filter) ++ 10 ∷ []

abbrev pub suppression_line_of : Config → Suppression → Option ContactId → List ℕ
suppression_line_of c s None = stopped_line c s
suppression_line_of c s (Some contact) = refused_contact_line c s contact

-- a suppression, by whose filter it was
abbrev pub suppression_line : Config → Suppression → List ℕ
suppression_line c s = suppression_line_of c s s.contact

-- a refused line of the feed: R;line;fault
abbrev pub refused_line : ℕ → FeedFault → List ℕ
refused_line line fault = codes "R" ++ field (decimal line) ++ field (fault_name fault) ++ 10 ∷ []
