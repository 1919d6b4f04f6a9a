-- The lines of entries in three parts: a letter, a head that lines of one event and object share, and the end.
use Rattle.std.specs.Prelude.{ℕ, List, [], ◌∷◌, ◌++◌, Option, None, Some}
use Rattle.due_model.specs.declared.config.Config.{Config}
use Rattle.due_model.specs.declared.config.ContactId.{ContactId}
use Rattle.due_model.specs.declared.notice.Notice.{Notice}
use Rattle.due_model.specs.declared.notice.Suppression.{Suppression}
use Rattle.messages.specs.declared.entries.Entry.{Entry}
use Rattle.messages.specs.declared.entries.Entry.TheVariants.{Sent, Withheld}
use Rattle.command_output.specs.declared.line_head.LineHead.{LineHead}
use Rattle.command_output.specs.claims.Fields.{field}
use Rattle.command_output.specs.claims.ReportLine.{head_fields}
use Rattle.notice_text.specs.claims.Names.{filter_name}
use Rattle.notice_text.specs.claims.Texts.{contact_text, lane_text, number_text}

-- ---- the letter

abbrev pub suppression_letter : Option ContactId → ℕ
suppression_letter None = 83
suppression_letter (Some contact) = 67

abbrev pub entry_letter : Entry → ℕ
entry_letter (Sent n) = 78
entry_letter (Withheld s) = suppression_letter s.contact

-- ---- the head

-- the number of the notice, where the line says one
abbrev pub number_field : Option ℕ → List ℕ
number_field None = []
number_field (Some number) = field (number_text number)

abbrev pub head_text : Config → LineHead → List ℕ
head_text c head =
    head_fields c head.event head.moment head.object.0 head.kind head.state
    ++ number_field head.number

abbrev pub suppression_number : Suppression → Option ContactId → Option ℕ
suppression_number s None = None
suppression_number s (Some contact) = Some s.number

abbrev pub notice_head : Notice → LineHead
notice_head n = record {
  event = n.event;
  moment = n.moment;
  object = n.object;
  kind = n.kind;
  state = n.state;
  number = Some n.number;
}

abbrev pub suppression_head : Suppression → LineHead
suppression_head s = record {
  event = s.event;
  moment = s.moment;
  object = s.object;
  kind = s.kind;
  state = s.state;
  number = suppression_number s s.contact;
}

abbrev pub entry_head : Entry → LineHead
entry_head (Sent n) = notice_head n
entry_head (Withheld s) = suppression_head s

-- ---- the end

abbrev pub notice_end : Config → Notice → List ℕ
notice_end c n = field (contact_text c n.contact.0) ++ field (lane_text c n.lane.0) ++ 10 ∷ []

-- the contact, where a contact's filter stopped it
abbrev pub contact_field : Config → Option ContactId → List ℕ
contact_field c None = []
contact_field c (Some contact) = field (contact_text c contact.0)

abbrev pub suppression_end : Config → Suppression → List ℕ
suppression_end c s = contact_field c s.contact ++ field (filter_name s.filter) ++ 10 ∷ []

abbrev pub entry_end : Config → Entry → List ℕ
entry_end c (Sent n) = notice_end c n
entry_end c (Withheld s) = suppression_end c s
