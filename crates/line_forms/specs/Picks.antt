-- Which lines of a report are wanted.
use Rattle.std.specs.Prelude.{ℕ, Bool, true, false, ◌&&◌, ◌==◌, List, Option, None, Some}
use Rattle.std.specs.List.{list_any}
use Rattle.std.specs.Option.{option_copied, option_map_or}
use Rattle.std.specs.Str.{bytes_eq}
use Rattle.due_model.specs.declared.config.Config.{Config}
use Rattle.due_model.specs.declared.config.ContactId.{ContactId}
use Rattle.due_model.specs.declared.config.ObjectId.{ObjectId}
use Rattle.messages.specs.declared.entries.Entry.TheVariants.{Sent, Withheld}
use Rattle.command_output.specs.LineHead.{entry_letter}
use Rattle.notice_text.specs.claims.Texts.{contact_text, object_text}
use Rattle.line_forms.specs.declared.report_line.ReportLine.{ReportLine}
use Rattle.line_forms.specs.declared.report_line.ReportLine.TheVariants.{Decided, Refused}
use Rattle.line_forms.specs.declared.picks.Picks.{Picks}

-- the letter of a line: N, S, C or R
abbrev pub letter_of : ReportLine → ℕ
letter_of (Decided entry) = entry_letter entry
letter_of (Refused refused) = 82

-- it is one of these, if any are given
abbrev pub has_letter : Option (List ℕ) → (letter : ℕ) → Bool
has_letter None letter = true
has_letter (Some letters) letter = list_any (λ byte. byte == letter) letters

-- the object that a line tells of
abbrev pub line_object : ReportLine → Option ObjectId
line_object (Decided (Sent n)) = Some n.object
line_object (Decided (Withheld s)) = Some s.object
line_object (Refused refused) = None

-- the contact that a line tells of
abbrev pub line_contact : ReportLine → Option ContactId
line_contact (Decided (Sent n)) = Some n.contact
line_contact (Decided (Withheld s)) = s.contact
line_contact (Refused refused) = None

-- the line tells of the object of this name, if one is given
abbrev pub is_of_object : Config → Option (List ℕ) → ReportLine → Bool
is_of_object c None line = true
is_of_object c (Some name) line =
    option_map_or (λ o. bytes_eq (object_text c o.0) name) (line_object line) false

-- the line tells of the contact of this name, if one is given
abbrev pub is_of_contact : Config → Option (List ℕ) → ReportLine → Bool
is_of_contact c None line = true
is_of_contact c (Some name) line =
    option_map_or (λ k. bytes_eq (contact_text c k.0) name) (line_contact line) false

-- the line meets each condition that is given
abbrev pub is_picked : Picks → Config → ReportLine → Bool
is_picked picks c line =
    has_letter (option_copied picks.only) (letter_of line)
    && is_of_contact c (option_copied picks.contact) line
    && is_of_object c (option_copied picks.object) line
