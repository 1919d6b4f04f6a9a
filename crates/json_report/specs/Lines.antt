-- The lines of a run as objects of JSON, byte by byte.
use Rattle.std.specs.Prelude.{ℕ, ◌+◌, ◌-◌, ◌*◌, nat_lt, ◌==◌, List, [], ◌∷◌, ◌++◌, codes, if◌then◌else◌}
use Rattle.due_model.specs.declared.zone.Zone.{Zone}
use Rattle.line_forms.specs.Json.{string_json}
use Rattle.local_text.specs.Text.{iso_text}
use Rattle.json_report.specs.declared.fields.FieldKind.{FieldKind}
use Rattle.json_report.specs.declared.fields.FieldKind.TheVariants.{Moment, Number, Text}
use Rattle.json_report.specs.Fields.{field_kind, field_name}

-- How far a line has come: its letter, 0 before it; the number of the field that has begun, 0 before the first; and the bytes of that.
pub record Place : Type 0 where
  pub letter : ℕ
  pub field : ℕ
  pub value : List ℕ

-- before a line
abbrev pub start : Place
start = record { letter = 0; field = 0; value = [] }

-- ---- a value

-- the number that decimal digits say, after those of another number
abbrev pub number_from : (before : ℕ) → List ℕ → ℕ
number_from before [] = before
number_from before (digit ∷ digits) =
    number_from (if nat_lt before 100000000000000000 then before * 10 + (digit - 48) else before) digits

-- a moment: its number, and what the zone's clock shows then
unfoldable pub moment_value : Zone → List ℕ → List ℕ
moment_value zone value = value ++ codes ",\"local\":\"" ++ iso_text zone (number_from 0 value) ++ codes "\""

-- a number; null where it is a `-`
abbrev pub number_value : List ℕ → List ℕ
number_value [] = codes "null"
number_value (digit ∷ digits) = if digit == 45 then codes "null" else digit ∷ digits

abbrev pub value_of : Zone → FieldKind → List ℕ → List ℕ
value_of zone Text value = string_json value
value_of zone Number value = number_value value
value_of zone Moment value = moment_value zone value

-- the value of the field that has begun, if one has
abbrev pub value_text : Zone → Place → List ℕ
value_text zone place =
    if place.field == 0 then [] else value_of zone (field_kind place.letter place.field) place.value

-- ---- a byte of a line

-- the letter begins the object
unfoldable pub letter_text : ℕ → List ℕ
letter_text letter = codes "{\"letter\":\"" ++ letter ∷ codes "\""

abbrev pub next_field : ℕ → ℕ
next_field field = if nat_lt field 255 then field + 1 else field

-- a `;` ends a field, and begins the next one
unfoldable pub next_text : Zone → Place → List ℕ
next_text zone place = value_text zone place ++ field_name place.letter (next_field place.field)

-- a newline ends the object
unfoldable pub end_text : Zone → Place → List ℕ
end_text zone place = value_text zone place ++ codes "}\n"

abbrev pub byte_text : Zone → Place → ℕ → List ℕ
byte_text zone place byte =
    if place.letter == 0 then letter_text byte
    else if byte == 59 then next_text zone place
    else if byte == 10 then end_text zone place
    else []

abbrev pub after_byte : Place → ℕ → Place
after_byte place byte =
    if place.letter == 0 then record { letter = byte; field = 0; value = [] }
    else if byte == 59 then record { letter = place.letter; field = next_field place.field; value = [] }
    else if byte == 10 then start
    else record { letter = place.letter; field = place.field; value = place.value ++ byte ∷ [] }

-- ---- the bytes of lines

-- what they add, one after another
abbrev pub bytes_text : Zone → Place → List ℕ → List ℕ
bytes_text zone place [] = []
bytes_text zone place (byte ∷ bytes) =
    byte_text zone place byte ++ bytes_text zone (after_byte place byte) bytes

abbrev pub after_bytes : Place → List ℕ → Place
after_bytes place [] = place
after_bytes place (byte ∷ bytes) = after_bytes (after_byte place byte) bytes
