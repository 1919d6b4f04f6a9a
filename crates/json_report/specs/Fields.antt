-- The fields of the lines that a run writes, by the letter of the line and the number of the field, which is 1 for the first.
use Rattle.std.specs.Prelude.{ℕ, nat_lt, ◌==◌, ◌||◌, List, codes, if◌then◌else◌}
use Rattle.json_report.specs.declared.fields.FieldKind.{FieldKind}
use Rattle.json_report.specs.declared.fields.FieldKind.TheVariants.{Moment, Number, Text}

-- ---- what comes before their values: a comma, the name and a colon

-- R;line;fault
abbrev pub refused_name : ℕ → List ℕ
refused_name field = if field == 1 then codes ",\"line\":" else codes ",\"fault\":"

-- what the lines of suppressions begin with: event;moment;object;kind;state
abbrev pub head_name : ℕ → List ℕ
head_name field =
    if field == 1 then codes ",\"event\":"
    else if field == 2 then codes ",\"moment\":"
    else if field == 3 then codes ",\"object\":"
    else if field == 4 then codes ",\"kind\":"
    else codes ",\"state\":"

-- S;..;filter
abbrev pub stopped_name : ℕ → List ℕ
stopped_name field = if nat_lt field 6 then head_name field else codes ",\"filter\":"

-- C;..;number;contact;filter
abbrev pub refused_contact_name : ℕ → List ℕ
refused_contact_name field =
    if nat_lt field 6 then head_name field
    else if field == 6 then codes ",\"number\":"
    else if field == 7 then codes ",\"contact\":"
    else codes ",\"filter\":"

-- T;command;event;object;contact, and U
abbrev pub letter_name : ℕ → List ℕ
letter_name field =
    if field == 1 then codes ",\"command\":"
    else if field == 2 then codes ",\"event\":"
    else if field == 3 then codes ",\"object\":"
    else codes ",\"contact\":"

-- G;command;n;count
abbrev pub channel_name : ℕ → List ℕ
channel_name field =
    if field == 1 then codes ",\"command\":" else if field == 2 then codes ",\"n\":" else codes ",\"count\":"

-- Z;command;why
abbrev pub closed_name : ℕ → List ℕ
closed_name field = if field == 1 then codes ",\"command\":" else codes ",\"why\":"

-- J;command;earlier;claimed;new;again
abbrev pub journal_name : ℕ → List ℕ
journal_name field =
    if field == 1 then codes ",\"command\":"
    else if field == 2 then codes ",\"earlier\":"
    else if field == 3 then codes ",\"claimed\":"
    else if field == 4 then codes ",\"new\":"
    else codes ",\"again\":"

abbrev pub field_name : (letter field : ℕ) → List ℕ
field_name letter field =
    if letter == 82 then refused_name field
    else if letter == 83 then stopped_name field
    else if letter == 67 then refused_contact_name field
    else if letter == 71 then channel_name field
    else if letter == 90 then closed_name field
    else if letter == 74 then journal_name field
    else letter_name field

-- ---- what they are

abbrev pub number_at : (number field : ℕ) → FieldKind
number_at number field = if field == number then Number else Text

abbrev pub suppression_kind : (letter field : ℕ) → FieldKind
suppression_kind letter field =
    if field == 2 then Moment
    else if field == 1 then Number
    else if letter == 83 then Text
    else number_at 6 field

-- all but the first are numbers
abbrev pub count_kind : ℕ → FieldKind
count_kind field = if field == 1 then Text else Number

abbrev pub field_kind : (letter field : ℕ) → FieldKind
field_kind letter field =
    if (letter == 83) || (letter == 67) then suppression_kind letter field
    else if letter == 82 then number_at 1 field
    else if (letter == 71) || (letter == 74) then count_kind field
    else if letter == 90 then Text
    else number_at 2 field
