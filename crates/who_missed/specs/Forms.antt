-- How rows are written.
use Rattle.std.specs.Prelude.{ℕ, ◌-◌, Bool, true, false, List, [], ◌∷◌, ◌++◌, codes, length, take}
use Rattle.line_forms.specs.Json.{string_json}
use Rattle.pretty_lines.specs.Columns.{unpaint}
use Rattle.who_missed.specs.declared.forms.RowForm.{RowForm}
use Rattle.who_missed.specs.declared.forms.RowForm.TheVariants.{Json, Plain, Pretty}

-- they have colours
abbrev pub is_coloured : RowForm → Bool
is_coloured Plain = false
is_coloured (Pretty coloured) = coloured
is_coloured Json = false

-- they are objects of JSON
abbrev pub is_json : RowForm → Bool
is_json Plain = false
is_json (Pretty coloured) = false
is_json Json = true

-- the end of a row of text
unfoldable pub row_end : (coloured : Bool) → List ℕ
row_end coloured = unpaint coloured ++ 10 ∷ []

-- a reason without the semicolon and the blank after it
abbrev pub trimmed : List ℕ → List ℕ
trimmed reason = take (length reason - 2) reason

-- how the object of JSON begins of a contact that isn't told: its name, and why not
unfoldable pub reason_json : (contact reason : List ℕ) → List ℕ
reason_json contact reason =
    codes "{\"letter\":\"M\",\"contact\":" ++ string_json contact ++ codes ",\"reason\":"
    ++ string_json (trimmed reason)
