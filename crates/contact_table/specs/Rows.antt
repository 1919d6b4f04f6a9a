-- A line of the table: a contact's name, its messages, those at night and the longest silence, each before and after.
use Rattle.std.specs.Prelude.{ℕ, List, [], ◌∷◌, ◌++◌, codes, decimal}
use Rattle.changed_notices.specs.declared.changed.ChangeForm.{ChangeForm}
use Rattle.changed_notices.specs.declared.changed.ChangeForm.TheVariants.{Json, Plain, Pretty}
use Rattle.contact_tallies.specs.declared.tallies.Tally.{Tally}
use Rattle.line_forms.specs.Json.{string_json}
use Rattle.pretty_lines.specs.Columns.{padded}

-- a number before and one after, each with what stands in front of it
unfoldable pub pair_text : (front : List ℕ) → (before : ℕ) → (mid : List ℕ) → (after : ℕ) → List ℕ
pair_text front before mid after = front ++ decimal before ++ mid ++ decimal after

-- the three pairs of a line of text
unfoldable pub plain_numbers : (before after : Tally) → List ℕ
plain_numbers before after =
    pair_text (codes ";") before.pages (codes ";") after.pages
    ++ pair_text (codes ";") before.at_night (codes ";") after.at_night
    ++ pair_text (codes ";") before.silence (codes ";") after.silence

-- those of an object of JSON
unfoldable pub json_numbers : (before after : Tally) → List ℕ
json_numbers before after =
    pair_text (codes ",\"before\":") before.pages (codes ",\"after\":") after.pages
    ++ pair_text (codes ",\"night_before\":") before.at_night (codes ",\"night_after\":") after.at_night
    ++ pair_text (codes ",\"silence_before\":") before.silence (codes ",\"silence_after\":") after.silence

unfoldable pub plain_row : (name : List ℕ) → (before after : Tally) → List ℕ
plain_row name before after = codes "P;" ++ name ++ plain_numbers before after ++ 10 ∷ []

unfoldable pub json_row : (name : List ℕ) → (before after : Tally) → List ℕ
json_row name before after =
    codes "{\"letter\":\"P\",\"contact\":" ++ string_json name ++ json_numbers before after
    ++ codes "}\n"

-- for people
unfoldable pub pretty_numbers : (before after : Tally) → List ℕ
pretty_numbers before after =
    pair_text (codes "  pages ") before.pages (codes " to ") after.pages
    ++ pair_text (codes ", at night ") before.at_night (codes " to ") after.at_night
    ++ pair_text (codes ", longest silence ") before.silence (codes " s to ") after.silence
    ++ codes " s\n"

unfoldable pub pretty_row : (name : List ℕ) → (before after : Tally) → List ℕ
pretty_row name before after = padded 12 name ++ pretty_numbers before after

-- a line, in a form
abbrev pub row_text : ChangeForm → (name : List ℕ) → (before after : Tally) → List ℕ
row_text Plain name before after = plain_row name before after
row_text (Pretty coloured) name before after = pretty_row name before after
row_text Json name before after = json_row name before after
