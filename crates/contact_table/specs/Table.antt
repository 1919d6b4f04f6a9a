-- The table: the contacts of the first configuration, and then those that the second has beside them.
use Rattle.std.specs.Prelude.{ℕ, List, [], ◌++◌, flat_map, is_some, length, slice_get, slice_index_or, Option, if◌then◌else◌}
use Rattle.std.specs.List.{position, range_with_len}
use Rattle.std.specs.Option.{option_map_or}
use Rattle.std.specs.Str.{bytes_eq}
use Rattle.due_model.specs.declared.config.Contact.{Contact}
use Rattle.changed_notices.specs.declared.changed.ChangeForm.{ChangeForm}
use Rattle.contact_tallies.specs.declared.tallies.Tally.{Tally}
use Rattle.contact_tallies.specs.Tallies.{no_tally}
use Rattle.contact_table.specs.Rows.{row_text}

-- the number of the contact of a name, if there is one: the first
abbrev pub contact_named : List Contact → (name : List ℕ) → Option ℕ
contact_named contacts name = position (λ contact. bytes_eq contact.name name) contacts

-- what the contact of a number was told, and the one of a name; nothing, where there is none
abbrev pub told_at : List Tally → (k : ℕ) → Tally
told_at tallies k = slice_index_or tallies k no_tally

abbrev pub told_to : List Contact → List Tally → (name : List ℕ) → Tally
told_to contacts tallies name =
    option_map_or (told_at tallies) (contact_named contacts name) no_tally

-- the line of the first's contact of a number: what it is told by the second is found by its name
abbrev pub first_row : ChangeForm → List Contact → List Tally → List Contact → List Tally → (k : ℕ)
    → List ℕ
first_row form contacts tallies others other_tallies k =
    option_map_or
    (λ contact. row_text form contact.name (told_at tallies k)
    (told_to others other_tallies contact.name))
    (slice_get contacts k) []

-- that of the second's, where the first has none of its name
abbrev pub second_row : ChangeForm → List Contact → List Contact → List Tally → (k : ℕ) → List ℕ
second_row form contacts others other_tallies k =
    option_map_or
    (λ contact. if is_some (contact_named contacts contact.name) then []
    else row_text form contact.name no_tally (told_at other_tallies k))
    (slice_get others k) []

-- of the first so many
abbrev pub first_rows : ChangeForm → List Contact → List Tally → List Contact → List Tally
    → (count : ℕ) → List ℕ
first_rows form contacts tallies others other_tallies count =
    flat_map (first_row form contacts tallies others other_tallies) (range_with_len 0 count)

abbrev pub second_rows : ChangeForm → List Contact → List Contact → List Tally → (count : ℕ) → List ℕ
second_rows form contacts others other_tallies count =
    flat_map (second_row form contacts others other_tallies) (range_with_len 0 count)

-- of all: the contacts of two configurations, and what each was told, by their numbers
unfoldable pub table_text : ChangeForm → List Contact → List Tally → List Contact → List Tally
    → List ℕ
table_text form contacts tallies others other_tallies =
    first_rows form contacts tallies others other_tallies (length contacts)
    ++ second_rows form contacts others other_tallies (length others)
