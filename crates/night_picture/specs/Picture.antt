-- The picture of a feed.
use Rattle.std.specs.Prelude.{ℕ, ◌-◌, ◌==◌, Bool, List, [], ◌++◌, codes, filter, length, Option, None, Some, unwrap_or}
use Rattle.std.specs.List.{list_any}
use Rattle.due_model.specs.declared.config.Config.{Config}
use Rattle.due_model.specs.declared.zone.Zone.{Zone}
use Rattle.messages.specs.declared.entries.Entry.{Entry}
use Rattle.night_marks.specs.declared.night.Night.{Night}
use Rattle.night_marks.specs.declared.night.Span.{Span}
use Rattle.night_marks.specs.Counts.{shown_objects}
use Rattle.night_marks.specs.Lists.{mark_object}
use Rattle.night_picture.specs.Frame.{keys_text, left_text, open_text, period_text, ticks_text}
use Rattle.night_picture.specs.Rows.{rows_text}

-- ---- what is shown

-- the objects that have a row
abbrev pub shown_of : Night → List ℕ
shown_of night = shown_objects night.kept.marks night.kept.changes

-- a mark is of an object that is shown
abbrev pub is_shown_mark : (shown : List ℕ) → Entry → Bool
is_shown_mark shown mark = list_any (λ o. o == (mark_object mark).0) shown

-- how many marks are shown, and how many aren't
abbrev pub shown_marks : (shown : List ℕ) → List Entry → ℕ
shown_marks shown marks = length (filter (is_shown_mark shown) marks)

unfoldable pub left_out : Night → ℕ
left_out night = night.told - shown_marks (shown_of night) night.kept.marks

-- the time of the picture
abbrev pub span_of : Night → Span
span_of night = unwrap_or night.span (record { first = 0; last = 0 })

-- ---- the text

-- what is above the rows
unfoldable pub head_text : Zone → Night → (shown : List ℕ) → List ℕ
head_text zone night shown =
    open_text (length shown) ++ period_text zone (span_of night)
    ++ left_text zone (shown_marks shown night.kept.marks) night.told night.kept.begin
    ++ ticks_text zone (span_of night) (length shown) 7

-- the rows, and what is below them
unfoldable pub body_text : Config → Zone → Night → (shown : List ℕ) → List ℕ
body_text c zone night shown =
    rows_text c zone (span_of night) night.kept.changes night.kept.marks shown
    ++ keys_text c (length shown) ++ codes "</svg>\n"

unfoldable pub drawn_text : Config → Zone → Night → (shown : List ℕ) → List ℕ
drawn_text c zone night shown = head_text zone night shown ++ body_text c zone night shown

abbrev pub picture_text : Config → Zone → Night → List ℕ
picture_text c zone night = drawn_text c zone night (shown_of night)
