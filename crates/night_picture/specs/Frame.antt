-- What is around the rows: the head, the time, and what the colours say.
use Rattle.std.specs.Prelude.{ℕ, ◌+◌, ◌-◌, ◌*◌, ◌/◌, ◌%◌, ◌==◌, min, List, [], ◌++◌, codes, decimal, flat_map, slice_get, if◌then◌else◌}
use Rattle.std.specs.List.{range_with_len}
use Rattle.std.specs.Option.{option_map_or}
use Rattle.due_model.specs.declared.config.Config.{Config}
use Rattle.due_model.specs.declared.zone.Zone.{Zone}
use Rattle.local_text.specs.Text.{iso_text, local_text}
use Rattle.night_marks.specs.declared.night.Span.{Span}
use Rattle.night_picture.specs.Rows.{capped, told_paint}
use Rattle.night_picture.specs.Shapes.{bar_text, cut_text, escaped_text, round_text, size_text, words_text}

-- where the rows end, and how high the picture is
abbrev pub bottom : (rows : ℕ) → ℕ
bottom rows = 80 + 22 * min rows 200

abbrev pub height : (rows : ℕ) → ℕ
height rows = bottom rows + 140

-- ---- the head

unfoldable pub tag_text : (height : ℕ) → List ℕ
tag_text height =
    codes "<?xml version=\"1.0\" encoding=\"UTF-8\"?>\n<svg xmlns=\"http://www.w3.org/2000/svg\""
    ++ size_text 1260 height
    ++ codes " font-family=\"sans-serif\" font-size=\"12\">\n<title>Notices and suppressions</title>\n"

unfoldable pub ground_text : (height : ℕ) → List ℕ
ground_text height =
    bar_text 0 0 1260 height (codes "#ffffff") (codes "Notices and suppressions")

unfoldable pub open_text : (rows : ℕ) → List ℕ
open_text rows = tag_text (height rows) ++ ground_text (height rows)

-- from when to when
unfoldable pub period_words : Zone → Span → List ℕ
period_words zone span = iso_text zone span.first ++ codes " to " ++ iso_text zone span.last

unfoldable pub period_text : Zone → Span → List ℕ
period_text zone span =
    words_text (codes "<text class=\"period\" font-size=\"14\"") 4 22 (period_words zone span)

-- from which moment on there is something, if something is left out before it
abbrev pub begin_words : Zone → (begin : ℕ) → List ℕ
begin_words zone begin = if begin == 0 then [] else codes ", from " ++ iso_text zone begin ++ codes " on"

-- how many marks of how many are shown, where it isn't all
unfoldable pub left_words : (shown told : ℕ) → List ℕ
left_words shown told =
    decimal shown ++ codes " of " ++ decimal told
    ++ codes " marks: those of the busiest objects"

unfoldable pub left_line : Zone → (shown told begin : ℕ) → List ℕ
left_line zone shown told begin =
    words_text (codes "<text class=\"left-out\" fill=\"#b00020\"") 4 44
    (left_words shown told ++ begin_words zone begin)

abbrev pub left_text : Zone → (shown told begin : ℕ) → List ℕ
left_text zone shown told begin =
    if told - shown == 0 then [] else left_line zone shown told begin

-- ---- the time: seven lines, a sixth of it between two

abbrev pub tick_moment : Span → (k : ℕ) → ℕ
tick_moment span k = capped (span.first + capped ((span.last - span.first) * k) / 6)

unfoldable pub tick_line : (rows k : ℕ) → (title : List ℕ) → List ℕ
tick_line rows k title = bar_text (240 + 160 * k) 72 1 (bottom rows - 72) (codes "#cccccc") title

unfoldable pub tick_words : (k : ℕ) → (words : List ℕ) → List ℕ
tick_words k words =
    words_text (codes "<text text-anchor=\"middle\" font-size=\"10\"") (240 + 160 * k) 66 words

unfoldable pub tick_text : Zone → Span → (rows k : ℕ) → List ℕ
tick_text zone span rows k =
    tick_line rows k (local_text zone (tick_moment span k))
    ++ tick_words k (local_text zone (tick_moment span k))

abbrev pub ticks_text : Zone → Span → (rows count : ℕ) → List ℕ
ticks_text zone span rows count = flat_map (tick_text zone span rows) (range_with_len 0 count)

-- ---- what the colours say

unfoldable pub key_text : (x y : ℕ) → (colour name : List ℕ) → List ℕ
key_text x y colour name =
    bar_text x y 14 10 colour name ++ words_text (codes "<text") (x + 20) (y + 10) name

unfoldable pub state_keys : (y : ℕ) → List ℕ
state_keys y =
    key_text 240 y (codes "#2e9e4f") (codes "UP, OK") ++ key_text 400 y (codes "#e6b800") (codes "WARNING")
    ++ key_text 560 y (codes "#d0342c") (codes "DOWN, CRITICAL")
    ++ key_text 720 y (codes "#e07b39") (codes "UNREACHABLE, UNKNOWN")

unfoldable pub other_keys : (y : ℕ) → List ℕ
other_keys y =
    key_text 240 y (codes "#dddddd") (codes "PENDING") ++ key_text 400 y (codes "#4263eb") (codes "downtime")
    ++ key_text 560 y (codes "#be4bdb") (codes "acknowledged")

unfoldable pub mark_key : (y : ℕ) → List ℕ
mark_key y =
    words_text (codes "<text") 720 (y + 10)
    (codes "filled: a notice, by contact; hollow: a suppression")

-- a contact, and its colour; of the first 24
unfoldable pub contact_dot : (y k : ℕ) → (name : List ℕ) → List ℕ
contact_dot y k name =
    round_text (codes "<circle class=\"contact\" r=\"4\" cx=\"") (247 + 160 * (k % 6)) (y + 18 * (k / 6) + 6)
    (told_paint k) name

unfoldable pub contact_words : (y k : ℕ) → (name : List ℕ) → List ℕ
contact_words y k name = cut_text (256 + 160 * (k % 6)) (y + 18 * (k / 6) - 5) 140 20 name

unfoldable pub named_key : (y k : ℕ) → (name : List ℕ) → List ℕ
named_key y k name = contact_dot y k name ++ contact_words y k name

abbrev pub contact_key : Config → (y k : ℕ) → List ℕ
contact_key c y k =
    option_map_or (λ contact. named_key y k (escaped_text contact.name)) (slice_get c.contacts k) []

abbrev pub contact_keys : Config → (y count : ℕ) → List ℕ
contact_keys c y count = flat_map (contact_key c y) (range_with_len 0 count)

unfoldable pub keys_text : Config → (rows : ℕ) → List ℕ
keys_text c rows =
    state_keys (bottom rows + 14) ++ other_keys (bottom rows + 32) ++ mark_key (bottom rows + 32)
    ++ contact_keys c (bottom rows + 54) 24
