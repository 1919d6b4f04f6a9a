-- The row of an object: its state, its bands, and its marks, with time to the right.
use Rattle.std.specs.Prelude.{ℕ, ◌+◌, ◌-◌, ◌*◌, ◌/◌, ◌^◌, min, max, Bool, true, false, List, [], ◌++◌, codes, find, flat_map, is_some, length, nat_lt, slice_get, Option, None, Some, if◌then◌else◌}
use Rattle.std.specs.List.{range_with_len}
use Rattle.std.specs.Option.{option_map_or}
use Rattle.due_model.specs.declared.config.Config.{Config}
use Rattle.due_model.specs.declared.notice.Notice.{Notice}
use Rattle.due_model.specs.declared.notice.Suppression.{Suppression}
use Rattle.due_model.specs.declared.state.State.{State}
use Rattle.due_model.specs.declared.zone.Zone.{Zone}
use Rattle.due_model.specs.claims.Rules.{same_state}
use Rattle.messages.specs.declared.entries.Entry.{Entry}
use Rattle.messages.specs.declared.entries.Entry.TheVariants.{Sent, Withheld}
use Rattle.night_marks.specs.declared.conditions.Change.{Change}
use Rattle.night_marks.specs.declared.conditions.Condition.{Condition}
use Rattle.night_marks.specs.declared.night.Span.{Span}
use Rattle.night_marks.specs.Conditions.{at_first, same}
use Rattle.night_marks.specs.Lists.{is_of, mark_object}
use Rattle.notice_text.specs.claims.Names.{state_name}
use Rattle.notice_text.specs.claims.Texts.{object_text}
use Rattle.night_picture.specs.Shapes.{bar_text, cut_text, escaped_text, round_text}
use Rattle.night_picture.specs.Titles.{contact_colour, state_colour, stopped_title, told_title}

-- ---- places, in pixels

-- a number of 64 bits that is too great stays at the greatest
abbrev pub capped : ℕ → ℕ
capped n = min n (2 ^ 64 - 1)

-- where a moment is: the time of the picture is 960 wide, from 240 on
abbrev pub x_at : Span → (moment : ℕ) → ℕ
x_at span moment =
    240 + min (capped ((min moment span.last - span.first) * 960) / max (span.last - span.first) 1) 960

-- where a row is
abbrev pub y_at : (place : ℕ) → ℕ
y_at place = 80 + 22 * min place 200

-- ---- state and bands: each is drawn from a moment to the right end, over what was drawn before it

unfoldable pub band_text : Span → (y height moment : ℕ) → (colour title : List ℕ) → List ℕ
band_text span y height moment colour title =
    bar_text (x_at span moment) y (1200 - x_at span moment) height colour title

unfoldable pub state_band : Span → (y moment : ℕ) → State → List ℕ
state_band span y moment state =
    band_text span (y + 7) 8 moment (state_colour state) (state_name state)

unfoldable pub downtime_band : Span → (y moment : ℕ) → Bool → List ℕ
downtime_band span y moment true = band_text span (y + 17) 3 moment (codes "#4263eb") (codes "downtime")
downtime_band span y moment false = band_text span (y + 17) 3 moment (codes "#ffffff") (codes "no downtime")

unfoldable pub ack_band : Span → (y moment : ℕ) → Bool → List ℕ
ack_band span y moment true = band_text span (y + 2) 3 moment (codes "#be4bdb") (codes "acknowledged")
ack_band span y moment false = band_text span (y + 2) 3 moment (codes "#ffffff") (codes "not acknowledged")

-- of a change what looks different
abbrev pub state_change : Span → (y : ℕ) → Change → List ℕ
state_change span y change =
    if same_state change.before.state change.now.state then []
    else state_band span y change.moment change.now.state

abbrev pub downtime_change : Span → (y : ℕ) → Change → List ℕ
downtime_change span y change =
    if same (nat_lt 0 change.before.depth) (nat_lt 0 change.now.depth) then []
    else downtime_band span y change.moment (nat_lt 0 change.now.depth)

abbrev pub ack_change : Span → (y : ℕ) → Change → List ℕ
ack_change span y change =
    if same (is_some change.before.ack) (is_some change.now.ack) then []
    else ack_band span y change.moment (is_some change.now.ack)

unfoldable pub change_text : Span → (y : ℕ) → Change → List ℕ
change_text span y change =
    state_change span y change ++ downtime_change span y change ++ ack_change span y change

abbrev pub change_in : Span → (y o : ℕ) → Change → List ℕ
change_in span y o change = if is_of o change.object then change_text span y change else []

-- ---- what a row begins with

abbrev pub mark_state : Entry → State
mark_state (Sent n) = n.state
mark_state (Withheld s) = s.state

-- the condition before the first change, or, where nothing changes, with the state that the first mark tells
abbrev pub marked_condition : Entry → Condition
marked_condition mark = record { state = mark_state mark; depth = 0; ack = None }

abbrev pub first_condition : (o : ℕ) → List Change → List Entry → Condition
first_condition o changes marks =
    option_map_or (λ change. change.before) (find (λ change. is_of o change.object) changes)
    (option_map_or marked_condition (find (λ mark. is_of o (mark_object mark)) marks) at_first)

abbrev pub downtime_start : Span → (y : ℕ) → Condition → List ℕ
downtime_start span y c = if nat_lt 0 c.depth then downtime_band span y span.first true else []

abbrev pub ack_start : Span → (y : ℕ) → Condition → List ℕ
ack_start span y c = if is_some c.ack then ack_band span y span.first true else []

unfoldable pub start_text : Span → (y : ℕ) → Condition → List ℕ
start_text span y c =
    state_band span y span.first c.state ++ downtime_start span y c ++ ack_start span y c

-- ---- marks

-- a notice: filled, in the colour of its contact
unfoldable pub paint_of : (colour : List ℕ) → List ℕ
paint_of colour = codes " stroke=\"#222222\" fill=\"" ++ colour

abbrev pub told_paint : (k : ℕ) → List ℕ
told_paint k = paint_of (contact_colour k)

unfoldable pub told_mark : Config → Zone → Span → (y : ℕ) → Notice → List ℕ
told_mark c zone span y n =
    round_text (codes "<circle class=\"told\" r=\"4\" cx=\"") (x_at span n.moment) (y + 11)
    (told_paint n.contact.0) (told_title c zone n)

-- a suppression: hollow
unfoldable pub stopped_mark : Config → Zone → Span → (y : ℕ) → Suppression → List ℕ
stopped_mark c zone span y s =
    round_text (codes "<circle class=\"stopped\" r=\"5\" cx=\"") (x_at span s.moment) (y + 11)
    (codes " stroke=\"#000000\" pointer-events=\"all\" fill=\"none") (stopped_title c zone s)

abbrev pub mark_text : Config → Zone → Span → (y : ℕ) → Entry → List ℕ
mark_text c zone span y (Sent n) = told_mark c zone span y n
mark_text c zone span y (Withheld s) = stopped_mark c zone span y s

abbrev pub mark_in : Config → Zone → Span → (y o : ℕ) → Entry → List ℕ
mark_in c zone span y o mark =
    if is_of o (mark_object mark) then mark_text c zone span y mark else []

-- ---- rows

-- the name of an object, cut off where it is too long for its place
unfoldable pub name_text : Config → (y o : ℕ) → List ℕ
name_text c y o = cut_text 0 y 236 22 (escaped_text (object_text c o))

-- its name, how it begins, its changes, and over them its marks: one for each that it has
unfoldable pub row_text : Config → Zone → Span → (y o : ℕ) → List Change → List Entry → List ℕ
row_text c zone span y o changes marks =
    name_text c y o ++ start_text span y (first_condition o changes marks)
    ++ flat_map (change_in span y o) changes ++ flat_map (mark_in c zone span y o) marks

-- the rows of the objects that are shown, one below another
abbrev pub row_at : Config → Zone → Span → List Change → List Entry → (shown : List ℕ) → (place : ℕ) → List ℕ
row_at c zone span changes marks shown place =
    option_map_or (λ o. row_text c zone span (y_at place) o changes marks) (slice_get shown place) []

abbrev pub first_rows : Config → Zone → Span → List Change → List Entry → (shown : List ℕ) → (count : ℕ) → List ℕ
first_rows c zone span changes marks shown count =
    flat_map (row_at c zone span changes marks shown) (range_with_len 0 count)

unfoldable pub rows_text : Config → Zone → Span → List Change → List Entry → (shown : List ℕ) → List ℕ
rows_text c zone span changes marks shown =
    first_rows c zone span changes marks shown (length shown)
