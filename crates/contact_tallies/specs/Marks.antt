-- What each contact is told in all. The definitions look back over what was given, the newest first.
use Rattle.std.specs.Prelude.{ℕ, ◌-◌, Bool, true, false, ◌&&◌, ◌||◌, ◌==◌, nat_le, nat_lt, min, max, List, [], ◌∷◌, ◌++◌, filter, length, map, reverse, Option, None, Some, if◌then◌else◌}
use Rattle.std.specs.Option.{option_map_or}
use Rattle.due_model.specs.declared.config.ObjectId.{ObjectId}
use Rattle.due_model.specs.declared.event.Event.{Event}
use Rattle.due_model.specs.declared.event.EventKind.{EventKind}
use Rattle.due_model.specs.declared.event.EventKind.TheVariants.{Hard}
use Rattle.due_model.specs.declared.notice.Kind.{Kind}
use Rattle.due_model.specs.declared.notice.Kind.TheVariants.{Problem, Recovery}
use Rattle.due_model.specs.declared.notice.Notice.{Notice}
use Rattle.due_model.specs.declared.zone.Zone.{Zone}
use Rattle.due_model.specs.claims.Limits.{last_moment}
use Rattle.due_model.specs.claims.Local.{local}
use Rattle.due_model.specs.claims.Readings.{is_ok_state}

-- what counts of a feed: a notice is given, or a problem of an object ends
pub data Mark : Type 0 where
  Given : Notice → Mark
  Ends : (o : ℕ) → Mark

-- the object that an event says is UP or OK
abbrev pub recovered_in : EventKind → Option ObjectId
recovered_in (Hard object state) = if is_ok_state state then Some object else None
recovered_in kind = None

abbrev pub recovered : Option Event → Option ObjectId
recovered event = option_map_or (λ e. recovered_in e.kind) event None

-- what a line of the feed gives: its notices in their order, and the end of a problem where its event says so
abbrev pub ends_of : Option ObjectId → List Mark
ends_of None = []
ends_of (Some object) = Ends object.0 ∷ []

abbrev pub marks_on : (past : List Mark) → List Notice → List Mark
marks_on past notices = reverse (map Given notices) ++ past

abbrev pub marks_after : (past : List Mark) → List Notice → Option Event → List Mark
marks_after past notices event = ends_of (recovered event) ++ marks_on past notices

-- ---- pages, and those at night

-- from 22:00 on, and before 07:00, by the zone's clock
abbrev pub is_night : Zone → (moment : ℕ) → Bool
is_night zone moment =
    nat_le 79200 (local zone moment).second || nat_lt (local zone moment).second 25200

-- a notice to contact k
abbrev pub is_page : (k : ℕ) → Mark → Bool
is_page k (Given n) = n.contact.0 == k
is_page k (Ends o) = false

-- one at night
abbrev pub is_night_page : Zone → (k : ℕ) → Mark → Bool
is_night_page zone k (Given n) =
    (n.contact.0 == k) && (nat_le n.moment last_moment && is_night zone n.moment)
is_night_page zone k (Ends o) = false

-- how many marks pass a test; a count stays at the most that it can be
abbrev pub counted : (Mark → Bool) → List Mark → ℕ
counted is past = min (length (filter is past)) 18446744073709551615

-- ---- the silence of a problem

-- a problem and its recovery are told of
abbrev pub is_of_problem : Kind → Bool
is_of_problem Problem = true
is_of_problem Recovery = true
is_of_problem kind = false

-- a notice of the problem of object o to contact k
abbrev pub is_about : (o k : ℕ) → Notice → Bool
is_about o k n = is_of_problem n.kind && ((n.object.0 == o) && (n.contact.0 == k))

-- when contact k was last told of the problem that object o has, if it was
abbrev pub last_told : List Mark → (o k : ℕ) → Option ℕ
last_told [] o k = None
last_told (Given n ∷ past) o k = if is_about o k n then Some n.moment else last_told past o k
last_told (Ends p ∷ past) o k = if p == o then None else last_told past o k

-- how long it is since then
abbrev pub since : (moment : ℕ) → Option ℕ → ℕ
since moment None = 0
since moment (Some earlier) = moment - earlier

-- how long the contact of a notice had heard nothing of the problem that it is about
abbrev pub silence_before : List Mark → Notice → ℕ
silence_before past n =
    if is_of_problem n.kind then since n.moment (last_told past n.object.0 n.contact.0) else 0

-- the longest such time of contact k, in seconds
abbrev pub longest : List Mark → (k : ℕ) → ℕ
longest [] k = 0
longest (Given n ∷ past) k =
    if n.contact.0 == k then max (longest past k) (silence_before past n) else longest past k
longest (Ends o ∷ past) k = longest past k
