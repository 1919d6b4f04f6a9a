-- NoHours: a moment of a week, holidays apart, at which the object's period holds and no contact's does (chapters
-- "Notifications" and "Time Periods").
use Rattle.std.specs.Prelude.{◌≡◌, ℕ, ◌+◌, ◌*◌, ◌<◌, ◌≤◌, Bool, true, false, not, ◌==◌, ◌&&◌, ◌||◌, List, [], All, length, map, Option, Some, None, IfNone, IfSome, slice_get, slice_index_or}
use Rattle.std.specs.List.{list_any, range_with_len}
use Rattle.std.specs.Option.{option_map_or}
use Rattle.due_model.specs.ByObject.{places_of}
use Rattle.due_model.specs.claims.Periods.{in_period}
use Rattle.due_model.specs.declared.config.Config.{Config}
use Rattle.due_model.specs.declared.config.ContactId.{ContactId}
use Rattle.due_model.specs.declared.config.Object.{Object}
use Rattle.due_model.specs.declared.config.Period.{Period}
use Rattle.due_model.specs.declared.config.PeriodId.{PeriodId}
use Rattle.due_model.specs.declared.zone.Zone.TheVariants.{Utc}
use Rattle.object_warnings.specs.Objects.{can_notify, is_told, rights_of}
use Rattle.object_warnings.specs.declared.hours.Span.{Span}
use Rattle.object_warnings.specs.declared.known_spans.Known.{Known}

-- ---- the week

-- a period without its dated lines: holidays apart
abbrev pub plain : Period → Period
plain period = record period { dated = [] }

-- the periods without theirs, and nothing else
abbrev pub weekly : Config → Config
weekly c = record {
  choices = c.choices;
  objects = [];
  contacts = [];
  lanes = [];
  periods = map plain c.periods;
  escalations = [];
  dependencies = [];
}

abbrev pub IsUndated : Period → Type 0
IsUndated period = period.dated ≡ []

-- how many minutes a week has
abbrev pub week : ℕ
week = 10_080

-- A minute of a week, from Monday 00:00 on, as a moment: 1970-01-05 was a Monday.
abbrev pub moment_of : (minute : ℕ) → ℕ
moment_of minute = 345_600 + 60 * minute

-- whether a period holds at the minute of the week, holidays apart; no period is always
abbrev pub holds_at : Config → (minute : ℕ) → Option PeriodId → Bool
holds_at c minute period = in_period (weekly c) Utc period (moment_of minute)

-- ---- NoHours, by which periods hold

-- whether the contact of that number has a command for the object's kind, and its period holds
abbrev pub has_hours : Config → (holds : Option PeriodId → Bool) → Object → ContactId → Bool
has_hours c holds object contact = option_map_or
    (λ found. not (length (rights_of object found).lanes == 0) && holds (rights_of object found).period)
    (slice_get c.contacts contact.0) false

-- whether one of the contacts of the escalation at the place has
abbrev pub has_hours_by : Config → (holds : Option PeriodId → Bool) → Object → (place : ℕ) → Bool
has_hours_by c holds object place = option_map_or
    (λ escalation. list_any (has_hours c holds object) escalation.contacts)
    (slice_get c.escalations place) false

-- whether such a contact is the object's own, or one of an escalation of object o
abbrev pub is_covered : Config → (holds : Option PeriodId → Bool) → (o : ℕ) → Object → Bool
is_covered c holds o object = list_any (has_hours c holds object) object.contacts
    || list_any (has_hours_by c holds object) (places_of c.escalations o)

-- the object's period holds, and that of no contact does
abbrev pub is_gap : Config → (holds : Option PeriodId → Bool) → (o : ℕ) → Object → Bool
is_gap c holds o object = holds object.period && not (is_covered c holds o object)

-- Object o can notify and tells somebody (else it is one of NobodyTold), and there is such a gap.
abbrev pub is_gap_at : Config → (holds : Option PeriodId → Bool) → (o : ℕ) → Bool
is_gap_at c holds o = option_map_or
    (λ object. (can_notify object && is_told c o object) && is_gap c holds o object)
    (slice_get c.objects o) false

-- whether there is at the minute of the week
abbrev pub lacks_hours : Config → (o minute : ℕ) → Bool
lacks_hours c o minute = is_gap_at c (holds_at c minute) o

-- ---- the first span of a week

-- the first minutes that pass, up to the next that doesn't
pub record IsFirstSpan (passes : ℕ → Bool) (span : Span) : Type 0 where
  pub some : span.start < span.end
  pub within : span.end ≤ week
  pub before : (minute : ℕ) → minute < span.start → passes minute ≡ false
  pub each : (minute : ℕ) → span.start ≤ minute → minute < span.end → passes minute ≡ true
  pub whole : span.end < week → passes span.end ≡ false

-- it is told where any minute of the week passes
pub record IsFirst (passes : ℕ → Bool) (span : Option Span) : Type 0 where
  pub told : IfSome span (IsFirstSpan passes)
  pub untold : IfNone span ((minute : ℕ) → minute < week → passes minute ≡ false)

-- of each object
pub record AreFirst (c : Config) (spans : List (Option Span)) : Type 0 where
  pub as_many : length spans ≡ length c.objects
  pub each : (o : ℕ) → o < length c.objects → IsFirst (lacks_hours c o) (slice_index_or spans o None)

-- ---- how it is found

-- whether a period holds by the flags of all periods
abbrev pub flag : List Bool → Option PeriodId → Bool
flag flags None = true
flag flags (Some period) = slice_index_or flags period.0 false

-- the flags of a minute
abbrev pub row_at : List (List Bool) → (minute : ℕ) → List Bool
row_at rows minute = slice_index_or rows minute []

-- The periods that are flagged hold at each minute of the week.
abbrev pub AreAlways : (rows : List (List Bool)) → List Bool → Type 0
AreAlways rows flags = (period : Option PeriodId) (minute : ℕ) → minute < week
    → flag flags period ≡ true → flag (row_at rows minute) period ≡ true

-- the contacts of the escalation at the place
abbrev pub contacts_by : Config → (place : ℕ) → List ContactId
contacts_by c place = option_map_or (λ escalation. escalation.contacts) (slice_get c.escalations place) []

-- whether a period holds by the flags, and none of these hours does
abbrev pub gap_by : List Bool → (period : Option PeriodId) → (hours : List (Option PeriodId)) → Bool
gap_by flags period hours = flag flags period && not (list_any (flag flags) hours)

-- The span that is kept is the first of its period and hours, where these are the flags of each minute.
abbrev pub IsKnown : (rows : List (List Bool)) → Known → Type 0
IsKnown rows known = IsFirst (λ minute. gap_by (row_at rows minute) known.period known.hours.items) known.span

abbrev pub AreKnown : (rows : List (List Bool)) → List (Option Known) → Type 0
AreKnown rows slots = All (λ slot. IfSome slot (IsKnown rows)) slots

-- which periods of a configuration hold at the minute of the week
abbrev pub flags_at : Config → (minute : ℕ) → List Bool
flags_at weekly minute = map (λ number. in_period weekly Utc (Some (record { 0 = number })) (moment_of minute))
    (range_with_len 0 (length weekly.periods))

-- those of so many minutes
unfoldable pub rows_upto : Config → (count : ℕ) → List (List Bool)
rows_upto weekly count = map (flags_at weekly) (range_with_len 0 count)

-- those of all
abbrev pub rows_of : Config → List (List Bool)
rows_of weekly = rows_upto weekly week

-- the flags stay from the minute on up to the end
pub record Stays (rows : List (List Bool)) (minute end : ℕ) : Type 0 where
  pub later : minute < end
  pub within : end ≤ week
  pub same : (k : ℕ) → minute ≤ k → k < end → row_at rows k ≡ row_at rows minute

-- the ends up to which they stay, from a minute on
pub record AreEnds (rows : List (List Bool)) (first : ℕ) (ends : List ℕ) : Type 0 where
  pub as_many : length ends ≡ week
  pub each : (minute : ℕ) → first ≤ minute → minute < week → Stays rows minute (slice_index_or ends minute 0)
