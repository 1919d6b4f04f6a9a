-- The filters by their places, and the values of the configuration that they go by.
use Rattle.std.specs.Prelude.{ℕ, ◌==◌, Bool, List, [], ◌++◌, codes, decimal, flat_map, is_some, slice_get, Option, None, Some, if◌then◌else◌}
use Rattle.std.specs.List.{range_with_len}
use Rattle.std.specs.Option.{option_map_or}
use Rattle.due_model.specs.declared.config.Choices.{Choices}
use Rattle.due_model.specs.declared.config.Config.{Config}
use Rattle.due_model.specs.declared.config.Object.{Object}
use Rattle.due_model.specs.declared.config.PeriodId.{PeriodId}
use Rattle.due_model.specs.declared.config.Rights.{Rights}
use Rattle.due_model.specs.declared.notice.Filter.{Filter}
use Rattle.due_model.specs.declared.notice.Filter.TheVariants.{Acknowledged, ContactDisabled, ContactNotTold, ContactOptions, ContactPeriod, Dependency, Disabled, Downtime, FirstDelay, Flapping, HostDown, Interval, NoProblem, Options, Period, Program}
use Rattle.due_model.specs.declared.options.OptionLetters.{OptionLetters}
use Rattle.due_model.specs.claims.Receivers.{rights_for}
use Rattle.notice_text.specs.claims.Names.{filter_name}

-- how many filters of an object are tried: that which asks for the host of a service is one where it can fail
abbrev pub filter_count : Choices → ℕ
filter_count choices = if choices.host_down then 12 else 11

-- a place in the order in which filters are tried, or in the daemon's
abbrev pub placed : Choices → (own daemons : ℕ) → ℕ
placed choices own daemons = if choices.order then daemons else own

-- how many filters of an object are tried before this one; before those of a contact all of them are
abbrev pub place_of : Choices → Filter → ℕ
place_of choices Program = 0
place_of choices Disabled = placed choices 1 2
place_of choices Downtime = placed choices 2 9
place_of choices Flapping = placed choices 3 8
place_of choices Options = placed choices 4 5
place_of choices NoProblem = placed choices 5 6
place_of choices Period = placed choices 6 1
place_of choices Dependency = placed choices 7 4
place_of choices Acknowledged = placed choices 8 3
place_of choices FirstDelay = placed choices 9 7
place_of choices Interval = 10
place_of choices HostDown = 11
place_of choices ContactDisabled = filter_count choices
place_of choices ContactOptions = filter_count choices
place_of choices ContactPeriod = filter_count choices
place_of choices ContactNotTold = filter_count choices

-- the filter of an object at a place
abbrev pub own_filter_at : ℕ → Filter
own_filter_at place =
    if place == 0 then Program
    else if place == 1 then Disabled
    else if place == 2 then Downtime
    else if place == 3 then Flapping
    else if place == 4 then Options
    else if place == 5 then NoProblem
    else if place == 6 then Period
    else if place == 7 then Dependency
    else if place == 8 then Acknowledged
    else if place == 9 then FirstDelay
    else if place == 10 then Interval
    else HostDown

-- the same in the daemon's order
abbrev pub daemons_filter_at : ℕ → Filter
daemons_filter_at place =
    if place == 0 then Program
    else if place == 1 then Period
    else if place == 2 then Disabled
    else if place == 3 then Acknowledged
    else if place == 4 then Dependency
    else if place == 5 then Options
    else if place == 6 then NoProblem
    else if place == 7 then FirstDelay
    else if place == 8 then Flapping
    else if place == 9 then Downtime
    else if place == 10 then Interval
    else HostDown

abbrev pub filter_at : Choices → ℕ → Filter
filter_at choices place =
    if choices.order then daemons_filter_at place else own_filter_at place

-- ---- values

-- a letter, where it is in the set
abbrev pub letter_text : Bool → List ℕ → List ℕ
letter_text given letter = if given then letter else []

-- the letters of a set that are of problems of services, or of hosts
unfoldable pub service_letters : OptionLetters → List ℕ
service_letters letters =
    letter_text letters.warning (codes " w") ++ letter_text letters.unknown (codes " u")
    ++ letter_text letters.critical (codes " c")

unfoldable pub host_letters : OptionLetters → List ℕ
host_letters letters =
    letter_text letters.down (codes " d") ++ letter_text letters.unreachable (codes " u")

-- those of other kinds
unfoldable pub other_letters : OptionLetters → List ℕ
other_letters letters =
    letter_text letters.recovery (codes " r") ++ letter_text letters.flapping (codes " f")
    ++ letter_text letters.downtime (codes " s")

-- the letters of a set that such an object can have
unfoldable pub letters_text : (service : Bool) → OptionLetters → List ℕ
letters_text service letters =
    (if service then service_letters letters else host_letters letters) ++ other_letters letters

-- the name of a period
abbrev pub period_name : Config → (p : ℕ) → List ℕ
period_name c p = option_map_or (λ period. period.name) (slice_get c.periods p) []

-- the same, or that there is none
abbrev pub period_text : Config → Option PeriodId → List ℕ
period_text c None = codes " none"
period_text c (Some period) =
    codes " " ++ period_name c period.0

-- what the object has for a filter, after the filter's name
abbrev pub value_of : Config → Object → Filter → List ℕ
value_of c object Options =
    codes " notification_options" ++ letters_text (is_some object.host) object.options
value_of c object Period = codes " notification_period" ++ period_text c object.period
value_of c object FirstDelay = codes " first_notification_delay " ++ decimal object.delay
value_of c object Interval = codes " notification_interval " ++ decimal object.interval
value_of c object filter = []

-- the same of the object of that number
abbrev pub object_value : Config → (o : ℕ) → Filter → List ℕ
object_value c o filter =
    option_map_or (λ object. value_of c object filter) (slice_get c.objects o) []

-- a filter of the object of that number, with its value
unfoldable pub filter_text : Config → (o : ℕ) → Filter → List ℕ
filter_text c o filter = filter_name filter ++ object_value c o filter

-- what a contact has for a filter, for such an object
abbrev pub right_of : Config → (service : Bool) → Rights → Filter → List ℕ
right_of c service rights ContactOptions =
    codes " notification_options" ++ letters_text service rights.options
right_of c service rights ContactPeriod =
    codes " notification_period" ++ period_text c rights.period
right_of c service rights filter = []

abbrev pub contact_value : Config → (o k : ℕ) → Filter → List ℕ
contact_value c o k filter =
    option_map_or
    (λ object.
    option_map_or (λ contact. right_of c (is_some object.host) (rights_for object contact) filter)
    (slice_get c.contacts k) [])
    (slice_get c.objects o) []

-- a filter of a contact, with its value
abbrev pub contact_filter_text : Config → (o k : ℕ) → Filter → List ℕ
contact_filter_text c o k filter = filter_name filter ++ contact_value c o k filter

-- ---- the periods that filters go by

-- of the object; none of filters that go by none
abbrev pub period_of : Config → (o : ℕ) → Filter → Option PeriodId
period_of c o Period = option_map_or (λ object. object.period) (slice_get c.objects o) None
period_of c o filter = None

-- in which a contact is notified, for such an object
abbrev pub right_period : Config → (o k : ℕ) → Option PeriodId
right_period c o k =
    option_map_or
    (λ object.
    option_map_or (λ contact. (rights_for object contact).period) (slice_get c.contacts k) None)
    (slice_get c.objects o) None

abbrev pub contact_period_of : Config → (o k : ℕ) → Filter → Option PeriodId
contact_period_of c o k ContactPeriod = right_period c o k
contact_period_of c o k filter = None

-- ---- those that passed

-- the filter at a place, after a comma where it isn't the first
abbrev pub passed_at : Config → (o place : ℕ) → List ℕ
passed_at c o place =
    (if place == 0 then codes "    passed       " else codes ", ")
    ++ filter_text c o (filter_at c.choices place)

-- the first filters of the object, and the end of the line
abbrev pub passed_text : Config → (o count : ℕ) → List ℕ
passed_text c o count =
    if count == 0 then []
    else flat_map (passed_at c o) (range_with_len 0 count) ++ codes "\n"
