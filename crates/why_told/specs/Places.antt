-- Where the values stand in the object text that filters go by.
use Rattle.std.specs.Prelude.{ℕ, ◌+◌, ◌*◌, List, [], ◌∷◌, ◌++◌, codes, slice_index_or}
use Rattle.due_model.specs.declared.notice.Filter.{Filter}
use Rattle.due_model.specs.declared.notice.Filter.TheVariants.{ContactOptions, ContactPeriod, Disabled, FirstDelay, Interval, Options, Period}

-- that of an object's filter among the eleven; the first, of a filter that goes by no directive, where this one goes by none
abbrev pub object_place : Filter → ℕ
object_place Disabled = 1
object_place Options = 4
object_place Period = 6
object_place FirstDelay = 9
object_place Interval = 10
object_place filter = 0

-- which of a contact's three places is that of a filter
abbrev pub right_place : Filter → ℕ
right_place ContactOptions = 1
right_place ContactPeriod = 2
right_place filter = 0

-- that of a contact's filter among all: three of each contact come after the eleven of the object
abbrev pub contact_place : (k : ℕ) → Filter → ℕ
contact_place k filter = 11 + k * 3 + right_place filter

-- a place behind a value, if it is known
abbrev pub shown_place : List ℕ → List ℕ
shown_place [] = []
shown_place (byte ∷ bytes) = codes "  " ++ (byte ∷ bytes)

-- the place of that number; empty where there is none
abbrev pub place_at : List (List ℕ) → (i : ℕ) → List ℕ
place_at places i = slice_index_or places i []

abbrev pub place_text : List (List ℕ) → (i : ℕ) → List ℕ
place_text places i = shown_place (place_at places i)
