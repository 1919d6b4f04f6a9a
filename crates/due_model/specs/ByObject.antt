-- The escalations and the dependencies of one object, and how they are kept by their objects.
use Rattle.std.specs.Prelude.{◌≡◌, ℕ, ◌+◌, ◌==◌, Bool, false, List, [], ◌∷◌, cond, length, filter, slice_get, slice_index_or, Some, None}
use Rattle.std.specs.List.{range_with_len}
use Rattle.due_model.specs.declared.config.Dependency.{Dependency}
use Rattle.due_model.specs.declared.config.Escalation.{Escalation}

-- whether the escalation at a place is one of object o
abbrev pub is_of : List Escalation → (o place : ℕ) → Bool
is_of es o place = elim (slice_get es place) as (λ _. Bool) [
  | None ↦ false
  | Some e ↦ e.object.0 == o
]

-- the places of the escalations of object o, among the first `count`
abbrev pub places_below : List Escalation → (count o : ℕ) → List ℕ
places_below es count o = filter (is_of es o) (range_with_len 0 count)

-- the places of all escalations of object o, in their order
abbrev pub places_of : List Escalation → ℕ → List ℕ
places_of es o = places_below es (length es) o

-- the entries whose dependent is object o, in their order
abbrev pub entries_of : List Dependency → ℕ → List Dependency
entries_of dependencies o = filter (λ entry. entry.dependent.0 == o) dependencies

-- what is kept of the entries of object o, in their order; the first of them stands at the place `at`
unfoldable pub kept_from : {E T : Type 0} → (E → ℕ) → (E → ℕ → T) → (o at : ℕ) → List E → List T
kept_from number kept o at [] = []
kept_from number kept o at (e ∷ es) = cond (number e == o) (kept e at ∷ kept_from number kept o (at + 1) es) (kept_from number kept o (at + 1) es)

-- ---- how they are kept: a list for each object, and objects beyond the lists have none

-- the lists have the places of all escalations
abbrev pub ArePlaces : List Escalation → List (List ℕ) → Type 0
ArePlaces es lists = (o : ℕ) → slice_index_or lists o [] ≡ places_of es o

-- the lists have all entries
abbrev pub AreEntries : List Dependency → List (List Dependency) → Type 0
AreEntries dependencies lists = (o : ℕ) → slice_index_or lists o [] ≡ entries_of dependencies o

-- the lists have what is kept of all entries
abbrev pub AreKept : {E T : Type 0} → (E → ℕ) → (E → ℕ → T) → List E → List (List T) → Type 0
AreKept number kept entries lists = (o : ℕ) → slice_index_or lists o [] ≡ kept_from number kept o 0 entries
