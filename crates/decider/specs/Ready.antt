-- The ready moments of problems, as an index keeps them by object, and those that the clock judges.
use Rattle.std.specs.Prelude.{◌≡◌, ℕ, ◌+◌, ◌%◌, ◌^◌, ◌<◌, ◌≤◌, ◌==◌, List, [], ◌∷◌, length, Option, All, if◌then◌else◌}
use Rattle.due_model.specs.declared.event.EventKind.{EventKind}
use Rattle.due_model.specs.claims.Readings.{moment}
use Rattle.due_times.specs.claims.Index.{Due, at}
use Rattle.due_times.specs.Index.{due_count, left_at}
use Rattle.decider.specs.declared.staging.NewBook.{NewBook}
use Rattle.decider.specs.claims.Ready.{is_clock}

-- what is left of an entry after an event at moment t, before new books set theirs: the clock takes out what has come
abbrev pub left_after : EventKind → (t : ℕ) → Option ℕ → Option ℕ
left_after k t moment = if is_clock k then left_at t moment else moment

-- how many entries were handed out after it
abbrev pub handed_after : EventKind → (t : ℕ) → Due → ℕ
handed_after k t old =
    if is_clock k then (old.examined + due_count t old.moments) % 2 ^ 64 else old.examined

-- the entry of object o once these books have set theirs
abbrev pub entry_decided : List NewBook → (o : ℕ) → Option ℕ → Option ℕ
entry_decided [] o moment = moment
entry_decided (new ∷ more) o moment =
    entry_decided more o (if new.object.0 == o then new.book.due else moment)

-- there is room for the entries of these books
abbrev pub HasRoom : Due → List NewBook → Type 0
HasRoom index decided = All (λ new. new.object.0 < length index.moments) decided

-- An index after an event at moment t at which these books were staged.
pub record IsIndexAfter (k : EventKind) (t : ℕ) (decided : List NewBook) (old new : Due)
    : Type 0 where
  pub room : length old.moments ≤ length new.moments
  pub each : (o : ℕ)
      → at new.moments o ≡ entry_decided decided o (left_after k t (at old.moments o))
  pub examined : new.examined ≡ handed_after k t old
