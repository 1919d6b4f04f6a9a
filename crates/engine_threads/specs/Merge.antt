-- Two logs as one.
use Rattle.std.specs.Prelude.{◌≡◌, ◌+◌, Bool, if◌then◌else◌, List, [], ◌∷◌, filter, length}
use Rattle.due_model.specs.declared.notice.Suppression.{Suppression}
use Rattle.decider_thread.specs.Order.{stands_before}

-- The one log has all lines of both and no other: where a test keeps none of the second, it keeps of the one what it keeps
-- of the first, in order; and the other way round.
pub record HasBoth (first second log : List Suppression) : Type 0 where
  pub of_first : (keeps : Suppression → Bool) → filter keeps second ≡ [] → filter keeps log ≡ filter keeps first
  pub of_second : (keeps : Suppression → Bool) → filter keeps first ≡ [] → filter keeps log ≡ filter keeps second
  pub count : length log ≡ length first + length second

-- a suppression goes among others, and `rest` goes on after it
abbrev pub merge_into : Suppression → (List Suppression → List Suppression) → List Suppression → List Suppression
merge_into x rest [] = x ∷ rest []
merge_into x rest (y ∷ ys) =
    if stands_before y x then y ∷ merge_into x rest ys else x ∷ rest (y ∷ ys)

-- the suppressions of both, each time the one that stands first, and of two at one place the first log's
abbrev pub merged : List Suppression → List Suppression → List Suppression
merged [] ys = ys
merged (x ∷ xs) ys = merge_into x (merged xs) ys
