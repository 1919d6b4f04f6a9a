-- The order of a log: by event, then object.
use Rattle.std.specs.Prelude.{ℕ, ◌+◌, ◌*◌, ◌≤◌, List}
use Rattle.std.specs.List.{AllPairs}
use Rattle.due_model.specs.declared.notice.Suppression.{Suppression}

-- where a suppression stands: by event, then object, whose number is below 65,536
abbrev pub place : Suppression → ℕ
place s = s.event * 65_536 + s.object.0

-- no suppression stands before an earlier one of the list
abbrev pub IsInOrder : List Suppression → Type 0
IsInOrder log = AllPairs (λ a b. place a ≤ place b) log
