-- The laws of what a decider's events make of the objects of its share.
use Rattle.std.specs.Prelude.{ℕ, ◌==◌, List, filter}
use Rattle.due_model.specs.declared.notice.Suppression.{Suppression}

-- the suppressions of object o
abbrev pub of_object : (o : ℕ) → List Suppression → List Suppression
of_object o log = filter (λ s. s.object.0 == o) log
