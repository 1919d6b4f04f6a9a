-- What a decider's thread has decided, and what it gives back.
use Rattle.std.specs.Prelude.{◌≡◌, List, ◌++◌}
use Rattle.due_model.specs.declared.event.Event.{Event}

-- these events begin with those, newest first, that came after the others
abbrev pub IsOlder : (past all : List Event) → Type 0
IsOlder past all = (newer : List Event) × (newer ++ past ≡ all)
