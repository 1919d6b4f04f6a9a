-- What the events so far say of an object. The past is the list of events, the newest first; event 0 is the last.
use Rattle.std.specs.Prelude.{ℕ, ◌-◌, List, [], ◌∷◌, if◌then◌else◌}
use Rattle.due_model.specs.declared.event.Event.{Event}
use Rattle.due_model.specs.claims.Readings.{moment, begins}

-- the moment at which the object's last problem began; 0, if there was none
abbrev pub began : ℕ → List Event → ℕ
began o [] = 0
began o (e ∷ past) = if begins o e past then moment (e ∷ past) else began o past
