-- Changes of an object's hard state.
use Rattle.std.specs.Prelude.{ℕ, Bool, not, List, [], ◌∷◌, if◌then◌else◌}
use Rattle.due_model.specs.declared.config.Config.{Config}
use Rattle.due_model.specs.declared.event.Event.{Event}
use Rattle.due_model.specs.claims.Readings.{hard, moment, begins}
use Rattle.due_model.specs.claims.Rules.{same_state}

-- whether an event changes the hard state of object o, of which this is the past before it
abbrev pub changes : ℕ → Event → List Event → Bool
changes o e past = not (same_state (hard o (e ∷ past)) (hard o past))

-- whether the first delay runs anew from an event: where a problem begins, or by the daemon's rule where the hard state
-- changes
abbrev pub delays : Config → ℕ → Event → List Event → Bool
delays c o e past = if c.choices.delay then changes o e past else begins o e past

-- since when the first delay runs; 0, where it never did
abbrev pub delayed : Config → ℕ → List Event → ℕ
delayed c o [] = 0
delayed c o (e ∷ past) = if delays c o e past then moment (e ∷ past) else delayed c o past
