-- DeadEscalation: an escalation that matches no number that can come (chapter "Notification Escalations").
use Rattle.std.specs.Prelude.{ℕ, Bool, false, not, ◌==◌, ◌&&◌, ◌||◌, nat_lt, slice_get}
use Rattle.std.specs.Option.{option_map_or}
use Rattle.due_model.specs.declared.config.Config.{Config}
use Rattle.due_model.specs.declared.config.Escalation.{Escalation}

-- whether the interval of object o is 0: each of its problems is told of once
abbrev pub is_told_once : Config → (o : ℕ) → Bool
is_told_once c o = option_map_or (λ object. object.interval == 0) (slice_get c.objects o) false

-- Its first is above its last, if it has a last; or above 1, where the interval of its object is 0.
abbrev pub is_dead : Config → Escalation → Bool
is_dead c e = (not (e.last == 0) && nat_lt e.last e.first)
    || (nat_lt 1 e.first && is_told_once c e.object.0)

-- the same of the escalation at the place
abbrev pub is_dead_at : Config → (place : ℕ) → Bool
is_dead_at c place = option_map_or (is_dead c) (slice_get c.escalations place) false
