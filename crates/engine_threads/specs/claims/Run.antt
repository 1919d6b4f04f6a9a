-- What the threads leave, once all have ended.
use Rattle.std.specs.Prelude.{◌≡◌, ℕ, ◌<◌, length}
use Rattle.due_model.specs.declared.config.Config.{Config}
use Rattle.due_model.specs.declared.notice.Notice.{Notice}

-- it is of an object of the configuration, and on lane l
abbrev pub IsNamed : Config → (l : ℕ) → Notice → Type 0
IsNamed c l n = (n.object.0 < length c.objects) × (n.lane.0 ≡ l)
