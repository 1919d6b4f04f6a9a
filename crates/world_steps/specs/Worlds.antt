-- The state of a world, as lists.
use Rattle.std.specs.Prelude.{ℕ, [], replicate}
use Rattle.world_steps.specs.claims.Worlds.{DeciderState}

-- a decider that has decided nothing, with this many lanes
abbrev pub new_decider : (lanes : ℕ) → DeciderState
new_decider lanes = record { decided = 0; outboxes = replicate lanes [] }
