-- A new world, and lists of steps.
use Rattle.std.specs.Prelude.{ℕ, List, [], length, map, replicate}
use Rattle.steps.specs.claims.Lanes.{new_lane}
use Rattle.world_steps.specs.claims.Worlds.{WorldState, Setup}
use Rattle.world_steps.specs.Worlds.{new_decider}

-- a new world, with so many channels for each lane: nothing is posted, decided, held or asked, and exactly the lanes that have
-- none are shut
abbrev pub new_world : Setup → (served : List ℕ) → WorldState
new_world s served = record {
  posted = [];
  deciders = replicate s.settings.deciders (new_decider (length s.config.lanes));
  lanes = map new_lane served;
}
