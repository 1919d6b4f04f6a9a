-- The lines of what the lanes of a world hold.
use Rattle.std.specs.Prelude.{ℕ, List, flat_map, length}
use Rattle.std.specs.List.{range_with_len}
use Rattle.command_output.specs.claims.TraceLine.{held_line}
use Rattle.steps.specs.claims.Lanes.{about, all_taken}
use Rattle.world_steps.specs.claims.Lines.{decider_of}
use Rattle.world_steps.specs.claims.Worlds.{Setup, WorldState, lane_at, outbox_at}

-- in this state of a world: the line of what lane l holds of object o
abbrev pub held_text : Setup → WorldState → (l o : ℕ) → List ℕ
held_text s w l o =
    held_line s.config l o (about o (all_taken (lane_at w l))) (about o (lane_at w l).hand)
    (about o (lane_at w l).undelivered) (about o (lane_at w l).queue)
    (about o (outbox_at w (decider_of s o) l))

-- the lines of a lane: of each object, in order
abbrev pub lane_lines : Setup → WorldState → (l : ℕ) → List ℕ
lane_lines s w l = flat_map (held_text s w l) (range_with_len 0 (length s.config.objects))

-- the lines of a world: of each lane, in order
abbrev pub world_text : Setup → WorldState → List ℕ
world_text s w = flat_map (lane_lines s w) (range_with_len 0 (length s.config.lanes))
