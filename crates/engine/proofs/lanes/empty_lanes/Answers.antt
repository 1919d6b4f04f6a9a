use Rattle.std.proofs.Common.{rules, ◌≡◌, [], ◌∷◌, ◌+◌, ap, length, length-append, ◌∙◌}
use Rattle.engine_threads.specs.ListLaws.{each_grows}
use Rattle.engine.proofs.lanes.empty_lanes.Goals as goal

pub loop-lane-preserved : goal.loop-lane-preserved
loop-lane-preserved g c =
    let inv = c.loop-lane.invariant in
    let items = c.in_ok-push.ensures.items in (
      ap length items ∙ length-append c.loop-lane.channels.items (_ ∷ []) ∙ ap (λ n. n + 1) inv.0,
      rw items (each_grows (λ of_lane. of_lane.items ≡ []) c.loop-lane.channels.items _ inv.1 (search rules)),
    )
