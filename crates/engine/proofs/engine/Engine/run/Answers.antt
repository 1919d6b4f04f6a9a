use Rattle.event_feed.specs.claims.Feed.{no_line}
use Rattle.std.proofs.Common.{refl}
use Rattle.engine.proofs.IntakeLaws.{none_ahead}
use Rattle.engine.proofs.engine.Engine.run.Goals as goal

pub returns : goal.returns
returns g c =
    let all = c.run_within.ensures in
    let run = all.run in
    let near = all.near refl in
    let read = all.read no_line (none_ahead c.run_within.result.0.refused.items near) in
    assumption (run, read, near, all)
