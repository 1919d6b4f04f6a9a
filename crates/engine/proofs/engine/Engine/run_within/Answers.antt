use Rattle.std.proofs.Common.{true}
use Rattle.engine.specs.claims.Lanes.{count_of}
use Rattle.engine.proofs.RunEndLaws.{run_of_kept}
use Rattle.engine.proofs.engine.Engine.run_within.Goals as goal

pub returns : goal.returns
returns g c =
    let all = c.run_reader-end.ensures in
    let end = c.run_reader-end.result.0 in
    let run = run_of_kept (λ _. true) c.args.setup.config.now c.args.setup.zone.now (count_of (λ post. post.lane.0) c.args.posts.items) end.events.items end.memory end.lanes.items _ c.run_reader-end.result.2.items end.log.items all.run in
    assumption (run, all)
