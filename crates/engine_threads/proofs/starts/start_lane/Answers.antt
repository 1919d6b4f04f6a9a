use Rattle.std.proofs.Common.{rules, ◌≡◌, length}
use Rattle.engine_threads.proofs.starts.start_lane.Goals as goal

pub spawn_with-started-requires-clause-keeps : goal.spawn_with-started-requires-clause-keeps
spawn_with-started-requires-clause-keeps g c κs within =
    let count : c.len-channels.result ≡ length c.args.work.channels.items = search rules in
    λ r done. rw (count, c.of.ensures) done
