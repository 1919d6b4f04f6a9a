use Rattle.std.proofs.Common.{◌≤◌, List, subst, sym}
use Rattle.channel_words.specs.Lanes.{channels_for}
use Rattle.due_model.specs.declared.config.LaneId.{LaneId}
use Rattle.run_devices.proofs.run.run_through.Goals as goal

pub run_posts-requires-clause-few : goal.run_posts-requires-clause-few
run_posts-requires-clause-few g c κs within =
    λ l. subst (λ (lanes : List LaneId). channels_for lanes l ≤ 8) (sym c.in_ok-posts.ensures.lanes) (c.requires.few l)

pub returns-clause-report : goal.returns-clause-report
returns-clause-report g c = (c.in_ok-posts.posts.items, c.in_ok-posts.ensures.lanes, c.in_ok-posts.ensures.channels, c.in_ok-ending.ensures.report)
