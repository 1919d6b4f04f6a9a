use Rattle.std.proofs.Common.{◌≤◌, ◌∙◌, List, subst, sym}
use Rattle.channel_words.specs.Lanes.{channels_for}
use Rattle.due_model.specs.declared.config.LaneId.{LaneId}
use Rattle.run_resumed.proofs.resumed.resume.Goals as goal

pub run_posted-requires-clause-few : goal.run_posted-requires-clause-few
run_posted-requires-clause-few g c κs within =
    λ l. subst (λ (lanes : List LaneId). channels_for lanes l ≤ 8) (sym (c.in_ok-posts.ensures.lanes ∙ c.deref.ensures.value)) (c.requires.few l)

pub returns-clause-report : goal.returns-clause-report
returns-clause-report g c = (
  c.in_ok-posts.posts.items,
  record {
    posted = c.in_ok-posts.ensures.lanes ∙ c.deref.ensures.value;
    channels_are = c.in_ok-posts.ensures.inner;
    each = c.in_ok-posts.ensures.each;
  },
  c.in_ok-done.ensures,
)
