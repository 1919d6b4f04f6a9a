use Rattle.std.proofs.Common.{◌∙◌, is_none}
use Rattle.std.specs.Arc.{arc_value}
use Rattle.run_devices.proofs.LoggedLaws.{by_same}
use Rattle.run_devices.proofs.logged_run.log_through.Goals as goal

pub returns-clause-report : goal.returns-clause-report
returns-clause-report g c = (
  c.in_ok-posts.posts.items,
  c.in_ok-posts.ensures.lanes ∙ c.deref-3.ensures.value,
  c.in_ok-posts.ensures.channels,
  by_same _ _ (λ cs. cs.items) g.R.Input.can_fail (is_none c.args.settings.run.ahead) c.args.zone.now c.args.settings.run.settings.tries c.in_ok-posts.posts.items c.in_ok-ending.channels.items
      (g.R.Read.remaining c.args.feed) (g.W.Write.contents c.args.writer.now) (g.W.Write.contents c.log_posts.new.writer) c.in_ok-ending.ending (arc_value c.in_ok-config.config) c.args.config c.in_ok-config.ensures.ok
      c.in_ok-ending.ensures.report,
)
