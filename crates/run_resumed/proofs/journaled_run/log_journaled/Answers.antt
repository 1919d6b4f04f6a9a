use Rattle.std.proofs.Common.{is_none}
use Rattle.std.specs.Arc.{arc_value}
use Rattle.run_resumed.proofs.HandedLaws.{handed_on}
use Rattle.run_resumed.proofs.TiedLaws.{resumed_ends}
use Rattle.run_resumed.proofs.journaled_run.log_journaled.Goals as goal

pub returns : goal.returns
returns g c = record {
  report = λ states fresh.
      resumed_ends g.C.Channel.account _ _ (λ cs. cs.items) states
      (λ a b offers h none none'. (handed_on g.C.Channel.account _ _ _ c.split_by_past.ensures c.requires.tells a b offers h none none', h.past))
      g.R.Input.can_fail (is_none c.args.settings.ahead) (arc_value c.args.config.now) c.args.zone.now c.args.settings.settings.tries c.args.posts.items c.in_ok-ending.channels.items
      (g.R.Read.remaining c.args.feed) (g.W.Write.contents c.args.writer.now) (g.W.Write.contents c.log_posts.new.writer) c.in_ok-ending.ending fresh c.in_ok-ending.ensures.report;
}
