use Rattle.std.proofs.Common.{rules, ◌≤◌, is_none, map, refl, sym, subst}
use Rattle.std.proofs.lemmas.Result.{IfOk-at_ok}
use Rattle.channel_words.specs.Lanes.{channels_for}
use Rattle.engine.specs.claims.Lanes.{count_of}
use Rattle.run_command.specs.claims.Report.{WritesReport}
use Rattle.run_devices.proofs.PostLaws.{report_posted, same_posted}
use Rattle.run_devices.proofs.run.run_posts.Goals as goal

pub run-outcome-requires-clause-few : goal.run-outcome-requires-clause-few
run-outcome-requires-clause-few g c κs within =
    λ l. subst (λ n. n ≤ 8) (sym (same_posted (λ post. post.lane) c.args.posts.items (map (λ post. post.lane) c.args.posts.items) refl l)) (c.requires.few l)

pub returns : goal.returns
returns g c =
    let posts = c.args.posts.items in
    let report = c.run-outcome.ensures.report in
    record {
      report = report_posted g.R.Input.can_fail (is_none c.args.settings.ahead) c.args.config.now c.args.zone.now (count_of (λ post. post.lane.0) posts) (channels_for (map (λ post. post.lane) posts)) _
          (g.R.Read.remaining c.args.feed) (g.W.Write.contents c.args.writer.now) (g.W.Write.contents c.run-outcome.new.writer) _
          (same_posted (λ post. post.lane) posts (map (λ post. post.lane) posts) refl)
          (IfOk-at_ok (λ ending. WritesReport g.R.Input.can_fail (is_none c.args.settings.ahead) c.args.config.now c.args.zone.now (count_of (λ post. post.lane.0) posts) _
          (g.R.Read.remaining c.args.feed) ending (g.W.Write.contents c.args.writer.now) (g.W.Write.contents c.run-outcome.new.writer))
          {r = c.run-outcome.result.0} (search rules) report);
    }
