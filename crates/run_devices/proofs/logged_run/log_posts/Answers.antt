use Rattle.std.proofs.Common.{◌≤◌, is_none, map, refl, subst, sym}
use Rattle.std.proofs.lemmas.Result.{IfOk-at_ok}
use Rattle.std.specs.Arc.{arc_value}
use Rattle.engine.specs.claims.Lanes.{count_of}
use Rattle.run_devices.proofs.LoggedLaws.{logged_posted}
use Rattle.run_devices.proofs.PostLaws.{same_posted}
use Rattle.run_devices.proofs.logged_run.log_posts.Goals as goal

pub run_logged-outcome-requires-clause-few : goal.run_logged-outcome-requires-clause-few
run_logged-outcome-requires-clause-few g c κs within =
    λ l. subst (λ n. n ≤ 8) (sym (same_posted (λ post. post.lane) c.args.posts.items (map (λ post. post.lane) c.args.posts.items) refl l)) (c.requires.few l)

pub returns : goal.returns
returns g c =
    let posts = c.args.posts.items in
    record {
      report = logged_posted _ _ _ _ _ g.R.Input.can_fail (is_none c.args.settings.ahead) _ c.args.zone.now _ (arc_value c.args.config.now) c.deref-2.ensures (count_of (λ post. post.lane.0) posts) posts _
          (g.R.Read.remaining c.args.feed) (g.W.Write.contents c.args.writer.now) (g.W.Write.contents c.run_logged-outcome.new.writer) _ _ _
          (same_posted (λ post. post.lane) posts (map (λ post. post.lane) posts) refl)
          (IfOk-at_ok _ {r = c.run_logged-outcome.result.outcome} c.in_ok-ending.ensures c.run_logged-outcome.ensures.report);
    }
