use Rattle.std.proofs.Common.{ℕ, ◌+◌, arith, ap, refl, ◌∙◌}
use Rattle.due_model.specs.declared.config.Config.{Config}
use Rattle.text_lines.specs.LineReader.{to_come}
use Rattle.world_steps.specs.claims.Views.{world_setup}
use Rattle.world_steps.specs.claims.Worlds.{Setup}
use Rattle.trace.specs.Run.{run_state}
use Rattle.trace.specs.StepLines.{DoesLast, DoesNext, NextFront}
use Rattle.event_feed.specs.FeedLaws.{known_same, known_then}
use Rattle.lemmas.proofs.Results.{on_err_always}
use Rattle.trace.proofs.StepLinesLaws.{known_last, same_parts, so_far_front, so_far_none, so_far_more, so_far_last, so_far_short, known_first, if_none_is, if_some_is}
use Rattle.trace.proofs.step_lines.do_steps.Given.{Over}
use Rattle.trace.proofs.step_lines.do_steps.Goals.{After-do_next_line}
use Rattle.trace.proofs.step_lines.do_steps.Goals as goal

-- what is said of the run before a turn, in the words of the one before the first
before : (g : Over) (c : After-do_next_line g) (P : Config → ℕ → Setup → Type 0)
    → P c.loop-before.run.config.now c.loop-before.run.deciders (world_setup c.loop-before.run.world) → P c.args.run.now.config.now c.args.run.now.deciders (world_setup c.args.run.now.world)
before g c P h =
    let inv = c.loop-before.invariant in
    same_parts P c.args.run.now.config.now c.loop-before.run.config.now c.args.run.now.deciders c.loop-before.run.deciders (world_setup c.args.run.now.world) (world_setup c.loop-before.run.world)
    (ap (λ r. r.now) inv.config) inv.deciders inv.setup h

pub loop-before-init : goal.loop-before-init
loop-before-init g c =
    let run = c.args.run.now in
    record {
      fits = c.requires.fits;
      setup = refl;
      config = refl;
      deciders = refl;
      over = refl;
      so_far = known_same (to_come c.args.source.now) _
          (λ bytes. so_far_none run.config.now run.deciders (world_setup run.world) bytes (run_state run) (g.W.Write.contents c.args.writer.now) c.args.lines.now);
    }

pub loop-before-preserved : goal.loop-before-preserved
loop-before-preserved g c =
    let run = c.args.run.now in
    let mid = c.loop-before.run in
    let new = c.do_next_line.new in
    let inv = c.loop-before.invariant in
    let done = c.in_ok-all.ensures in
    let n = c.loop-before.before in
    record {
      fits = done.fits;
      setup = done.setup ∙ inv.setup;
      config = done.config ∙ inv.config;
      deciders = done.deciders ∙ inv.deciders;
      over = done.over ∙ inv.over;
      so_far = known_then (to_come c.args.source.now) (to_come c.loop-before.source) (to_come new.source) _ _ _
          inv.so_far (if_none_is c.in_ok-all.field-0 c.in_default.is done.next)
          (λ x y z h k. so_far_more run.config.now run.deciders (world_setup run.world) n x y z (run_state run) (run_state mid) (run_state new.run)
          (g.W.Write.contents c.args.writer.now) (g.W.Write.contents c.loop-before.writer) (g.W.Write.contents new.writer) c.args.lines.now c.loop-before.lines new.lines (omega (arith, c.loop-before-test.true)) h
          (before g (goal.at.loop-before-preserved g c).After-do_next_line
          (λ x d s. DoesNext x d s (n + 1) y z (run_state mid) (run_state new.run) (g.W.Write.contents c.loop-before.writer) (g.W.Write.contents new.writer) c.loop-before.lines new.lines) k));
    }

pub returns-in-Some-clause-steps : goal.returns-in-Some-clause-steps
returns-in-Some-clause-steps g c =
    let run = c.args.run.now in
    let mid = c.loop-before.run in
    let new = c.do_next_line.new in
    let inv = c.loop-before.invariant in
    let n = c.loop-before.before in
    known_last (to_come c.args.source.now) (to_come c.loop-before.source) _ _ _
    (λ x y h k. so_far_last g.R.Input.can_fail run.config.now run.deciders (world_setup run.world) n x y c.in-Some.all (run_state run) (run_state mid) (run_state new.run)
    (g.W.Write.contents c.args.writer.now) (g.W.Write.contents c.loop-before.writer) (g.W.Write.contents new.writer) c.args.lines.now c.loop-before.lines new.lines (omega (arith, c.loop-before-test.true)) h
    (before g (goal.at.returns-in-Some-clause-steps g c).After-do_next_line
    (λ x d s. DoesLast g.R.Input.can_fail x d s (n + 1) y c.in-Some.all (run_state mid) (run_state new.run) (g.W.Write.contents c.loop-before.writer) (g.W.Write.contents new.writer) c.loop-before.lines new.lines) k))
    inv.so_far (if_some_is _ c.in_ok-all.field-0 c.in-Some.all c.in-Some.is c.in_ok-all.ensures.last)

pub returns-in_err-all-clause-front : goal.returns-in_err-all-clause-front
returns-in_err-all-clause-front g c =
    let run = c.args.run.now in
    let mid = c.loop-before.run in
    let inv = c.loop-before.invariant in
    let n = c.loop-before.before in
    on_err_always _ (known_last (to_come c.args.source.now) (to_come c.loop-before.source) _ _ _
    (λ x y h k. so_far_front run.config.now run.deciders (world_setup run.world) n x y (run_state run) (run_state mid)
    (g.W.Write.contents c.args.writer.now) (g.W.Write.contents c.loop-before.writer) (g.W.Write.contents c.do_next_line.new.writer) c.args.lines.now c.loop-before.lines
    (omega (arith, c.loop-before-test.true)) h
    (before g (goal.at.returns-in_err-all-clause-front g c).After-do_next_line
    (λ x d s. NextFront x d s (n + 1) y (run_state mid) (g.W.Write.contents c.loop-before.writer) (g.W.Write.contents c.do_next_line.new.writer) c.loop-before.lines) k))
    inv.so_far c.in_err-all.ensures.front)

pub returns-clause-steps : goal.returns-clause-steps
returns-clause-steps g c =
    let run = c.args.run.now in
    let new = c.loop-before in
    known_first (to_come c.args.source.now) (to_come new.source) _ _
    (λ x y h. so_far_short g.R.Input.can_fail run.config.now run.deciders (world_setup run.world) new.before x y (run_state run) (run_state new.run)
    (g.W.Write.contents c.args.writer.now) (g.W.Write.contents new.writer) c.args.lines.now new.lines (omega arith) h)
    new.invariant.so_far
