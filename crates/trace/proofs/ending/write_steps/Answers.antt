use Rattle.std.proofs.Common.{◌++◌, Bool, true, IfSome, sym, ap, subst, ◌∙◌}
use Rattle.std.proofs.lemmas.Option.{IfSome_then}
use Rattle.lemmas.proofs.Results.{on_err_always}
use Rattle.written.specs.claims.Written.{Leaves, WritesFront}
use Rattle.command_output.specs.declared.outcome.Ending.{Ending}
use Rattle.text_lines.specs.LineReader.{to_come}
use Rattle.world_steps.specs.claims.Views.{world_setup, world_state}
use Rattle.world_steps.specs.claims.Worlds.{Setup}
use Rattle.trace.specs.declared.feed.AfterFeed.TheVariants.{Steps}
use Rattle.trace.specs.LaneLines.{world_text}
use Rattle.trace.specs.Run.{run_state}
use Rattle.trace.specs.StepLines.{WritesSteps}
use Rattle.trace.specs.Trace.{WritesEnd, ending_of}
use Rattle.trace.proofs.EndLaws.{end_whole, front_of_lanes, front_of_steps}
use Rattle.trace.proofs.ending.write_steps.Given.{Over}
use Rattle.trace.proofs.ending.write_steps.Goals.{After-write_lanes}
use Rattle.trace.proofs.ending.write_steps.Goals as goal

-- all of the steps were read
all_read : (g : Over) (c : After-write_lanes g) → IfSome (to_come c.args.source.now)
    (λ rest. WritesSteps g.R.Input.can_fail c.args.run.now.config.now c.args.run.now.deciders (world_setup c.args.run.now.world) rest true (run_state c.args.run.now) (run_state c.do_steps.new.run)
    (g.W.Write.contents c.args.writer.now) (g.W.Write.contents c.do_steps.new.writer) c.args.lines.now c.do_steps.new.lines)
all_read g c =
    subst (λ (all : Bool). IfSome (to_come c.args.source.now)
    (λ rest. WritesSteps g.R.Input.can_fail c.args.run.now.config.now c.args.run.now.deciders (world_setup c.args.run.now.world) rest all (run_state c.args.run.now) (run_state c.do_steps.new.run)
    (g.W.Write.contents c.args.writer.now) (g.W.Write.contents c.do_steps.new.writer) c.args.lines.now c.do_steps.new.lines)) c.if-not-branch.false c.in_ok-do_steps.ensures.steps

pub returns-clause-ok : goal.returns-clause-ok
returns-clause-ok g c =
    let run = c.args.run.now in
    let new = c.do_steps.new in
    let last = c.write_lanes.new in
    let s = world_setup run.world in
    let w0 = g.W.Write.contents c.args.writer.now in
    let w1 = g.W.Write.contents new.writer in
    let w2 = g.W.Write.contents last.writer in
    let lanes = subst (λ (x : Setup). Leaves w1 w2 (new.lines ++ world_text x (world_state new.run.world)) last.lines) c.do_steps.ensures.setup c.in_ok-write_lanes.ensures.ok in
    IfSome_then (to_come c.args.source.now) (all_read g (goal.at.returns-clause-ok g c).After-write_lanes)
    (λ rest h. subst (λ (e : Ending). WritesEnd g.R.Input.can_fail run.config.now run.deciders s (run_state run) run.is_over Steps rest e w0 w2 c.args.lines.now last.lines)
    (sym (c.ending_of.ensures ∙ ap ending_of c.do_steps.ensures.over))
    (end_whole g.R.Input.can_fail run.config.now run.deciders s (run_state run) (run_state new.run) run.is_over rest w0 w1 w2 c.args.lines.now new.lines last.lines h lanes))

pub returns-in_err-do_steps-clause-front : goal.returns-in_err-do_steps-clause-front
returns-in_err-do_steps-clause-front g c =
    let run = c.args.run.now in
    on_err_always _ (IfSome_then (to_come c.args.source.now) c.in_err-do_steps.ensures.front
    (λ rest h. front_of_steps g.R.Input.can_fail run.config.now run.deciders (world_setup run.world) (run_state run) run.is_over rest
    (g.W.Write.contents c.args.writer.now) (g.W.Write.contents c.do_steps.new.writer) c.args.lines.now h))

pub returns-in_err-write_lanes-clause-front : goal.returns-in_err-write_lanes-clause-front
returns-in_err-write_lanes-clause-front g c =
    let run = c.args.run.now in
    let new = c.do_steps.new in
    let s = world_setup run.world in
    let w1 = g.W.Write.contents new.writer in
    let w2 = g.W.Write.contents c.write_lanes.new.writer in
    let lanes = subst (λ (x : Setup). WritesFront w1 w2 (new.lines ++ world_text x (world_state new.run.world))) c.do_steps.ensures.setup c.in_err-write_lanes.ensures.front in
    on_err_always _ (IfSome_then (to_come c.args.source.now) (all_read g (goal.at.returns-in_err-write_lanes-clause-front g c).After-write_lanes)
    (λ rest h. front_of_lanes g.R.Input.can_fail run.config.now run.deciders s (run_state run) (run_state new.run) run.is_over rest (g.W.Write.contents c.args.writer.now) w1 w2 c.args.lines.now new.lines h lanes))
