use Rattle.std.proofs.Common.{IfSome, OnErr, refl, subst, sym}
use Rattle.text_lines.specs.LineReader.{to_come}
use Rattle.command_input.specs.InputLaws.{some_all}
use Rattle.command_output.specs.declared.outcome.Ending.TheVariants.{Short}
use Rattle.lemmas.proofs.Results.{on_err_always}
use Rattle.world_steps.specs.claims.Views.{world_setup}
use Rattle.trace.specs.declared.feed.AfterFeed.{AfterFeed}
use Rattle.trace.specs.declared.feed.AfterFeed.TheVariants.{Nothing, Cut}
use Rattle.trace.specs.Run.{run_state}
use Rattle.trace.specs.Trace.{EndFront, ending_of}
use Rattle.trace.proofs.EndLaws.{front_of_rest}
use Rattle.trace.proofs.ending.write_end.Goals as goal

pub returns-in-Steps-clause-front : goal.returns-in-Steps-clause-front
returns-in-Steps-clause-front g c =
    let run = c.args.run.now in
    subst (λ (after : AfterFeed). OnErr c.write_steps.result (IfSome (to_come c.args.source.now) (λ rest. EndFront g.R.Input.can_fail run.config.now run.deciders (world_setup run.world) (run_state run) run.is_over
    after rest (g.W.Write.contents c.args.writer.now) (g.W.Write.contents c.write_steps.new.writer) c.args.lines.now))) (sym c.in-Steps.is) c.write_steps.ensures.front

pub returns-in_err-write_lanes-in-Nothing-clause-front : goal.returns-in_err-write_lanes-in-Nothing-clause-front
returns-in_err-write_lanes-in-Nothing-clause-front g c =
    let run = c.args.run.now in
    on_err_always _ (some_all (to_come c.args.source.now) _ (λ rest. front_of_rest g.R.Input.can_fail run.config.now run.deciders (world_setup run.world) (run_state run) run.is_over c.args.after Nothing rest
    (ending_of run.is_over) _ _ c.args.lines.now c.in-Nothing.is (refl, refl) c.in_err-write_lanes-in-Nothing.ensures.front))

pub returns-in_err-write_lanes-in-Cut-clause-front : goal.returns-in_err-write_lanes-in-Cut-clause-front
returns-in_err-write_lanes-in-Cut-clause-front g c =
    let run = c.args.run.now in
    on_err_always _ (some_all (to_come c.args.source.now) _ (λ rest. front_of_rest g.R.Input.can_fail run.config.now run.deciders (world_setup run.world) (run_state run) run.is_over c.args.after Cut rest
    Short _ _ c.args.lines.now c.in-Cut.is (refl, refl) c.in_err-write_lanes-in-Cut.ensures.front))
