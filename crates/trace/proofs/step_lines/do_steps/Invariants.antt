use Rattle.std.proofs.Common.{◌≡◌}
use Rattle.text_lines.specs.LineReader.{to_come}
use Rattle.text_lines.specs.claims.Lines.{Known}
use Rattle.world_steps.specs.claims.Views.{world_setup}
use Rattle.trace.specs.Run.{Fits, run_state}
use Rattle.trace.specs.StepLines.{DoesSoFar}
use Rattle.trace.proofs.step_lines.do_steps.Given as goal

abbrev pub invariant-loop-before : goal.invariant-loop-before
invariant-loop-before g l = record {
  fits : Fits l.run;
  setup : world_setup l.run.world ≡ world_setup l.fn.run.world;
  config : l.run.config ≡ l.fn.run.config;
  deciders : l.run.deciders ≡ l.fn.run.deciders;
  over : l.run.is_over ≡ l.fn.run.is_over;
  so_far : Known (to_come l.fn.source) (to_come l.source) (λ bytes rest.
      DoesSoFar l.fn.run.config.now l.fn.run.deciders (world_setup l.fn.run.world) l.before bytes rest
      (run_state l.fn.run) (run_state l.run) (g.W.Write.contents l.fn.writer) (g.W.Write.contents l.writer) l.fn.lines l.lines);
}
