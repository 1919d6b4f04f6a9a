use Rattle.std.proofs.Common.{Ok, Err, refl, ap, sym}
use Rattle.steps.specs.declared.step.Step.TheVariants.{Post}
use Rattle.trace.specs.Run.{posted_after, run_state}
use Rattle.world_steps.specs.claims.Views.{world_setup}
use Rattle.trace.proofs.RunLaws.{next_said, refused_in}
use Rattle.trace.proofs.run.do_step.Goals as goal

pub returns-in-Ok-clause-refused : goal.returns-in-Ok-clause-refused
returns-in-Ok-clause-refused c =
    refused_in (world_setup c.args.run.now.world) (run_state c.args.run.now) c.args.said (Post c.in-Some.event.now) (Ok c.in-Ok.field-0)
    (next_said (run_state c.args.run.now) c.args.said c.in-Some.event.now c.deref.result.now c.in-PostNext.is c.deref.ensures.value c.in-Some.ensures.lookup.3.0 c.in-Some.ensures.lookup.1)
    c.in-Ok.ensures.refused

pub returns-in-Ok-clause-ok : goal.returns-in-Ok-clause-ok
returns-in-Ok-clause-ok c = record {
  step = Post c.in-Some.event.now;
  is = next_said (run_state c.args.run.now) c.args.said c.in-Some.event.now c.deref.result.now c.in-PostNext.is c.deref.ensures.value c.in-Some.ensures.lookup.3.0 c.in-Some.ensures.lookup.1;
  enabled = c.in-Ok.ensures.enabled;
  world = c.in-Ok.ensures.ok;
  posted = ap (posted_after (run_state c.args.run.now)) (sym c.in-PostNext.is);
  events = refl;
}

pub returns-in-Err-clause-refused : goal.returns-in-Err-clause-refused
returns-in-Err-clause-refused c =
    refused_in (world_setup c.args.run.now.world) (run_state c.args.run.now) c.args.said (Post c.in-Some.event.now) (Err c.in-Err.fault)
    (next_said (run_state c.args.run.now) c.args.said c.in-Some.event.now c.deref.result.now c.in-PostNext.is c.deref.ensures.value c.in-Some.ensures.lookup.3.0 c.in-Some.ensures.lookup.1)
    c.in-Err.ensures.refused
