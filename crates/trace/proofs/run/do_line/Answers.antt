use Rattle.std.proofs.Common.{[], Err, inl, inr, refl, ap}
use Rattle.std.proofs.lemmas.Result.{on_ok_weaker}
use Rattle.command_output.specs.declared.trace_line.StepRefusal.TheVariants.{BadStep, NotEnabled}
use Rattle.command_output.specs.claims.TraceLine.{refused_step_line}
use Rattle.lemmas.proofs.Results.{on_err_always}
use Rattle.written.specs.WrittenLaws.{leaves_nothing}
use Rattle.trace.specs.Run.{run_state}
use Rattle.trace.proofs.run.do_line.Goals as goal

pub returns-in-Ok-clause-ok : goal.returns-in-Ok-clause-ok
returns-in-Ok-clause-ok g c =
    ([], inr (c.in-Some.said, c.in-Some.ensures.some, inr (c.in-Ok.ensures.ok, refl)), leaves_nothing (g.W.Write.contents c.args.writer.now) c.args.lines.now)

pub returns-in-Err-NotEnabled-clause-ok : goal.returns-in-Err-NotEnabled-clause-ok
returns-in-Err-NotEnabled-clause-ok g c =
    let done = c.in-Err-NotEnabled.ensures in
    on_ok_weaker c.refuse-in-Err-NotEnabled.result
    (λ leaves. (refused_step_line c.args.number NotEnabled, inr (c.in-Some.said, c.in-Some.ensures.some, inl (done.refused.0 (ap Err c.in-Err-NotEnabled.field-0-is), refl, done.err)), leaves))
    c.refuse-in-Err-NotEnabled.ensures.ok

pub returns-in_default-clause-front : goal.returns-in_default-clause-front
returns-in_default-clause-front g c =
    on_err_always _ (inr (run_state c.args.run.now, refused_step_line c.args.number BadStep, inl (c.in_default.ensures.none, refl, refl), c.refuse.ensures.front))

pub returns-in-Err-NotEnabled-clause-front : goal.returns-in-Err-NotEnabled-clause-front
returns-in-Err-NotEnabled-clause-front g c =
    let done = c.in-Err-NotEnabled.ensures in
    on_err_always _ (inr (
      run_state c.do_step.new.run,
      refused_step_line c.args.number NotEnabled,
      inr (c.in-Some.said, c.in-Some.ensures.some, inl (done.refused.0 (ap Err c.in-Err-NotEnabled.field-0-is), refl, done.err)),
      c.refuse-in-Err-NotEnabled.ensures.front,
    ))

pub returns-in-Err-NoMemory-clause-front : goal.returns-in-Err-NoMemory-clause-front
returns-in-Err-NoMemory-clause-front g c = inl c.out_of_memory.ensures.front
