use Rattle.std.proofs.Common.{inl}
use Rattle.std.proofs.lemmas.Result.{err_from_is_err_and}
use Rattle.written.specs.WrittenLaws.{keeps_same}
use Rattle.command_input.specs.InputLaws.{input_failed, some_all}
use Rattle.trace.specs.Trace.{TracesFrontIn}
use Rattle.trace.proofs.TraceLaws.{fault_of_input, traces_of_input}
use Rattle.trace.proofs.trace_in.Goals as goal

pub returns-in_err-lines-clause-fault : goal.returns-in_err-lines-clause-fault
returns-in_err-lines-clause-fault g c =
    let p = err_from_is_err_and c.from_residual.result c.from_residual.ensures.1 in
    rw (p.1, p.2) (some_all (g.R.Read.remaining c.args.reader) _ (λ bytes. inl (keeps_same (g.W.Write.contents c.args.writer.now))))

pub returns-in_err-config-clause-fault : goal.returns-in_err-config-clause-fault
returns-in_err-config-clause-fault g c =
    let p = err_from_is_err_and c.from_residual-in_err-config.result c.from_residual-in_err-config.ensures.1 in
    let w = g.W.Write.contents c.args.writer.now in
    rw (p.1, p.2) (input_failed c.args.choices g.R.Input.can_fail (g.R.Read.remaining c.args.reader) c.in_ok-lines.lines c.in_err-config.field-0.0 w
    (λ bytes. TracesFrontIn c.args.choices g.R.Input.can_fail c.args.zone.now c.args.settings c.args.standbys bytes w w) c.in_ok-lines.ensures c.in_err-config.ensures.fault)

pub returns-clause-traces : goal.returns-clause-traces
returns-clause-traces g c =
    traces_of_input c.args.choices g.R.Input.can_fail c.in_ok-config.config c.args.zone.now c.args.settings c.args.standbys (g.R.Read.remaining c.args.reader) _ c.in_ok-lines.lines c.trace_feed.result _ _
    c.in_ok-lines.ensures c.in_ok-config.ensures.config c.trace_feed.ensures.traces

pub returns-clause-fault : goal.returns-clause-fault
returns-clause-fault g c =
    fault_of_input c.args.choices g.R.Input.can_fail c.in_ok-config.config c.args.zone.now c.args.settings c.args.standbys (g.R.Read.remaining c.args.reader) _ c.in_ok-lines.lines c.trace_feed.result _ _
    c.in_ok-lines.ensures c.in_ok-config.ensures.config g.W.Sink.can_fail c.trace_feed.ensures.front c.trace_feed.ensures.fault
