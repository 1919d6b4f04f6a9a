use Rattle.std.proofs.Common.{IfErr, IfOk, None}
use Rattle.std.proofs.lemmas.Result.{IfErr-weaker, IfOk-weaker, err_from_is_err_and}
use Rattle.command_input.specs.InputLaws.{some_known, text_failed}
use Rattle.command_input.specs.Objects.{FileFails, IsFileOf}
use Rattle.who_told.specs.declared.fault.WhoFault.TheVariants as fault
use Rattle.who_told.specs.Who.{FailsFor, FailsOf, TellsKnown, TellsWho, TellsWhoFront}
use Rattle.who_told.proofs.WhoLaws.{known_failed}
use Rattle.who_told.proofs.who.Goals as goal

pub returns-in_err-config-clause-fault : goal.returns-in_err-config-clause-fault
returns-in_err-config-clause-fault g c =
    let p = err_from_is_err_and c.from_residual.result c.from_residual.ensures.1 in
    let held = g.W.Write.contents c.args.writer.now in
    let command = c.in_err-config.field-0.0 in
    rw (p.1, p.2) (some_known (g.O.Read.remaining c.args.objects) (λ k. FileFails c.args.choices g.O.Input.can_fail command k)
    (λ text. FailsOf c.args.choices c.args.form c.args.supposed.now g.O.Input.can_fail text c.args.zone.now (fault.Command command) held held) c.in_err-config.ensures.fault
    (λ text fails. text_failed c.args.choices g.O.Input.can_fail None text command held (TellsWhoFront c.args.choices c.args.form c.args.supposed.now text c.args.zone.now held held) fails))

pub returns-clause-table : goal.returns-clause-table
returns-clause-table g c =
    let old = g.W.Write.contents c.args.writer.now in
    let new = g.W.Write.contents c.tell_known.new.writer in
    let config = c.in_ok-config.config in
    some_known (g.O.Read.remaining c.args.objects) (λ k. IsFileOf c.args.choices config k)
    (λ text. IfOk c.tell_known.result (λ ending. TellsWho c.args.choices c.args.form c.args.supposed.now text c.args.zone.now ending old new)) c.in_ok-config.ensures.config
    (λ text of. IfOk-weaker c.tell_known.result (λ ending. TellsKnown c.args.form c.args.supposed.now config c.args.zone.now ending old new)
    (λ ending. TellsWho c.args.choices c.args.form c.args.supposed.now text c.args.zone.now ending old new) (λ ending known. (config, of, known)) c.tell_known.ensures.ok)

pub returns-clause-fault : goal.returns-clause-fault
returns-clause-fault g c =
    let old = g.W.Write.contents c.args.writer.now in
    let new = g.W.Write.contents c.tell_known.new.writer in
    let config = c.in_ok-config.config in
    some_known (g.O.Read.remaining c.args.objects) (λ k. IsFileOf c.args.choices config k)
    (λ text. IfErr c.tell_known.result (λ fault. FailsOf c.args.choices c.args.form c.args.supposed.now g.O.Input.can_fail text c.args.zone.now fault old new)) c.in_ok-config.ensures.config
    (λ text of. IfErr-weaker c.tell_known.result (λ fault. FailsFor c.args.form g.W.Sink.can_fail c.args.supposed.now config c.args.zone.now fault old new)
    (λ fault. FailsOf c.args.choices c.args.form c.args.supposed.now g.O.Input.can_fail text c.args.zone.now fault old new)
    (λ fault fails. known_failed c.args.choices c.args.form c.args.supposed.now text config c.args.zone.now g.W.Sink.can_fail g.O.Input.can_fail old new of fault fails) c.tell_known.ensures.fault)
