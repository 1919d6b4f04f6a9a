use Rattle.std.proofs.Common.{ap, inl}
use Rattle.std.proofs.lemmas.Result.{err_from_is_err_and}
use Rattle.event_feed.specs.claims.Feed.{Feed}
use Rattle.written.specs.WrittenLaws.{keeps_same}
use Rattle.command_input.specs.InputLaws.{input_failed, some_all}
use Rattle.report_telling.specs.Told.{form_of}
use Rattle.report_telling.specs.Tells.{TellsFront}
use Rattle.report_telling.specs.TellsLaws.{fault_of_input, telling_of_input}
use Rattle.report_telling.proofs.tell_in.Goals as goal

pub write-requires-clause-goes_on : goal.write-requires-clause-goes_on
write-requires-clause-goes_on g c = ap (λ (feed : Feed). feed.stop) c.in_ok-telling.ensures.feed

pub returns-in_err-lines-clause-fault : goal.returns-in_err-lines-clause-fault
returns-in_err-lines-clause-fault g c =
    let p = err_from_is_err_and c.from_residual.result c.from_residual.ensures.1 in
    rw (p.1, p.2) (some_all (g.R.Read.remaining c.args.reader) _ (λ bytes. inl (keeps_same (g.W.Write.contents c.args.writer.now))))

pub returns-in_err-config-clause-fault : goal.returns-in_err-config-clause-fault
returns-in_err-config-clause-fault g c =
    let p = err_from_is_err_and c.from_residual-in_err-config.result c.from_residual-in_err-config.ensures.1 in
    let w = g.W.Write.contents c.args.writer.now in
    rw (p.1, p.2) (input_failed c.args.choices g.R.Input.can_fail (g.R.Read.remaining c.args.reader) c.in_ok-lines.lines c.in_err-config.field-0.0 w
    (λ bytes. TellsFront c.args.choices (form_of g.T.Teller.told g.T.Teller.after g.T.Teller.ended) c.args.teller g.R.Input.can_fail bytes c.args.zone.now w w) c.in_ok-lines.ensures c.in_err-config.ensures.fault)

pub returns-in_err-telling-clause-fault : goal.returns-in_err-telling-clause-fault
returns-in_err-telling-clause-fault g c =
    let p = err_from_is_err_and c.from_residual-in_err-telling.result c.from_residual-in_err-telling.ensures.1 in
    rw (p.1, p.2) (some_all (g.R.Read.remaining c.args.reader) _ (λ bytes. inl (keeps_same (g.W.Write.contents c.args.writer.now))))

pub returns-clause-report : goal.returns-clause-report
returns-clause-report g c =
    telling_of_input c.args.choices (form_of g.T.Teller.told g.T.Teller.after g.T.Teller.ended) c.args.teller _ g.R.Input.can_fail _ _ _ _ c.read_objects.new.lines _ c.write.result _ _
    c.in_ok-telling.ensures.feed c.in_ok-telling.ensures.config c.in_ok-telling.ensures.zone c.in_ok-telling.ensures.teller
    _ _ c.in_ok-lines.ensures c.in_ok-config.ensures.config c.write.ensures.ok

pub returns-clause-fault : goal.returns-clause-fault
returns-clause-fault g c =
    fault_of_input c.args.choices (form_of g.T.Teller.told g.T.Teller.after g.T.Teller.ended) c.args.teller _ g.R.Input.can_fail _ _ _ _ c.read_objects.new.lines _ c.write.result _ _
    c.in_ok-telling.ensures.feed c.in_ok-telling.ensures.config c.in_ok-telling.ensures.zone c.in_ok-telling.ensures.teller
    g.W.Sink.can_fail _ _ c.in_ok-lines.ensures c.in_ok-config.ensures.config c.write.ensures.front c.write.ensures.fault
