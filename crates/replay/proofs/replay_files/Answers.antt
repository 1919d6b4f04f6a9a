use Rattle.std.proofs.Common.{ap, inl}
use Rattle.std.proofs.lemmas.Result.{err_from_is_err_and}
use Rattle.event_feed.specs.claims.Feed.{Feed}
use Rattle.written.specs.WrittenLaws.{keeps_same}
use Rattle.command_input.specs.InputLaws.{some_all}
use Rattle.replay.proofs.ReplayLaws.{fault_of_files, file_failed, report_of_files}
use Rattle.replay.proofs.replay_files.Goals as goal

pub write-requires-clause-goes_on : goal.write-requires-clause-goes_on
write-requires-clause-goes_on g c = ap (λ (feed : Feed). feed.stop) c.in_ok-report.ensures.feed

pub returns-in_err-config-clause-fault : goal.returns-in_err-config-clause-fault
returns-in_err-config-clause-fault g c =
    let p = err_from_is_err_and c.from_residual.result c.from_residual.ensures.1 in
    rw (p.1, p.2) (file_failed c.args.choices g.O.Input.can_fail g.R.Input.can_fail c.args.zone.now (g.O.Read.remaining c.args.objects) (g.R.Read.remaining c.args.feed) c.in_err-config.field-0.0
    (g.W.Write.contents c.args.writer.now) c.in_err-config.ensures.fault)

pub returns-in_err-lines-clause-fault : goal.returns-in_err-lines-clause-fault
returns-in_err-lines-clause-fault g c =
    let p = err_from_is_err_and c.from_residual-in_err-lines.result c.from_residual-in_err-lines.ensures.1 in
    rw (p.1, p.2) (some_all (g.O.Read.remaining c.args.objects) _ (λ text. some_all (g.R.Read.remaining c.args.feed) _ (λ bytes. inl (keeps_same (g.W.Write.contents c.args.writer.now)))))

pub returns-in_err-report-clause-fault : goal.returns-in_err-report-clause-fault
returns-in_err-report-clause-fault g c =
    let p = err_from_is_err_and c.from_residual-in_err-report.result c.from_residual-in_err-report.ensures.1 in
    rw (p.1, p.2) (some_all (g.O.Read.remaining c.args.objects) _ (λ text. some_all (g.R.Read.remaining c.args.feed) _ (λ bytes. inl (keeps_same (g.W.Write.contents c.args.writer.now)))))

pub returns-clause-report : goal.returns-clause-report
returns-clause-report g c =
    report_of_files c.args.choices g.R.Input.can_fail _ _ _ _ c.in_ok-lines.lines _ c.write.result _ _ c.in_ok-report.ensures.feed c.in_ok-report.ensures.config c.in_ok-report.ensures.zone
    (g.O.Read.remaining c.args.objects) _ c.in_ok-lines.ensures c.in_ok-config.ensures.config c.write.ensures.ok

pub returns-clause-fault : goal.returns-clause-fault
returns-clause-fault g c =
    fault_of_files c.args.choices g.R.Input.can_fail _ _ _ _ c.in_ok-lines.lines _ c.write.result _ _ c.in_ok-report.ensures.feed c.in_ok-report.ensures.config c.in_ok-report.ensures.zone
    (g.O.Read.remaining c.args.objects) _ c.in_ok-lines.ensures c.in_ok-config.ensures.config g.W.Sink.can_fail g.O.Input.can_fail c.write.ensures.front c.write.ensures.fault
