use Rattle.std.proofs.Common.{inl}
use Rattle.std.proofs.lemmas.Result.{IfErr-weaker, IfOk-weaker, err_from_is_err_and}
use Rattle.written.specs.WrittenLaws.{keeps_same}
use Rattle.command_input.specs.InputLaws.{some_all}
use Rattle.report_pretty.proofs.PrettyLaws.{fails, is_pretty, some_shown}
use Rattle.report_pretty.proofs.pretty_files.Goals as goal

pub returns-in_err-pretty-clause-fault : goal.returns-in_err-pretty-clause-fault
returns-in_err-pretty-clause-fault g c =
    let p = err_from_is_err_and c.from_residual.result c.from_residual.ensures.1 in
    rw (p.1, p.2) (some_all (g.O.Read.remaining c.args.objects) _
    (λ text. some_all (g.R.Read.remaining c.args.feed) _ (λ bytes. inl (keeps_same (g.W.Write.contents c.args.writer.now)))))

pub returns-clause-report : goal.returns-clause-report
returns-clause-report g c =
    let n = c.in_ok-pretty.ensures in
    some_shown (g.O.Read.remaining c.args.objects) _ _
    (λ text known. some_shown (g.R.Read.remaining c.args.feed) _ _
    (λ bytes h. IfOk-weaker c.tell_files.result _ _
    (λ ending told. is_pretty c.args.choices c.in_ok-pretty.pretty c.args.wanted.picks c.args.wanted.coloured n.picks n.coloured n.widths n.runs g.R.Input.can_fail text bytes c.args.zone.now ending _ _ told) h) known)
    c.tell_files.ensures.report

pub returns-clause-fault : goal.returns-clause-fault
returns-clause-fault g c =
    let n = c.in_ok-pretty.ensures in
    some_shown (g.O.Read.remaining c.args.objects) _ _
    (λ text known. some_shown (g.R.Read.remaining c.args.feed) _ _
    (λ bytes h. IfErr-weaker c.tell_files.result _ _
    (λ fault told. fails c.args.choices c.in_ok-pretty.pretty c.args.wanted.picks c.args.wanted.coloured n.picks n.coloured n.widths n.runs g.O.Input.can_fail g.R.Input.can_fail text bytes c.args.zone.now fault _ _ told) h) known)
    c.tell_files.ensures.fault
