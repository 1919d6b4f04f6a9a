use Rattle.std.proofs.lemmas.Result.{err_from_is_err_and}
use Rattle.texts_compared.proofs.FileLaws.{compares, fails, first_failed, second_failed}
use Rattle.texts_compared.proofs.files.compare_files.Goals as goal

pub returns-in_err-first-clause-fault : goal.returns-in_err-first-clause-fault
returns-in_err-first-clause-fault g c =
    let p = err_from_is_err_and c.from_residual.result c.from_residual.ensures.1 in
    rw (p.1, p.2) (first_failed c.args.choices c.args.form g.O.Input.can_fail g.S.Input.can_fail g.R.Input.can_fail c.args.zone.now (g.O.Read.remaining c.args.before) (g.S.Read.remaining c.args.after) (g.R.Read.remaining c.args.feed)
    (g.W.Write.contents c.args.writer.now) (g.W.Write.contents c.args.writer.now) c.in_err-first.field-0.0 c.in_err-first.ensures.fault)

pub returns-in_err-second-clause-fault : goal.returns-in_err-second-clause-fault
returns-in_err-second-clause-fault g c =
    let p = err_from_is_err_and c.from_residual-in_err-second.result c.from_residual-in_err-second.ensures.1 in
    rw (p.1, p.2) (second_failed c.args.choices c.args.form g.O.Input.can_fail g.S.Input.can_fail g.R.Input.can_fail c.args.zone.now (g.O.Read.remaining c.args.before) (g.S.Read.remaining c.args.after) (g.R.Read.remaining c.args.feed)
    (g.W.Write.contents c.args.writer.now) (g.W.Write.contents c.args.writer.now) c.in_ok-first.first c.in_err-second.field-0.0 c.in_ok-first.ensures.config c.in_err-second.ensures.fault)

pub returns-in-Ok-clause-changes : goal.returns-in-Ok-clause-changes
returns-in-Ok-clause-changes g c =
    compares c.args.choices c.args.form g.O.Input.can_fail g.S.Input.can_fail g.R.Input.can_fail c.args.zone.now (g.O.Read.remaining c.args.before) (g.S.Read.remaining c.args.after) (g.R.Read.remaining c.args.feed)
    (g.W.Write.contents c.args.writer.now) (g.W.Write.contents c.compare.new.writer) c.in_ok-first.first c.in_ok-second.second c.in_ok-first.ensures.config c.in_ok-second.ensures.config c.in-Ok.ending c.in-Ok.ensures.changes

pub returns-clause-fault : goal.returns-clause-fault
returns-clause-fault g c =
    fails c.args.choices c.args.form g.O.Input.can_fail g.S.Input.can_fail g.R.Input.can_fail c.args.zone.now (g.O.Read.remaining c.args.before) (g.S.Read.remaining c.args.after) (g.R.Read.remaining c.args.feed)
    (g.W.Write.contents c.args.writer.now) (g.W.Write.contents c.compare.new.writer) c.in_ok-first.first c.in_ok-second.second c.in_ok-first.ensures.config c.in_ok-second.ensures.config
    g.W.Sink.can_fail c.in-Err.fault c.in-Err.ensures.fault c.in-Err.ensures.front
