use Rattle.std.proofs.Common.{ap, inl}
use Rattle.std.proofs.lemmas.Result.{err_from_is_err_and}
use Rattle.event_feed.specs.claims.Feed.{Feed}
use Rattle.written.specs.WrittenLaws.{keeps_same}
use Rattle.command_input.specs.InputLaws.{some_all}
use Rattle.report_telling.specs.Told.{form_of}
use Rattle.report_telling.specs.TellsLaws.{fault_of_files, file_failed}
use Rattle.report_picture.proofs.DrawsLaws.{drawn_of_files}
use Rattle.report_picture.proofs.draw_files.Goals as goal

pub write-requires-clause-goes_on : goal.write-requires-clause-goes_on
write-requires-clause-goes_on g c = ap (λ (feed : Feed). feed.stop) c.in_ok-drawing.ensures.feed

pub returns-in_err-config-clause-fault : goal.returns-in_err-config-clause-fault
returns-in_err-config-clause-fault g c =
    let p = err_from_is_err_and c.from_residual.result c.from_residual.ensures.1 in
    rw (p.1, p.2) (file_failed c.args.site.choices (form_of g.T.Teller.told g.T.Teller.after g.T.Teller.ended) c.args.teller g.O.Input.can_fail g.R.Input.can_fail c.args.site.zone.now
    (g.O.Read.remaining c.args.objects) (g.R.Read.remaining c.args.feed) c.in_err-config.field-0.0 (g.W.Write.contents c.args.writer.now) c.in_err-config.ensures.fault)

pub returns-in_err-lines-clause-fault : goal.returns-in_err-lines-clause-fault
returns-in_err-lines-clause-fault g c =
    let p = err_from_is_err_and c.from_residual-in_err-lines.result c.from_residual-in_err-lines.ensures.1 in
    rw (p.1, p.2) (some_all (g.O.Read.remaining c.args.objects) _ (λ text. some_all (g.R.Read.remaining c.args.feed) _ (λ bytes. inl (keeps_same (g.W.Write.contents c.args.writer.now)))))

pub returns-in_err-drawing-clause-drawn : goal.returns-in_err-drawing-clause-drawn
returns-in_err-drawing-clause-drawn g c =
    let p = err_from_is_err_and c.from_residual-in_err-drawing.result c.from_residual-in_err-drawing.ensures.1 in
    rw p.1 (some_all (g.O.Read.remaining c.args.objects) _ (λ text. some_all (g.R.Read.remaining c.args.feed) _ (λ bytes. tt)))

pub returns-in_err-drawing-clause-fault : goal.returns-in_err-drawing-clause-fault
returns-in_err-drawing-clause-fault g c =
    let p = err_from_is_err_and c.from_residual-in_err-drawing.result c.from_residual-in_err-drawing.ensures.1 in
    rw (p.1, p.2) (some_all (g.O.Read.remaining c.args.objects) _ (λ text. some_all (g.R.Read.remaining c.args.feed) _ (λ bytes. inl (keeps_same (g.W.Write.contents c.args.writer.now)))))

pub returns-clause-drawn : goal.returns-clause-drawn
returns-clause-drawn g c =
    drawn_of_files c.args.site.choices (form_of g.T.Teller.told g.T.Teller.after g.T.Teller.ended) c.args.teller _ g.R.Input.can_fail _ _ _ _ c.in_ok-lines.lines _ c.write.result _ _ _ _
    c.in_ok-drawing.ensures.feed c.in_ok-drawing.ensures.config c.in_ok-drawing.ensures.zone c.in_ok-drawing.ensures.teller
    (g.O.Read.remaining c.args.objects) _ c.in_ok-lines.ensures c.in_ok-config.ensures.config c.write.ensures.ok

pub returns-clause-fault : goal.returns-clause-fault
returns-clause-fault g c =
    fault_of_files c.args.site.choices (form_of g.T.Teller.told g.T.Teller.after g.T.Teller.ended) c.args.teller _ g.R.Input.can_fail _ _ _ _ c.in_ok-lines.lines _ c.write.result _ _
    c.in_ok-drawing.ensures.feed c.in_ok-drawing.ensures.config c.in_ok-drawing.ensures.zone c.in_ok-drawing.ensures.teller
    (g.O.Read.remaining c.args.objects) _ c.in_ok-lines.ensures c.in_ok-config.ensures.config g.W.Sink.can_fail g.O.Input.can_fail c.write.ensures.front c.write.ensures.fault
