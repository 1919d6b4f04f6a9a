use Rattle.std.proofs.Common.{ap}
use Rattle.std.proofs.lemmas.Result.{err_from_is_err_and}
use Rattle.event_feed.specs.claims.Feed.{Feed}
use Rattle.report_telling.specs.Told.{form_of}
use Rattle.report_telling.specs.TellsLaws.{front_of_feed, front_of_nothing, telling_of_feed}
use Rattle.report_telling.proofs.tell_feed.Goals as goal

pub write-requires-clause-goes_on : goal.write-requires-clause-goes_on
write-requires-clause-goes_on g c = ap (λ (feed : Feed). feed.stop) c.in_ok-telling.ensures.feed

pub returns-in_err-reader-clause-front : goal.returns-in_err-reader-clause-front
returns-in_err-reader-clause-front g c =
    front_of_nothing (form_of g.T.Teller.told g.T.Teller.after g.T.Teller.ended) c.args.teller g.R.Input.can_fail c.args.config.now c.args.zone.now (g.R.Read.remaining c.args.feed) (g.W.Write.contents c.args.writer.now)

pub returns-in_err-telling-clause-front : goal.returns-in_err-telling-clause-front
returns-in_err-telling-clause-front g c =
    front_of_nothing (form_of g.T.Teller.told g.T.Teller.after g.T.Teller.ended) c.args.teller g.R.Input.can_fail c.args.config.now c.args.zone.now (g.R.Read.remaining c.args.feed) (g.W.Write.contents c.args.writer.now)

pub returns-clause-report : goal.returns-clause-report
returns-clause-report g c =
    telling_of_feed c.args.config.now.choices (form_of g.T.Teller.told g.T.Teller.after g.T.Teller.ended) c.args.teller _ g.R.Input.can_fail _ _ _ _ c.in_ok-reader.reader _ c.write.result _ _
    c.in_ok-telling.ensures.feed c.in_ok-telling.ensures.config c.in_ok-telling.ensures.zone c.in_ok-telling.ensures.teller
    _ c.in_ok-reader.ensures c.write.ensures.ok

pub returns-clause-front : goal.returns-clause-front
returns-clause-front g c =
    front_of_feed c.args.config.now.choices (form_of g.T.Teller.told g.T.Teller.after g.T.Teller.ended) c.args.teller _ g.R.Input.can_fail _ _ _ _ c.in_ok-reader.reader _ c.write.result _ _
    c.in_ok-telling.ensures.feed c.in_ok-telling.ensures.config c.in_ok-telling.ensures.zone c.in_ok-telling.ensures.teller
    _ c.in_ok-reader.ensures c.write.ensures.front
