use Rattle.std.proofs.lemmas.Result.{IfOk-weaker}
use Rattle.why_told.proofs.WhyLaws.{is_why, some_told, why_front}
use Rattle.why_told.proofs.why.Goals as goal

pub returns-clause-report : goal.returns-clause-report
returns-clause-report g c =
    let n = c.new-reasons.ensures in
    some_told (g.R.Read.remaining c.args.feed) _ _
    (λ bytes h. IfOk-weaker c.tell_feed.result _ _
    (λ ending told. is_why c.new-reasons.result c.args.asked n.asked n.before n.current g.R.Input.can_fail c.args.config.now bytes c.args.zone.now ending _ _ told) h)
    c.tell_feed.ensures.report

pub returns-clause-front : goal.returns-clause-front
returns-clause-front g c =
    let n = c.new-reasons.ensures in
    some_told (g.R.Read.remaining c.args.feed) _ _
    (λ bytes told. why_front c.new-reasons.result c.args.asked n.asked n.before n.current g.R.Input.can_fail c.args.config.now bytes c.args.zone.now _ _ told)
    c.tell_feed.ensures.front
