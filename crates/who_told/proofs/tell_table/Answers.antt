use Rattle.std.proofs.Common.{inl, refl, ◌∙◌}
use Rattle.std.proofs.lemmas.Result.{IfOk-weaker}
use Rattle.event_feed.specs.claims.Feed.{answers}
use Rattle.text_lines.specs.claims.Lines.{pieces}
use Rattle.written.specs.WrittenLaws.{front_none}
use Rattle.who_told.specs.Who.{supposed_feed}
use Rattle.who_told.proofs.WhoLaws.{tells_table, tells_table_front}
use Rattle.who_told.proofs.tell_table.Goals as goal

pub returns-in_err-feed-clause-front : goal.returns-in_err-feed-clause-front
returns-in_err-feed-clause-front g c = (answers c.args.config.now.objects 0 0 (pieces (supposed_feed c.args.supposed.now)), inl refl, front_none _ _)

pub returns-in_err-rows-clause-front : goal.returns-in_err-rows-clause-front
returns-in_err-rows-clause-front g c = (answers c.args.config.now.objects 0 0 (pieces (supposed_feed c.args.supposed.now)), inl refl, front_none _ _)

pub returns-clause-ok : goal.returns-clause-ok
returns-clause-ok g c =
    IfOk-weaker c.tell_feed.result _ _
    (λ ending told. tells_table c.args.supposed.now _ _ (c.as_slice-feed.ensures.value ∙ c.in_ok-feed.ensures) c.args.form c.args.config.now c.args.zone.now c.in_ok-rows.ensures.form c.in_ok-rows.ensures.look c.in_ok-rows.ensures.none _ _ ending told)
    c.tell_feed.ensures.report

pub returns-clause-front : goal.returns-clause-front
returns-clause-front g c =
    tells_table_front c.args.supposed.now _ _ (c.as_slice-feed.ensures.value ∙ c.in_ok-feed.ensures) c.args.form c.args.config.now c.args.zone.now c.in_ok-rows.ensures.form c.in_ok-rows.ensures.look c.in_ok-rows.ensures.none _ _ c.tell_feed.ensures.front
