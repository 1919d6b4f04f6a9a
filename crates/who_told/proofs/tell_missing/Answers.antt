use Rattle.std.proofs.Common.{◌*◌, ◌+◌, ap, inl, refl, ◌∙◌, List, ℕ, Option}
use Rattle.std.specs.Option.{option_copied}
use Rattle.std.proofs.lemmas.Result.{IfOk-weaker}
use Rattle.event_feed.specs.claims.Feed.{answers}
use Rattle.text_lines.specs.claims.Lines.{pieces}
use Rattle.written.specs.WrittenLaws.{front_none}
use Rattle.who_told.specs.Who.{week_feed}
use Rattle.who_told.proofs.WhoLaws.{same_missing, tells_missing, tells_missing_front}
use Rattle.who_told.proofs.tell_missing.Goals as goal

pub returns-in_err-feed-clause-front : goal.returns-in_err-feed-clause-front
returns-in_err-feed-clause-front g c = (answers c.args.config.now.objects 0 0 (pieces (week_feed c.args.supposed.now)), inl refl, front_none _ _)

pub returns-clause-ok : goal.returns-clause-ok
returns-clause-ok g c =
    IfOk-weaker c.tell_feed.result _ _
    (λ ending told. tells_missing c.args.supposed.now c.new-missed.result _ (c.as_slice-feed.ensures.value ∙ c.in_ok-feed.ensures) c.args.form c.args.config.now c.args.zone.now c.new-missed.ensures.lines
    (same_missing _ _ c.args.config.now c.args.zone.now _ _ _ _ _ _ c.new-missed.ensures.form c.new-missed.ensures.host (ap option_copied c.new-missed.ensures.service) (c.new-missed.ensures.until ∙ ap (λ (m : ℕ). c.args.supposed.now.moment + 60 * m) c.from.ensures)) _ _ ending told)
    c.tell_feed.ensures.report

pub returns-clause-front : goal.returns-clause-front
returns-clause-front g c =
    tells_missing_front c.args.supposed.now c.new-missed.result _ (c.as_slice-feed.ensures.value ∙ c.in_ok-feed.ensures) c.args.form c.args.config.now c.args.zone.now c.new-missed.ensures.lines
    (same_missing _ _ c.args.config.now c.args.zone.now _ _ _ _ _ _ c.new-missed.ensures.form c.new-missed.ensures.host (ap option_copied c.new-missed.ensures.service) (c.new-missed.ensures.until ∙ ap (λ (m : ℕ). c.args.supposed.now.moment + 60 * m) c.from.ensures)) _ _ c.tell_feed.ensures.front
