use Rattle.std.proofs.Common.{◌≡◌, ◌∙◌, false, is_some, sym}
use Rattle.caller_feeds.specs.FeedLaws.{goes_on}
use Rattle.engine.specs.declared.feeds.Feeds.{Feeds}
use Rattle.engine.proofs.FeedsLaws.{goes_next, left_on}
use Rattle.engine.proofs.feeds.FeedsSource.next.Goals as goal

pub returns-then-is_some-clause-goes : goal.returns-then-is_some-clause-goes
returns-then-is_some-clause-goes g c = record { intake = goes_on c.args.config.now c.args.self.now.intake; taken = λ taken. taken }

pub returns-in-Ok-Some-clause-goes : goal.returns-in-Ok-Some-clause-goes
returns-in-Ok-Some-clause-goes g c =
    let on : is_some c.args.self.now.over ≡ false = sym c.is_some.ensures ∙ c.if-is_some.false in
    let new : Feeds = record { intake = c.try_event.new.self; over = c.args.self.now.over } in
    goes_next c.args.config.now c.try_event.result c.args.self.now new c.try_event.ensures
    (λ within most. left_on c.args.config.now c.args.self.now.over new.intake.ends new.intake.events on)
