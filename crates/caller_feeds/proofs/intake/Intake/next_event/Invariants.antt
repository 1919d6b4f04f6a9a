use Rattle.std.proofs.Common.{◌≡◌}
use Rattle.caller_feeds.specs.Taken.{GoesOn}
use Rattle.caller_feeds.proofs.intake.Intake.next_event.Given as goal

abbrev pub invariant-loop-turn : goal.invariant-loop-turn
invariant-loop-turn g l = record {
  goes : GoesOn l.config l.fn.self l.self;
  events : l.self.events ≡ l.fn.self.events;
}
