use Rattle.std.proofs.Common.{◌≡◌}
use Rattle.caller_feeds.specs.Taken.{GoesOn}
use Rattle.caller_feeds.proofs.intake.Intake.go_round.Given as goal

abbrev pub invariant-loop-end : goal.invariant-loop-end
invariant-loop-end l = record {
  goes : GoesOn l.config l.fn.self l.self;
  events : l.self.events ≡ l.fn.self.events;
}
