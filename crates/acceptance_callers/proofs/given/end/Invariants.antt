use Rattle.caller_feeds.specs.Feeds.{IsOpen}
use Rattle.acceptance_callers.proofs.given.end.Given as goal

abbrev pub invariant-loop-turn : goal.invariant-loop-turn
invariant-loop-turn g l = IsOpen l.handle
