use Rattle.caller_feeds.specs.Feeds.{IsOpen}
use Rattle.acceptance_callers.proofs.alone.fill.Given as goal

abbrev pub invariant-loop-number : goal.invariant-loop-number
invariant-loop-number g l = IsOpen l.handle
