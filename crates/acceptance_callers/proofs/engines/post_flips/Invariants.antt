use Rattle.caller_feeds.specs.Feeds.{IsOpen}
use Rattle.acceptance_callers.proofs.engines.post_flips.Given as goal

abbrev pub invariant-loop-number : goal.invariant-loop-number
invariant-loop-number g l = IsOpen l.handle
