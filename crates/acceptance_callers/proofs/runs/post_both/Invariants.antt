use Rattle.caller_feeds.specs.Feeds.{AreUnsent}
use Rattle.acceptance_callers.proofs.runs.post_both.Given as goal

abbrev pub invariant-loop-object : goal.invariant-loop-object
invariant-loop-object g l = AreUnsent l.handles.items
