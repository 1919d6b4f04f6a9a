use Rattle.caller_feeds.specs.Feeds.{AreUnread, AreUnsent}
use Rattle.acceptance_callers.proofs.engines.fn.run_beside.scope.Given as goal

abbrev pub invariant-loop-object : goal.invariant-loop-object
invariant-loop-object g l = AreUnsent l.handles.items × AreUnread l.ends.items
