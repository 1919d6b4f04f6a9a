use Rattle.std.specs.List.{AllZip}
use Rattle.object_escalations.specs.claims.Entries.{ComesFrom, origins_below}
use Rattle.object_escalations.proofs.entries.entries_of.Given as goal

-- The escalations of the blocks so far.
abbrev pub invariant-loop-place : goal.invariant-loop-place
invariant-loop-place l = AllZip (ComesFrom l.fn.templates l.objects) (origins_below l.escalated l.place) l.escalations.items
