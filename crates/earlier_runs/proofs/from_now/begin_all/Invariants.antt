use Rattle.std.specs.Arc.{arc_value}
use Rattle.earlier_runs.specs.FromNow.{AreBegun}
use Rattle.earlier_runs.proofs.from_now.begin_all.Given as goal

-- a journal was begun for each lane so far
abbrev pub invariant-loop-number : goal.invariant-loop-number
invariant-loop-number g l = AreBegun g.F.Journals.knows g.F.Journals.begins l.journals (arc_value l.config) l.from l.number l.states.items l.begun.items
