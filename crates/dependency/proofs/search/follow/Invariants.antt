use Rattle.std.proofs.Common.{◌≡◌, take, false}
use Rattle.std.specs.List.{list_any}
use Rattle.graph.specs.Reach.{Gains}
use Rattle.dependency.specs.Entry.{fails_by, masters_of, state_of}
use Rattle.dependency.proofs.search.follow.Given as goal

-- The entries so far don't fail, and their masters were found.
abbrev pub invariant-loop-entry : goal.invariant-loop-entry
invariant-loop-entry l = record {
  same : l.reach.nodes ≡ l.initial.reach.nodes;
  gains : Gains l.initial.reach.found (masters_of l.config l.zone l.t (take l.entry-index l.entry-items)) l.reach.found;
  none : list_any (fails_by l.config l.zone (state_of l.states) l.t) (take l.entry-index l.entry-items) ≡ false;
}
