use Rattle.std.proofs.Common.{reverse}
use Rattle.object_inheritance.specs.LineSearch.{IsFound, IsSearch}
use Rattle.object_inheritance.proofs.dated_lines.search.Given as goal

-- The search so far.
abbrev pub invariant-loop-step : goal.invariant-loop-step
invariant-loop-step l = record {
  found : IsFound l.found;
  search : IsSearch l.blocks l.root l.found.lines.items l.marks (reverse l.turns.items);
}
