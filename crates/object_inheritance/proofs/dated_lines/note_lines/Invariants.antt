use Rattle.std.proofs.Common.{◌≡◌, ℕ, ◌≤◌, List, drop, length}
use Rattle.std.specs.Option.{option_or}
use Rattle.object_inheritance.specs.claims.DatedLines.{dated_line}
use Rattle.object_inheritance.specs.LineSearch.{IsFound, noted}
use Rattle.object_values.specs.claims.Values.{value_in}
use Rattle.object_inheritance.proofs.dated_lines.note_lines.Given as goal

-- The lines of the directives from there on.
abbrev pub invariant-loop-left : goal.invariant-loop-left
invariant-loop-left l = record {
  low : l.left ≤ length l.directives;
  found : IsFound l.found;
  lines : (name : List ℕ) → noted l.found.lines.items name ≡ option_or (noted l.initial.found.lines.items name) (dated_line name (value_in (drop l.left l.directives) name));
}

abbrev pub decreases-loop-left : goal.decreases-loop-left
decreases-loop-left l = l.left
