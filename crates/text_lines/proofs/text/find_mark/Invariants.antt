use Rattle.std.proofs.Common.{◌-◌, ◌≤◌, length}
use Rattle.std.specs.Option.{option_copied}
use Rattle.text_lines.specs.Text.{IsSearched}
use Rattle.text_lines.proofs.text.find_mark.Given as goal

abbrev pub invariant-loop-search : goal.invariant-loop-search
invariant-loop-search l = record {
  searched : IsSearched (option_copied l.mark) l.bytes l.search;
  later : l.initial.search.at ≤ l.search.at;
}

abbrev pub decreases-loop-search : goal.decreases-loop-search
decreases-loop-search l = length l.bytes - l.search.at
