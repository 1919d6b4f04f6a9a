use Rattle.std.proofs.Common.{◌≡◌, ◌++◌, take}
use Rattle.command_output.specs.LineHead.{entry_head, head_text}
use Rattle.command_output.specs.claims.OutputLine.{entries_text}
use Rattle.command_output.proofs.output_line.push_others.Given as goal

abbrev pub invariant-loop-entry : goal.invariant-loop-entry
invariant-loop-entry l = record {
  text : l.text.items ≡ l.fn.text.items ++ entries_text l.config (take l.entry-index l.others);
  head : l.head.items ≡ head_text l.config (entry_head l.last);
}
