use Rattle.std.proofs.Common.{◌≡◌, ◌++◌, drop, flat_map}
use Rattle.metrics_text.specs.Text.{command_sample}
use Rattle.metrics_text.proofs.push_samples.Given as goal

abbrev pub invariant-loop-command : goal.invariant-loop-command
invariant-loop-command l =
    l.text.items ++ flat_map (command_sample l.name l.figure) (drop l.command-index l.commands)
    ≡ l.fn.text.items ++ flat_map (command_sample l.name l.figure) l.commands
