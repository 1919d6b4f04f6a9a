use Rattle.std.proofs.Common.{◌≡◌, ◌++◌}
use Rattle.night_picture.specs.Frame.{ticks_text}
use Rattle.night_picture.proofs.frame.push_ticks.Given as goal

abbrev pub invariant-loop-k : goal.invariant-loop-k
invariant-loop-k l = l.text.items ≡ l.fn.text.items ++ ticks_text l.clock l.span l.rows l.k
