use Rattle.std.proofs.Common.{◌≡◌, ◌++◌}
use Rattle.night_picture.specs.Frame.{contact_keys}
use Rattle.night_picture.proofs.frame.push_contact_keys.Given as goal

abbrev pub invariant-loop-k : goal.invariant-loop-k
invariant-loop-k l = l.text.items ≡ l.fn.text.items ++ contact_keys l.config l.y l.k
