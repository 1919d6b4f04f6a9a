use Rattle.std.proofs.Common.{◌≡◌, ◌++◌, flat_map, take}
use Rattle.command_output.specs.claims.Fields.{after_comma}
use Rattle.command_output.proofs.fields.push_others.Given as goal

abbrev pub invariant-loop-notice : goal.invariant-loop-notice
invariant-loop-notice l = l.line.items ≡ l.fn.line.items ++ flat_map (after_comma l.config) (take l.notice-index l.others)
