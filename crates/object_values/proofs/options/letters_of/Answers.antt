use Rattle.std.proofs.Common.{rules}
use Rattle.object_values.proofs.options.letters_of.Goals as goal

pub returns-then-gives : goal.returns-then-gives
returns-then-gives c = search rules
