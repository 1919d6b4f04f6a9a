use Rattle.std.proofs.Common.{arith}
use Rattle.object_values.proofs.NumberLemmas.{number_of-more}
use Rattle.object_values.proofs.values.number_of.Goals as goal

pub loop-digit-preserved : goal.loop-digit-preserved
loop-digit-preserved c = rw (number_of-more c.args.digits.now c.loop-digit.digit-index c.loop-digit-test.true) (omega arith)
