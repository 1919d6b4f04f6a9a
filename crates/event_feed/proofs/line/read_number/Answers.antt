use Rattle.std.proofs.Common.{arith}
use Rattle.event_feed.proofs.Parts.{digits_number-more}
use Rattle.event_feed.proofs.line.read_number.Goals as goal

pub loop-digit-preserved : goal.loop-digit-preserved
loop-digit-preserved c = rw (digits_number-more c.args.digits.now c.loop-digit.digit-index c.loop-digit-test.true) (omega arith)
