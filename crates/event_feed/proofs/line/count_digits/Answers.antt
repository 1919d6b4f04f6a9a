use Rattle.std.proofs.Common.{arith}
use Rattle.event_feed.proofs.Lanes.{digits-all, digits-some}
use Rattle.event_feed.proofs.line.count_digits.Goals as goal

pub returns-then-marks-eq0 : goal.returns-then-marks-eq0
returns-then-marks-eq0 c = digits-all c.args.bytes.now c.told-bytes c.if-marks-eq0.true

pub returns-else-marks-eq0 : goal.returns-else-marks-eq0
returns-else-marks-eq0 c = digits-some c.args.bytes.now c.told-bytes (omega (arith, c.if-marks-eq0.false))
