use Rattle.std.proofs.Common.{◌≡◌, get_or, arith}
use Rattle.event_feed.proofs.Parts.{ReadsTen-more}
use Rattle.event_feed.proofs.line.read_ten_digits.Goals as goal

pub loop-digit-preserved : goal.loop-digit-preserved
loop-digit-preserved c =
    let digits = c.args.digits.now in
    let at = c.loop-digit.digit-index in
    let same : c.from.result ≡ get_or digits at 0 = c.from.ensures in
    rw same (ReadsTen-more digits at c.loop-digit.number c.loop-digit.invariant (omega arith) (c.requires at 0 (omega arith)))
