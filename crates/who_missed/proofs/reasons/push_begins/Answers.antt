use Rattle.std.proofs.Common.{codes, decimal}
use Rattle.who_missed.specs.Missed.{begins_text}
use Rattle.who_missed.proofs.TextLaws.{five_parts}
use Rattle.who_missed.proofs.reasons.push_begins.Goals as goal

pub returns : goal.returns
unfolding begins_text
returns c =
    five_parts _ _ _ _ _ _ (codes "escalation ") (decimal c.args.number) (codes " begins with notice ") (decimal c.args.first) c.args.rest.now
    c.in_ok-extend_from_slice.ensures.items c.in_ok-push_decimal.ensures c.in_ok-extend_from_slice-2.ensures.items c.in_ok-push_decimal-2.ensures c.in_ok-extend_from_slice-3.ensures.items
