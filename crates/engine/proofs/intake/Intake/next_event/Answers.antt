use Rattle.std.proofs.Common.{arith, ◌≡◌, ap, true}
use Rattle.engine.specs.Feed.{goes_on}
use Rattle.engine.proofs.intake.Intake.next_event.Goals as goal

pub loop-self-smaller : goal.loop-self-smaller
loop-self-smaller g c =
    let on : goes_on c.in_ok-event.field-0 ≡ true = ap goes_on c.in-Refused.is in
    let less = c.in_ok-event.ensures.line on in
    let limit = c.in_ok-event.ensures.limit in
    omega (arith, less, limit)
