use Rattle.std.proofs.Common.{is_some, reverse, ap, ap₂, ◌∙◌}
use Rattle.due_model.specs.Acknowledgements.{ack_after}
use Rattle.slow_rules.proofs.SlowLemmas.{acked_now}
use Rattle.slow_rules.proofs.readings.is_acknowledged_at.Goals as goal

pub returns : goal.returns
returns c =
    let o = c.args.object.0 in
    let kind = c.args.event.now.kind in
    c.is_some.ensures ∙ ap is_some (c.ack_after.ensures ∙ ap₂ (ack_after o kind) c.hard.ensures c.acknowledgement-before.ensures)
    ∙ acked_now o c.args.event.now (reverse c.args.past.now)
