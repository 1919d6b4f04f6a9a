use Rattle.std.proofs.Common.{◌<◌, length, get_or, ap, ap₂, sym, ◌∙◌}
use Rattle.due_model.specs.declared.event.Event.{Event}
use Rattle.due_model.specs.declared.event.EventKind.TheVariants.{Clock}
use Rattle.due_model.specs.Acknowledgements.{ack_after}
use Rattle.due_model.specs.claims.Readings.{hard, hard_after}
use Rattle.lemmas.proofs.Lists.{past_more}
use Rattle.slow_rules.proofs.SlowLemmas.{acknowledgement_more}
use Rattle.slow_rules.proofs.readings.acknowledgement.Goals as goal

pub loop-event-preserved : goal.loop-event-preserved
loop-event-preserved c =
    let o = c.args.object.0 in
    let events = c.args.events.now in
    let i = c.loop-event.event-index in
    let none : Event = record { moment = 0; kind = Clock } in
    let within : i < length events = c.loop-event-test.true in
    let so_far = c.loop-event.invariant in
    record {
      acknowledged = c.ack_after-acknowledged.ensures ∙ ap₂ (ack_after o (get_or events i none).kind) so_far.state so_far.acknowledged ∙ acknowledgement_more o events i none within;
      state = c.hard_after-state.ensures ∙ ap (hard_after o (get_or events i none).kind) so_far.state ∙ ap (hard o) (sym (past_more events i none within));
    }
