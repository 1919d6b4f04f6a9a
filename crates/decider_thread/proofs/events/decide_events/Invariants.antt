use Rattle.std.proofs.Common.{◌≡◌, [], false, List, length}
use Rattle.due_model.specs.declared.event.Event.{Event}
use Rattle.due_model.specs.declared.zone.Zone.{Zone}
use Rattle.rtrb.specs.Ring.{SameConsumer, received}
use Rattle.decider.specs.claims.Fits.{kept}
use Rattle.decider.specs.claims.Outbox.{lists, waiting_at}
use Rattle.decider_thread.specs.Decided.{Stands, heard}
use Rattle.decider_thread.proofs.events.decide_events.Given as goal

abbrev pub invariant-loop : goal.invariant-loop
invariant-loop g l =
    SameConsumer l.fn.ring l.ring
    × ((zone : Zone)
    → Stands l.setup.config.now zone l.setup.share l.setup.queues.now [] (kept l.fn.decider) (λ lines. g.L.DeciderLog.tells l.fn.log lines l.fn.log) (waiting_at l.fn.outbox) l.fn.seats
    → (past : List Event) × (received l.ring ≡ heard past)
    × Stands l.setup.config.now zone l.setup.share l.setup.queues.now past (kept l.decider) (λ lines. g.L.DeciderLog.tells l.fn.log lines l.log) (waiting_at l.outbox) l.seats)
    × (length l.seats ≡ length l.fn.seats)
    × (length (lists l.outbox) ≡ length (lists l.fn.outbox))
    × ((kept l.fn.decider).log ≡ [] → g.L.DeciderLog.failed l.log ≡ false → (kept l.decider).log ≡ [])
