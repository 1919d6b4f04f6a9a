use Rattle.std.proofs.Common.{◌≡◌, List, length}
use Rattle.due_model.specs.declared.event.Event.{Event}
use Rattle.decider.specs.claims.Fits.{Fits, kept, settings}
use Rattle.decider.specs.claims.Outbox.{lists}
use Rattle.acceptance_deciders.proofs.said.decided.Given as goal

-- the decider fits what it decided
abbrev pub invariant-loop-event : goal.invariant-loop-event
invariant-loop-event l = record {
  fits : (past : List Event) × Fits (kept l.decider) past;
  settings : settings (kept l.decider) ≡ (l.config, l.zone, l.fn.share);
  lanes : length (lists l.outbox) ≡ length l.config.lanes;
}
