-- The definitions compute.
use Rattle.std.proofs.Common.{refl}
use Rattle.due_model.specs.declared.notice.Kind.TheVariants as kind
use Rattle.due_laws.specs.Orders.{ContactFiltersStandInOrder}
use Rattle.due_laws.proofs.filters.stand_in_order.Goals as goal

pub returns-clause-object : goal.returns-clause-object
returns-clause-object x = record {
  problem = refl;
  problem_after_one = refl;
  recovery = refl;
  recovery_after_one = refl;
  flapping_start = refl;
  flapping_stop = refl;
  downtime_start = refl;
  downtime_end = refl;
  downtime_cancelled = refl;
  acknowledgement = refl;
}

contact_order : ContactFiltersStandInOrder
contact_order kind.Problem = refl
contact_order kind.Recovery = refl
contact_order kind.FlappingStart = refl
contact_order kind.FlappingStop = refl
contact_order kind.DowntimeStart = refl
contact_order kind.DowntimeEnd = refl
contact_order kind.DowntimeCancelled = refl
contact_order kind.Acknowledgement = refl

pub returns-clause-contact : goal.returns-clause-contact
returns-clause-contact x = contact_order
