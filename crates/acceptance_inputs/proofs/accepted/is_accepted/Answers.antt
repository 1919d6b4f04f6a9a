use Rattle.std.proofs.Common.{subst}
use Rattle.acceptance_inputs.specs.Ladder.{IsLadder}
use Rattle.acceptance_inputs.proofs.LadderLemmas.{ordered_is_accepted}
use Rattle.acceptance_inputs.proofs.accepted.is_accepted.Goals as goal

pub returns : goal.returns
returns c done = ordered_is_accepted c.args.config.now record {
  few = c.are_few.ensures c.if-not-are_few.false;
  few_besides = c.are_few_besides.ensures c.if-not-are_few_besides.false;
  objects = c.do_objects_fit.ensures c.if-not-do_objects_fit.false;
  contacts = c.do_contacts_fit.ensures c.if-not-do_contacts_fit.false;
  periods = subst IsLadder c.as_slice.ensures (c.are_periods_in_order.ensures c.if-not-are_periods_in_order.false);
  escalations = c.do_escalations_fit.ensures c.if-not-do_escalations_fit.false;
  dependencies = c.do_dependencies_fit.ensures done;
}
