use Rattle.std.proofs.Common.{refl}
use Rattle.due_laws.proofs.limits.have_these_values.Goals as goal

pub returns : goal.returns
returns x = record {
  objects = refl;
  contacts = refl;
  lanes = refl;
  periods = refl;
  escalations = refl;
  dependencies = refl;
  number = refl;
  moment = refl;
  seconds = refl;
  text = refl;
  line = refl;
  events = refl;
  deciders = refl;
}
