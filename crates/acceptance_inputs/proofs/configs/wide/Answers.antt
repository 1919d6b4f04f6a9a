use Rattle.std.proofs.Common.{length, ap}
use Rattle.std.proofs.lemmas.Result.{IfOk-weaker}
use Rattle.acceptance_inputs.proofs.configs.wide.Goals as goal

pub returns-clause-lanes : goal.returns-clause-lanes
returns-clause-lanes c = IfOk-weaker c.config_of.result _ _ (λ made is. ap length is) c.config_of.ensures.lanes

pub returns-clause-objects : goal.returns-clause-objects
returns-clause-objects c = IfOk-weaker c.config_of.result _ _ (λ made is. ap length is) c.config_of.ensures.objects
