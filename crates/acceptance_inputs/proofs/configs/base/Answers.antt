use Rattle.std.proofs.Common.{◌≡◌, Result, Ok, Err, [], length}
use Rattle.std.specs.Result.{IfOk}
use Rattle.std.proofs.lemmas.List.{nil_from_length}
use Rattle.due_laws.specs.Rows.{base}
use Rattle.due_model.specs.declared.config.Config.{Config}
use Rattle.acceptance_inputs.proofs.configs.base.Goals as goal

-- a configuration is the base if each of its parts is
whole : {E : Type 0} (r : Result Config E) → IfOk r (λ c. c.choices ≡ base.choices) → IfOk r (λ c. c.objects ≡ base.objects) → IfOk r (λ c. c.contacts ≡ base.contacts) → IfOk r (λ c. c.lanes ≡ base.lanes) → IfOk r (λ c. length c.periods ≡ 0) → IfOk r (λ c. c.escalations ≡ []) → IfOk r (λ c. c.dependencies ≡ []) → IfOk r (λ c. c ≡ base)
whole (Ok c) w o k l p e d = λ i. record { choices = w i; objects = o i; contacts = k i; lanes = l i; periods = nil_from_length c.periods p i; escalations = e i; dependencies = d i }
whole (Err e) w o k l p x d = tt

pub returns : goal.returns
returns c = whole c.config_of.result c.config_of.ensures.choices c.config_of.ensures.objects c.config_of.ensures.contacts c.config_of.ensures.lanes c.config_of.ensures.periods c.config_of.ensures.escalations c.config_of.ensures.dependencies
