use Rattle.std.proofs.Common.{◌∙◌}
use Rattle.acceptance_inputs.proofs.rows.of_parts.Goals as goal

pub returns : goal.returns
returns c = λ i. record { choices = c.own.ensures i; objects = (c.in_ok-new.ensures ∙ c.truncate.ensures.items) i; contacts = c.new-2.ensures i; lanes = c.new-3.ensures i; periods = c.new-4.ensures i; escalations = c.in_ok-new-2.ensures i; dependencies = c.in_ok-new-3.ensures i }
