use Rattle.std.proofs.Common.{◌∙◌, rules}
use Rattle.acceptance_inputs.proofs.configs.object.Goals as goal

pub returns-clause-name : goal.returns-clause-name
returns-clause-name c = c.in_ok-new.ensures ∙ search rules
