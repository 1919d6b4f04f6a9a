use Rattle.std.proofs.Common.{ap, ◌∙◌, true}
use Rattle.clap.specs.Words.{Rule, rule_of}
use Rattle.command_line.proofs.RuleLemmas.{is_global}
use Rattle.command_line.proofs.why.asked_object.Goals as goal

pub returns : goal.returns
returns c = record {
  rule = ap rule_of c.required.ensures ∙ ap (λ (r : Rule). record r { required = true }) c.text_option.ensures.rule;
  local = ap is_global c.required.ensures ∙ c.text_option.ensures.local;
}
