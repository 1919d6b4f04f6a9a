use Rattle.std.proofs.Common.{ap, ◌∙◌, true}
use Rattle.clap.specs.Words.{Rule, rule_of}
use Rattle.command_line.proofs.RuleLemmas.{is_global}
use Rattle.command_line.proofs.options.one_word.Goals as goal

pub returns : goal.returns
returns c = record {
  rule = ap rule_of c.help.ensures ∙ (ap rule_of c.required.ensures
      ∙ ap (λ (r : Rule). record r { required = true }) (ap rule_of c.value_name.ensures ∙ ap (λ (r : Rule). record r { value_names = 1 }) c.new.ensures.rule));
  local = ap is_global c.help.ensures ∙ ap is_global c.required.ensures ∙ ap is_global c.value_name.ensures ∙ c.new.ensures.optional.1;
}
