use Rattle.std.proofs.Common.{ap, ◌∙◌, ◌∷◌, [], codes}
use Rattle.clap.specs.Words.{Rule, rule_of}
use Rattle.command_line.proofs.RuleLemmas.{is_global}
use Rattle.command_line.proofs.who.for_option.Goals as goal

pub returns : goal.returns
returns c = record {
  rule = ap rule_of c.default_value.ensures ∙ ap (λ (r : Rule). record r { defaults = codes "4h" ∷ [] }) c.text_option.ensures.rule;
  local = ap is_global c.default_value.ensures ∙ c.text_option.ensures.local;
}
