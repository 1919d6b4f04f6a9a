use Rattle.std.proofs.Common.{ap, ◌∙◌}
use Rattle.clap.specs.Words.{rule_of}
use Rattle.command_line.proofs.RuleLemmas.{is_global, text-rule}
use Rattle.command_line.proofs.options.text_option.Goals as goal

pub returns : goal.returns
returns c = record {
  rule = ap rule_of c.help.ensures
      ∙ text-rule c.args.name.now (rule_of c.new.result) (rule_of c.long.result) (rule_of c.value_name.result) c.new.ensures.rule (ap rule_of c.long.ensures) (ap rule_of c.value_name.ensures);
  local = ap is_global c.help.ensures ∙ ap is_global c.value_name.ensures ∙ ap is_global c.long.ensures ∙ c.new.ensures.optional.1;
}
