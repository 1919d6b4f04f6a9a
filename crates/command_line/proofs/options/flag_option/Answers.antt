use Rattle.std.proofs.Common.{ap, ◌∙◌}
use Rattle.clap.specs.Words.{rule_of}
use Rattle.command_line.proofs.RuleLemmas.{flag-rule, is_global}
use Rattle.command_line.proofs.options.flag_option.Goals as goal

pub returns : goal.returns
returns c =
    let flag = flag-rule c.args.name.now (rule_of c.new.result) (rule_of c.long.result) (rule_of c.action.result) c.new.ensures.rule (ap rule_of c.long.ensures) (ap rule_of c.action.ensures) in
    record {
      rule = ap rule_of c.help.ensures ∙ flag;
      local = ap is_global c.help.ensures ∙ ap is_global c.action.ensures ∙ ap is_global c.long.ensures ∙ c.new.ensures.optional.1;
    }
