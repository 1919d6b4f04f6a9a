use Rattle.std.proofs.Common.{ap, ap₂, ◌≡◌, ◌∙◌, codes, Some, pos}
use Rattle.clap.specs.Words.{rule_of}
use Rattle.clap.specs.declared.builder.value_parser.ValueParser.TheVariants.{Signed}
use Rattle.command_line.proofs.RuleLemmas.{is_global, narrowed, number-rule, text-rule}
use Rattle.command_line.proofs.options.standbys_option.Goals as goal

pub returns : goal.returns
returns c =
    let given = c.value_parser-2.ensures.given in
    let wide : c.range.result ≡ narrowed 255 c.new-2.result.start c.new-2.result.end = rw c.value_parser.ensures at c.range.ensures in
    let range : c.range.result ≡ Signed (pos 0) (pos 7) = wide ∙ ap₂ (narrowed 255) c.new-2.ensures.start c.new-2.ensures.end in
    let parser : c.value_parser-2.result.value_parser ≡ Some (Signed (pos 0) (pos 7)) = given.1 ∙ ap Some (given.2 ∙ range) in
    let named = text-rule (codes "standbys") (rule_of c.new.result) (rule_of c.long.result) (rule_of c.value_name.result) c.new.ensures.rule (ap rule_of c.long.ensures) (ap rule_of c.value_name.ensures) in
    record {
      rule = ap rule_of c.help.ensures
          ∙ number-rule (codes "standbys") (codes "0") 0 7 (rule_of c.value_name.result) (rule_of c.value_parser-2.result) (rule_of c.default_value.result) c.value_parser-2.result.value_parser named
          (ap rule_of c.value_parser-2.ensures.others) parser (ap rule_of c.default_value.ensures);
      local = ap is_global c.help.ensures ∙ ap is_global c.default_value.ensures ∙ ap is_global c.value_parser-2.ensures.others
          ∙ ap is_global c.value_name.ensures ∙ ap is_global c.long.ensures ∙ c.new.ensures.optional.1;
    }
