use Rattle.std.proofs.Common.{ap, ap₂, ◌≡◌, ◌∙◌, codes}
use Rattle.std.proofs.lemmas.Result.{IfOk-weaker}
use Rattle.clap.specs.Words.{app_of, with_rule}
use Rattle.command_line.specs.Words.{flag_option}
use Rattle.command_line.proofs.options.with_choices.Goals as goal

pub returns : goal.returns
returns c =
    let one : app_of c.in_ok-arg.field-0 ≡ with_rule (app_of c.args.command) (flag_option (codes "as-nagios")) =
    c.in_ok-arg.ensures.shape c.flag_option-as_nagios.ensures.local ∙ ap (with_rule (app_of c.args.command)) c.flag_option-as_nagios.ensures.rule in
    let two : app_of c.in_ok-arg-2.field-0 ≡ with_rule (with_rule (app_of c.args.command) (flag_option (codes "as-nagios"))) (flag_option (codes "nagios")) =
    c.in_ok-arg-2.ensures.shape c.flag_option-nagios.ensures.local ∙ ap₂ with_rule one c.flag_option-nagios.ensures.rule in
    record { words = IfOk-weaker c.arg-3.result _ _ (λ r h. h.shape c.choose_option.ensures.local ∙ ap₂ with_rule two c.choose_option.ensures.rule) c.arg-3.ensures }
