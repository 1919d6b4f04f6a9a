use Rattle.std.proofs.Common.{ap, ap₂, ◌≡◌, ◌∙◌, codes}
use Rattle.std.proofs.lemmas.Result.{IfOk-weaker}
use Rattle.clap.specs.Words.{app_of, with_rule}
use Rattle.command_line.specs.Options.{text_option}
use Rattle.command_line.proofs.state.with_state_options.Goals as goal

pub returns : goal.returns
returns c =
    let one : app_of c.in_ok-arg.field-0 ≡ with_rule (app_of c.args.command) (text_option (codes "state")) =
    c.in_ok-arg.ensures.shape c.text_option-folder.ensures.local ∙ ap (with_rule (app_of c.args.command)) c.text_option-folder.ensures.rule in
    let two : app_of c.in_ok-arg-2.field-0 ≡ with_rule (with_rule (app_of c.args.command) (text_option (codes "state"))) (text_option (codes "in-doubt")) =
    c.in_ok-arg-2.ensures.shape c.text_option-doubt.ensures.local ∙ ap₂ with_rule one c.text_option-doubt.ensures.rule in
    record { words = IfOk-weaker c.arg-3.result _ _ (λ r h. h.shape c.flag_option.ensures.local ∙ ap₂ with_rule two c.flag_option.ensures.rule) c.arg-3.ensures }
