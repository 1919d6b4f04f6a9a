use Rattle.std.proofs.Common.{ap, ap₂, ◌≡◌, ◌∙◌, codes}
use Rattle.std.proofs.lemmas.Result.{IfOk-weaker}
use Rattle.clap.specs.Words.{app_of, with_rule}
use Rattle.command_line.specs.Words.{flag_option, text_option}
use Rattle.command_line.proofs.run.with_log_options.Goals as goal

pub returns : goal.returns
returns c =
    let log : app_of c.in_ok-arg.field-0 ≡ with_rule (app_of c.args.command) (text_option (codes "log")) =
    c.in_ok-arg.ensures.shape c.text_option-log.ensures.local ∙ ap (with_rule (app_of c.args.command)) c.text_option-log.ensures.rule in
    let fold : app_of c.in_ok-arg-2.field-0 ≡ with_rule (with_rule (app_of c.args.command) (text_option (codes "log"))) (flag_option (codes "fold")) =
    c.in_ok-arg-2.ensures.shape c.flag_option-fold.ensures.local ∙ ap₂ with_rule log c.flag_option-fold.ensures.rule in
    let metrics : app_of c.in_ok-arg-3.field-0 ≡ with_rule (with_rule (with_rule (app_of c.args.command) (text_option (codes "log"))) (flag_option (codes "fold"))) (text_option (codes "metrics")) =
    c.in_ok-arg-3.ensures.shape c.text_option-metrics.ensures.local ∙ ap₂ with_rule fold c.text_option-metrics.ensures.rule in
    record { words = IfOk-weaker c.arg-4.result _ _ (λ r h. h.shape c.flag_option-json.ensures.local ∙ ap₂ with_rule metrics c.flag_option-json.ensures.rule) c.arg-4.ensures }
