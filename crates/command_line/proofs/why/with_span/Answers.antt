use Rattle.std.proofs.Common.{ap, ap₂, ◌≡◌, ◌∙◌, codes}
use Rattle.std.proofs.lemmas.Result.{IfOk-weaker}
use Rattle.clap.specs.Words.{app_of, with_rule}
use Rattle.command_line.specs.Options.{flag_option, text_option}
use Rattle.command_line.proofs.why.with_span.Goals as goal

pub returns : goal.returns
returns c =
    let one : app_of c.in_ok-arg.field-0 ≡ with_rule (app_of c.args.command) (text_option (codes "contact")) =
    c.in_ok-arg.ensures.shape c.text_option-contact.ensures.local ∙ ap (with_rule (app_of c.args.command)) c.text_option-contact.ensures.rule in
    let two : app_of c.in_ok-arg-2.field-0 ≡ with_rule (with_rule (app_of c.args.command) (text_option (codes "contact"))) (text_option (codes "from")) =
    c.in_ok-arg-2.ensures.shape c.text_option-from.ensures.local ∙ ap₂ with_rule one c.text_option-from.ensures.rule in
    let three : app_of c.in_ok-arg-3.field-0 ≡ with_rule (with_rule (with_rule (app_of c.args.command) (text_option (codes "contact"))) (text_option (codes "from"))) (text_option (codes "to")) =
    c.in_ok-arg-3.ensures.shape c.text_option-to.ensures.local ∙ ap₂ with_rule two c.text_option-to.ensures.rule in
    record { words = IfOk-weaker c.arg-4.result _ _ (λ r h. h.shape c.flag_option-json.ensures.local ∙ ap₂ with_rule three c.flag_option-json.ensures.rule) c.arg-4.ensures }
