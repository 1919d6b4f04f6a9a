use Rattle.std.proofs.Common.{ap, ap₂, ◌≡◌, ◌∙◌, codes}
use Rattle.std.proofs.lemmas.Result.{IfOk-weaker}
use Rattle.clap.specs.Words.{app_of, with_rule}
use Rattle.command_line.specs.Words.{text_option}
use Rattle.command_line.proofs.replay.with_picks.Goals as goal

pub returns : goal.returns
returns c =
    let one : app_of c.in_ok-arg.field-0 ≡ with_rule (app_of c.args.command) (text_option (codes "only")) =
    c.in_ok-arg.ensures.shape c.text_option-only.ensures.local ∙ ap (with_rule (app_of c.args.command)) c.text_option-only.ensures.rule in
    let two : app_of c.in_ok-arg-2.field-0 ≡ with_rule (with_rule (app_of c.args.command) (text_option (codes "only"))) (text_option (codes "object")) =
    c.in_ok-arg-2.ensures.shape c.text_option-object.ensures.local ∙ ap₂ with_rule one c.text_option-object.ensures.rule in
    record { words = IfOk-weaker c.arg-3.result _ _ (λ r h. h.shape c.text_option-contact.ensures.local ∙ ap₂ with_rule two c.text_option-contact.ensures.rule) c.arg-3.ensures }
