use Rattle.std.proofs.Common.{ap, ap₂, ◌≡◌, ◌∙◌, codes}
use Rattle.std.proofs.lemmas.Result.{IfOk-weaker}
use Rattle.clap.specs.Words.{app_of, with_rule}
use Rattle.command_line.specs.Words.{flag_option, length_option, one_word, text_option, text_options}
use Rattle.command_line.proofs.who.with_supposed.Goals as goal

pub returns : goal.returns
returns c =
    let one : app_of c.in_ok-arg.field-0 ≡ with_rule (app_of c.args.command) (text_option (codes "at")) =
    c.in_ok-arg.ensures.shape c.at_option.ensures.local ∙ ap (with_rule (app_of c.args.command)) c.at_option.ensures.rule in
    let two : app_of c.in_ok-arg-2.field-0 ≡ with_rule (with_rule (app_of c.args.command) (text_option (codes "at"))) length_option =
    c.in_ok-arg-2.ensures.shape c.for_option.ensures.local ∙ ap₂ with_rule one c.for_option.ensures.rule in
    let three : app_of c.in_ok-arg-3.field-0 ≡ with_rule (with_rule (with_rule (app_of c.args.command) (text_option (codes "at"))) length_option) (text_options (codes "down")) =
    c.in_ok-arg-3.ensures.shape c.down_option.ensures.local ∙ ap₂ with_rule two c.down_option.ensures.rule in
    let four : app_of c.in_ok-arg-4.field-0 ≡ with_rule (with_rule (with_rule (with_rule (app_of c.args.command) (text_option (codes "at"))) length_option) (text_options (codes "down"))) (flag_option (codes "json")) =
    c.in_ok-arg-4.ensures.shape c.flag_option-json.ensures.local ∙ ap₂ with_rule three c.flag_option-json.ensures.rule in
    let five : app_of c.in_ok-arg-5.field-0 ≡ with_rule (with_rule (with_rule (with_rule (with_rule (app_of c.args.command) (text_option (codes "at"))) length_option) (text_options (codes "down"))) (flag_option (codes "json"))) (one_word (codes "object")) =
    c.in_ok-arg-5.ensures.shape c.one_word-object.ensures.local ∙ ap₂ with_rule four c.one_word-object.ensures.rule in
    record { words = IfOk-weaker c.arg-6.result _ _ (λ r h. h.shape c.one_word-state.ensures.local ∙ ap₂ with_rule five c.one_word-state.ensures.rule) c.arg-6.ensures }
