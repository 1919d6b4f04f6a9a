use Rattle.std.proofs.Common.{ap, ap₂, ◌≡◌, ◌∙◌, codes}
use Rattle.std.proofs.lemmas.Result.{IfOk-weaker}
use Rattle.clap.specs.Simple.{app_of_fields}
use Rattle.clap.specs.Words.{app_of, new_app, with_rule}
use Rattle.command_line.specs.Check.{allow_option, objects_option}
use Rattle.command_line.specs.Options.{flag_option, with_site}
use Rattle.command_line.proofs.check.check_command.Goals as goal

pub returns : goal.returns
returns c =
    let bare : app_of c.long_about.result ≡ new_app (codes "check") = ap app_of_fields c.long_about.ensures ∙ ap app_of_fields c.about.ensures ∙ c.new.ensures.app in
    let one : app_of c.in_ok-arg.field-0 ≡ with_rule (new_app (codes "check")) objects_option =
    c.in_ok-arg.ensures.shape c.objects_option.ensures.local ∙ ap₂ with_rule bare c.objects_option.ensures.rule in
    let two : app_of c.in_ok-arg-2.field-0 ≡ with_rule (with_rule (new_app (codes "check")) objects_option) allow_option =
    c.in_ok-arg-2.ensures.shape c.allow_option.ensures.local ∙ ap₂ with_rule one c.allow_option.ensures.rule in
    let three : app_of c.in_ok-arg-3.field-0 ≡ with_rule (with_rule (with_rule (new_app (codes "check")) objects_option) allow_option) (flag_option (codes "strict")) =
    c.in_ok-arg-3.ensures.shape c.flag_option-strict.ensures.local ∙ ap₂ with_rule two c.flag_option-strict.ensures.rule in
    let four : app_of c.in_ok-command.command ≡ with_rule (with_rule (with_rule (with_rule (new_app (codes "check")) objects_option) allow_option) (flag_option (codes "strict"))) (flag_option (codes "json")) =
    c.in_ok-command.ensures.shape c.flag_option-json.ensures.local ∙ ap₂ with_rule three c.flag_option-json.ensures.rule in
    record { words = IfOk-weaker c.with_site.result _ _ (λ r h. h ∙ ap with_site four) c.with_site.ensures.words }
