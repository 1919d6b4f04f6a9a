use Rattle.std.proofs.Common.{ap, ap₂, ◌≡◌, ◌∙◌, codes, true}
use Rattle.std.proofs.lemmas.Result.{IfOk-weaker}
use Rattle.clap.specs.Simple.{app_of_fields}
use Rattle.clap.specs.Words.{Rule, app_of, new_app, rule_of, with_rule}
use Rattle.command_line.specs.Words.{flag_option, text_option, with_site}
use Rattle.command_line.proofs.RuleLemmas.{is_global}
use Rattle.command_line.proofs.diff.diff_command.Goals as goal

pub returns : goal.returns
returns c =
    let bare : app_of c.long_about.result ≡ new_app (codes "diff") = ap app_of_fields c.long_about.ensures ∙ ap app_of_fields c.about.ensures ∙ c.new.ensures.app in
    let objects : rule_of c.required.result ≡ record (text_option (codes "objects")) { required = true } =
    ap rule_of c.required.ensures ∙ ap (λ (r : Rule). record r { required = true }) c.text_option-objects.ensures.rule in
    let objects_local = ap is_global c.required.ensures ∙ c.text_option-objects.ensures.local in
    let one : app_of c.in_ok-arg.field-0 ≡ with_rule (new_app (codes "diff")) (record (text_option (codes "objects")) { required = true }) =
    c.in_ok-arg.ensures.shape objects_local ∙ ap₂ with_rule bare objects in
    let changed : rule_of c.required-2.result ≡ record (text_option (codes "with")) { required = true } =
    ap rule_of c.required-2.ensures ∙ ap (λ (r : Rule). record r { required = true }) c.text_option-changed.ensures.rule in
    let changed_local = ap is_global c.required-2.ensures ∙ c.text_option-changed.ensures.local in
    let two : app_of c.in_ok-arg-2.field-0 ≡ with_rule (with_rule (new_app (codes "diff")) (record (text_option (codes "objects")) { required = true })) (record (text_option (codes "with")) { required = true }) =
    c.in_ok-arg-2.ensures.shape changed_local ∙ ap₂ with_rule one changed in
    let three : app_of c.in_ok-command.command ≡ with_rule (with_rule (with_rule (new_app (codes "diff")) (record (text_option (codes "objects")) { required = true })) (record (text_option (codes "with")) { required = true })) (flag_option (codes "json")) =
    c.in_ok-command.ensures.shape c.flag_option-json.ensures.local ∙ ap₂ with_rule two c.flag_option-json.ensures.rule in
    record { words = IfOk-weaker c.with_site.result _ _ (λ r h. h ∙ ap with_site three) c.with_site.ensures.words }
