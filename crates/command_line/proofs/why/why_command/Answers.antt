use Rattle.std.proofs.Common.{ap, ap₂, ◌≡◌, ◌∙◌, codes, true}
use Rattle.std.proofs.lemmas.Result.{IfOk-weaker}
use Rattle.clap.specs.Simple.{app_of_fields}
use Rattle.clap.specs.Words.{Rule, app_of, new_app, rule_of, with_rule}
use Rattle.command_line.specs.Options.{text_option, with_site}
use Rattle.command_line.specs.Why.{asked_object, with_span}
use Rattle.command_line.proofs.RuleLemmas.{is_global}
use Rattle.command_line.proofs.why.why_command.Goals as goal

pub returns : goal.returns
returns c =
    let bare : app_of c.long_about.result ≡ new_app (codes "why") = ap app_of_fields c.long_about.ensures ∙ ap app_of_fields c.about.ensures ∙ c.new.ensures.app in
    let objects : rule_of c.required.result ≡ record (text_option (codes "objects")) { required = true } =
    ap rule_of c.required.ensures ∙ ap (λ (r : Rule). record r { required = true }) c.text_option-objects.ensures.rule in
    let local = ap is_global c.required.ensures ∙ c.text_option-objects.ensures.local in
    let added : app_of c.in_ok-arg.field-0 ≡ with_rule (new_app (codes "why")) (record (text_option (codes "objects")) { required = true }) =
    c.in_ok-arg.ensures.shape local ∙ ap₂ with_rule bare objects in
    let named : app_of c.in_ok-command.command ≡ with_rule (with_rule (new_app (codes "why")) (record (text_option (codes "objects")) { required = true })) asked_object =
    c.in_ok-command.ensures.shape c.asked_object.ensures.local ∙ ap₂ with_rule added c.asked_object.ensures.rule in
    let spanned = c.in_ok-with_span.ensures.words ∙ ap with_span named in
    record { words = IfOk-weaker c.with_site.result _ _ (λ r h. h ∙ ap with_site spanned) c.with_site.ensures.words }
