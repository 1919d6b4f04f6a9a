use Rattle.std.proofs.Common.{ap, ap₂, ◌≡◌, ◌∙◌, codes, true}
use Rattle.std.proofs.lemmas.Result.{IfOk-weaker}
use Rattle.clap.specs.Simple.{app_of_fields}
use Rattle.clap.specs.Words.{Rule, app_of, new_app, rule_of, with_rule}
use Rattle.command_line.specs.Words.{text_option, with_supposed, with_site}
use Rattle.command_line.proofs.RuleLemmas.{is_global}
use Rattle.command_line.proofs.who.who_command.Goals as goal

pub returns : goal.returns
returns c =
    let bare : app_of c.long_about.result ≡ new_app (codes "who") = ap app_of_fields c.long_about.ensures ∙ ap app_of_fields c.about.ensures ∙ c.new.ensures.app in
    let objects : rule_of c.required-objects.result ≡ record (text_option (codes "objects")) { required = true } =
    ap rule_of c.required-objects.ensures ∙ ap (λ (r : Rule). record r { required = true }) c.text_option.ensures.rule in
    let local = ap is_global c.required-objects.ensures ∙ c.text_option.ensures.local in
    let added : app_of c.in_ok-command.command ≡ with_rule (new_app (codes "who")) (record (text_option (codes "objects")) { required = true }) =
    c.in_ok-command.ensures.shape local ∙ ap₂ with_rule bare objects in
    let supposed = c.in_ok-with_supposed.ensures.words ∙ ap with_supposed added in
    record { words = IfOk-weaker c.with_site.result _ _ (λ r h. h ∙ ap with_site supposed) c.with_site.ensures.words }
