use Rattle.std.proofs.Common.{ap, ap₂, ◌≡◌, ◌∙◌, codes}
use Rattle.std.proofs.lemmas.Result.{IfOk-weaker}
use Rattle.clap.specs.Simple.{app_of_fields}
use Rattle.clap.specs.Words.{app_of, new_app, with_rule}
use Rattle.command_line.specs.Words.{number_option, with_lane_options, with_site}
use Rattle.command_line.proofs.trace.trace_command.Goals as goal

pub returns : goal.returns
returns c =
    let bare : app_of c.long_about.result ≡ new_app (codes "trace") = ap app_of_fields c.long_about.ensures ∙ ap app_of_fields c.about.ensures ∙ c.new.ensures.app in
    let one : app_of c.in_ok-arg.field-0 ≡ with_rule (new_app (codes "trace")) (number_option (codes "deciders") (codes "1") 1 8) =
    c.in_ok-arg.ensures.shape c.deciders_option.ensures.local ∙ ap₂ with_rule bare c.deciders_option.ensures.rule in
    let two : app_of c.in_ok-command.command ≡ with_rule (with_rule (new_app (codes "trace")) (number_option (codes "deciders") (codes "1") 1 8)) (number_option (codes "standbys") (codes "0") 0 7) =
    c.in_ok-command.ensures.shape c.standbys_option.ensures.local ∙ ap₂ with_rule one c.standbys_option.ensures.rule in
    let laned : app_of c.in_ok-with_lanes.with_lanes ≡ with_lane_options (with_rule (with_rule (new_app (codes "trace")) (number_option (codes "deciders") (codes "1") 1 8)) (number_option (codes "standbys") (codes "0") 0 7)) =
    c.in_ok-with_lanes.ensures.words ∙ ap with_lane_options two in
    record { words = IfOk-weaker c.with_site.result _ _ (λ r h. h ∙ ap with_site laned) c.with_site.ensures.words }
