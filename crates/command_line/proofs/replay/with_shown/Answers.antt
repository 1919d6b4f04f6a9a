use Rattle.std.proofs.Common.{ap, ap₂, ◌≡◌, ◌∙◌, codes}
use Rattle.std.proofs.lemmas.Result.{IfOk-weaker}
use Rattle.clap.specs.Words.{app_of, with_rule}
use Rattle.command_line.specs.Words.{flag_option, with_picks}
use Rattle.command_line.proofs.replay.with_shown.Goals as goal

pub returns : goal.returns
returns c =
    let one : app_of c.in_ok-arg.field-0 ≡ with_rule (with_picks (app_of c.args.command)) (flag_option (codes "json")) =
    c.in_ok-arg.ensures.shape c.flag_option-json.ensures.local ∙ ap₂ with_rule c.in_ok-with_picks.ensures.words c.flag_option-json.ensures.rule in
    record { words = IfOk-weaker c.arg-2.result _ _ (λ r h. h.shape c.flag_option-pretty.ensures.local ∙ ap₂ with_rule one c.flag_option-pretty.ensures.rule) c.arg-2.ensures }
