use Rattle.std.proofs.Common.{ap, ap₂, ◌≡◌, ◌∙◌, codes}
use Rattle.std.proofs.lemmas.Result.{IfOk-weaker}
use Rattle.clap.specs.Words.{app_of, with_rule}
use Rattle.command_line.specs.Words.{number_option}
use Rattle.command_line.proofs.run.with_try_options.Goals as goal

pub returns : goal.returns
returns c =
    let one : app_of c.in_ok-arg.field-0 ≡ with_rule (app_of c.args.command) (number_option (codes "tries") (codes "3") 1 100) =
    c.in_ok-arg.ensures.shape c.run_tries_option.ensures.local ∙ ap (with_rule (app_of c.args.command)) c.run_tries_option.ensures.rule in
    let two : app_of c.in_ok-arg-2.field-0 ≡ with_rule (with_rule (app_of c.args.command) (number_option (codes "tries") (codes "3") 1 100)) (number_option (codes "timeout") (codes "30") 1 3600) =
    c.in_ok-arg-2.ensures.shape c.timeout_option.ensures.local ∙ ap₂ with_rule one c.timeout_option.ensures.rule in
    record { words = IfOk-weaker c.arg-3.result _ _ (λ r h. h.shape c.pause_option.ensures.local ∙ ap₂ with_rule two c.pause_option.ensures.rule) c.arg-3.ensures }
