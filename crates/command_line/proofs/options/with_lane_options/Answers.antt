use Rattle.std.proofs.Common.{ap, ap₂, ◌≡◌, ◌∙◌, codes}
use Rattle.std.proofs.lemmas.Result.{IfOk-weaker}
use Rattle.clap.specs.Words.{app_of, with_rule}
use Rattle.command_line.specs.Words.{number_option}
use Rattle.command_line.proofs.options.with_lane_options.Goals as goal

pub returns : goal.returns
returns c =
    let one : app_of c.in_ok-arg.field-0 ≡ with_rule (app_of c.args.command) (number_option (codes "queue") (codes "64") 1 1024) =
    c.in_ok-arg.ensures.shape c.queue_option.ensures.local ∙ ap (with_rule (app_of c.args.command)) c.queue_option.ensures.rule in
    record { words = IfOk-weaker c.arg-2.result _ _ (λ r h. h.shape c.tries_option.ensures.local ∙ ap₂ with_rule one c.tries_option.ensures.rule) c.arg-2.ensures }
