use Rattle.std.proofs.Common.{ap, ◌∙◌}
use Rattle.std.proofs.lemmas.Result.{IfOk-weaker}
use Rattle.command_line.specs.Options.{with_choices}
use Rattle.command_line.proofs.options.with_site.Goals as goal

pub returns : goal.returns
returns c = record { words = IfOk-weaker c.with_choices.result _ _ (λ r h. h ∙ ap with_choices c.in_ok-with_zone.ensures.words) c.with_choices.ensures.words }
