use Rattle.std.proofs.Common.{◌||◌, ap₂, ◌∙◌}
use Rattle.slow_rules.proofs.views.depends.Goals as goal

pub returns : goal.returns
returns c = c.either-one.ensures ∙ ap₂ (λ own hosts. own || hosts) c.in_ok-own.ensures c.in_ok-hosts.ensures
