use Rattle.std.proofs.Common.{◌∷◌, ◌∙◌, reverse, arith}
use Rattle.std.proofs.lemmas.Result.{IfOk-weaker}
use Rattle.slow_rules.proofs.MasterLemmas.{depends_is}
use Rattle.slow_rules.proofs.SlowLemmas.{now_moment_in_range}
use Rattle.slow_rules.proofs.views.fails.Goals as goal

pub dependency_fails-requires-clause-moment : goal.dependency_fails-requires-clause-moment
dependency_fails-requires-clause-moment c =
    omega (arith, c.moment_at-moment.ensures, now_moment_in_range c.args.subject.now.config.now c.args.event.now c.args.past.now c.requires.now c.requires.past)

pub returns : goal.returns
returns c =
    let s = c.args.subject.now in
    IfOk-weaker c.dependency_fails.result _ _
    (λ fails is. is ∙ depends_is s.config.now s.zone.now (c.args.event.now ∷ reverse c.args.past.now) _ _ c.args.object.0 c.requires.accepted
    (c.as_slice.ensures.value ∙ c.in_ok-states.ensures) c.moment_at-moment.ensures) c.dependency_fails.ensures
