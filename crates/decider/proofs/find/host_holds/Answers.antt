use Rattle.std.proofs.Common.{◌∷◌, Bool, ◌&&◌, ap, sym, ◌∙◌}
use Rattle.decider.specs.Found.{is_host_problem}
use Rattle.decider.proofs.find.host_holds.Goals as goal

pub returns-then-reading : goal.returns-then-reading
returns-then-reading c = λ e past settings fit says at.
    c.is_host_problem-problem.ensures e past settings fit says at
    ∙ ap (λ (b : Bool). b && is_host_problem settings.host (e ∷ past)) (sym c.if-reading.true)

pub returns-else-reading : goal.returns-else-reading
returns-else-reading c = λ e past settings fit says at.
    c.if-reading.false ∙ ap (λ (b : Bool). b && is_host_problem settings.host (e ∷ past)) (sym c.if-reading.false)
