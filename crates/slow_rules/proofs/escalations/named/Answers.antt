use Rattle.std.proofs.Common.{◌++◌, ◌∙◌, ap, sym}
use Rattle.due_model.specs.claims.Escalations.{matching}
use Rattle.slow_rules.specs.Escalated.{named_by}
use Rattle.slow_rules.proofs.EscalatedLemmas.{reaches_named}
use Rattle.slow_rules.proofs.escalations.named.Goals as goal

pub returns-then-branch : goal.returns-then-branch
returns-then-branch c =
    let s = c.args.subject.now in
    let n = c.args.notification in
    let es = matching s.config.now s.zone.now s.id.0 n.number n.letter n.moment in
    reaches_named s.object.now es _ (c.in_ok-name_matching.ensures.named ∙ ap (λ xs. xs ++ named_by es) c.new-named.ensures.items)
    (sym c.in_ok-name_matching.ensures.some ∙ c.if-branch.true)
