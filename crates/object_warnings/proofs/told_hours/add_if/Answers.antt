use Rattle.std.proofs.Common.{◌∙◌, ◌&&◌, ◌||◌, Bool, ap, sym}
use Rattle.std.specs.List.{list_any}
use Rattle.object_warnings.proofs.ToldLemmas.{or-none}
use Rattle.object_warnings.proofs.told_hours.add_if.Goals as goal

pub returns-then-asked : goal.returns-then-asked
returns-then-asked c holds =
    c.in_ok-add_hours.ensures holds ∙ ap (λ (b : Bool). list_any holds c.args.hours.now.items || (b && holds c.args.period)) (sym c.if-asked.true)

pub returns : goal.returns
returns c holds =
    sym (or-none (list_any holds c.args.hours.now.items)) ∙ ap (λ (b : Bool). list_any holds c.args.hours.now.items || (b && holds c.args.period)) (sym c.if-asked.false)
