use Rattle.std.proofs.Common.{◌∙◌, ◌||◌, ap, ap₂, Bool}
use Rattle.std.specs.List.{list_any}
use Rattle.object_warnings.specs.Hours.{has_hours, has_hours_by}
use Rattle.object_warnings.proofs.ToldLemmas.{any-of-both}
use Rattle.object_warnings.proofs.told_hours.add_all.Goals as goal

pub returns : goal.returns
returns c holds =
    let own = has_hours c.args.config.now holds c.args.object.now in
    let others = has_hours_by c.args.config.now holds c.args.object.now in
    any-of-both _ _ _ _ _ (c.in_ok-add_contacts.ensures holds) (c.in_ok-add_escalations.ensures holds)
    ∙ ap₂ (λ (a b : Bool). list_any holds c.args.hours.now.items || (a || b)) (ap (list_any own) c.as_slice.ensures) (ap (list_any others) c.of.ensures)
