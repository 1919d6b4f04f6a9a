use Rattle.std.proofs.Common.{◌∙◌, ◌||◌, Bool, ap, sym}
use Rattle.std.specs.List.{list_any}
use Rattle.object_warnings.proofs.told_hours.add_contact.Goals as goal

pub returns : goal.returns
returns c holds = c.in_ok-add_if.ensures holds ∙ ap (λ (b : Bool). list_any holds c.args.hours.now.items || b) (sym (c.contact_hours-asked.ensures holds))
