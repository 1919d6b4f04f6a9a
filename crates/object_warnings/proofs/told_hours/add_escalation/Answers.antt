use Rattle.std.proofs.Common.{◌∙◌, ◌||◌, Bool, ap, sym}
use Rattle.std.specs.Prelude.{slice_get}
use Rattle.std.specs.List.{list_any}
use Rattle.object_warnings.specs.Hours.{has_hours}
use Rattle.object_warnings.proofs.ToldLemmas.{any-by}
use Rattle.object_warnings.proofs.told_hours.add_escalation.Goals as goal

pub returns : goal.returns
returns c holds =
    let test = has_hours c.args.config.now holds c.args.object.now in
    c.in_ok-add_contacts.ensures holds
    ∙ ap (λ (b : Bool). list_any holds c.args.hours.now.items || b)
    (ap (list_any test) c.contacts_by.ensures ∙ sym (any-by test (slice_get c.args.config.now.escalations c.args.place)))
