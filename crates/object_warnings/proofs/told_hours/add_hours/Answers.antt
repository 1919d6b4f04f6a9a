use Rattle.std.proofs.Common.{◌∙◌, ap, refl, rules, sym}
use Rattle.std.specs.List.{list_any}
use Rattle.object_warnings.proofs.ToldLemmas.{hours-more, hours-there}
use Rattle.object_warnings.proofs.told_hours.add_hours.Goals as goal

pub returns-then-is_among : goal.returns-then-is_among
returns-then-is_among c holds =
    hours-there holds c.args.hours.now.items c.args.period (λ held. ap (list_any holds) (sym c.as_slice.ensures.value) ∙ c.if-is_among.ensures refl holds held)

pub returns : goal.returns
returns c holds = hours-more holds c.args.hours.now.items c.push.new.self.items c.args.period (search rules)
