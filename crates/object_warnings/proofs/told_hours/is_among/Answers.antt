use Rattle.std.proofs.lemmas.List.Folds.{list_any_at}
use Rattle.std.proofs.Common.{◌∙◌, ap, refl}
use Rattle.object_warnings.proofs.told_hours.is_among.Goals as goal

pub returns-then-is_same : goal.returns-then-is_same
returns-then-is_same c is holds held = list_any_at holds c.args.hours.now c.loop-other.other-index _ c.loop-other-test.true (ap holds (c.if-is_same.ensures refl) ∙ held)
