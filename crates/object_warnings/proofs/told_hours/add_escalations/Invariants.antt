use Rattle.std.proofs.Common.{◌≡◌, ◌||◌, Bool, Option, take}
use Rattle.std.specs.List.{list_any}
use Rattle.due_model.specs.declared.config.PeriodId.{PeriodId}
use Rattle.object_warnings.specs.Hours.{has_hours_by}
use Rattle.object_warnings.proofs.told_hours.add_escalations.Given as goal

-- The periods so far.
abbrev pub invariant-loop-place : goal.invariant-loop-place
invariant-loop-place l = (holds : Option PeriodId → Bool) → list_any holds l.hours.items
    ≡ (list_any holds l.fn.hours.items || list_any (has_hours_by l.config holds l.object) (take l.place-index l.places))
