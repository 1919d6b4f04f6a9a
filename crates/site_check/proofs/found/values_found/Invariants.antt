use Rattle.std.proofs.Common.{◌≡◌, map, take}
use Rattle.site_check.specs.Faults.{value_found}
use Rattle.site_check.proofs.found.values_found.Given as goal

-- Those so far.
abbrev pub invariant-loop-misfit : goal.invariant-loop-misfit
invariant-loop-misfit l = l.found.items ≡ map value_found (take l.misfit-index l.misfits)
