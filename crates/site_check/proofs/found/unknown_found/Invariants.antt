use Rattle.std.proofs.Common.{◌≡◌, map, take}
use Rattle.site_check.specs.Faults.{name_found}
use Rattle.site_check.proofs.found.unknown_found.Given as goal

-- Those so far.
abbrev pub invariant-loop-misfit : goal.invariant-loop-misfit
invariant-loop-misfit l = l.found.items ≡ map name_found (take l.misfit-index l.misfits)
