use Rattle.std.proofs.Common.{◌≡◌, map, take}
use Rattle.site_check.specs.Faults.{load_fault}
use Rattle.site_check.proofs.found.load_faults.Given as goal

-- Those so far.
abbrev pub invariant-loop-one : goal.invariant-loop-one
invariant-loop-one l = l.faults.items ≡ map (load_fault l.blocks) (take l.one-index l.found)
