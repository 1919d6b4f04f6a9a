use Rattle.std.proofs.Common.{◌≡◌, ◌++◌, take}
use Rattle.site_check.specs.Faults.{doubled_among}
use Rattle.site_check.proofs.names.push_doubled_among.Given as goal

-- Those of the types so far.
abbrev pub invariant-loop-kind : goal.invariant-loop-kind
invariant-loop-kind l = l.found.items ≡ l.fn.found.items ++ doubled_among l.objects (take l.kind-index l.kinds)
