use Rattle.std.proofs.Common.{◌≡◌, take, false}
use Rattle.std.specs.Prelude.{not}
use Rattle.std.specs.List.{list_any}
use Rattle.object_unknown_services.specs.Stamps.{is_stamped}
use Rattle.object_unknown_services.proofs.stamps.lacks_any.Given as goal

-- The hosts so far have the stamp.
abbrev pub invariant-loop-host : goal.invariant-loop-host
invariant-loop-host l = list_any (λ host. not (is_stamped l.stamps l.stamp host)) (take l.host-index l.hosts) ≡ false
