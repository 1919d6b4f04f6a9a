use Rattle.std.proofs.Common.{take}
use Rattle.std.specs.List.{AllZip}
use Rattle.object_settings.specs.Own.{IsHostTaken}
use Rattle.object_settings.proofs.objects.hosts_of.Given as goal

-- The hosts so far.
abbrev pub invariant-loop-own : goal.invariant-loop-own
invariant-loop-own l = AllZip IsHostTaken (take l.own-index l.owns) l.objects.items
