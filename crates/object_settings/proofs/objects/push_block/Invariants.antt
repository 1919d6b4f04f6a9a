use Rattle.std.proofs.Common.{take}
use Rattle.object_settings.specs.Own.{AddsServices}
use Rattle.object_settings.proofs.objects.push_block.Given as goal

-- The services so far came.
abbrev pub invariant-loop-host : goal.invariant-loop-host
invariant-loop-host l = AddsServices l.owns l.own (take l.host-index l.hosts) l.initial.objects.items l.objects.items
