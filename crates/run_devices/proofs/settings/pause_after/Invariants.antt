use Rattle.std.proofs.Common.{◌≡◌, ◌*◌, ◌^◌, min}
use Rattle.run_devices.proofs.settings.pause_after.Given as goal

abbrev pub invariant-loop-doubled : goal.invariant-loop-doubled
invariant-loop-doubled l = l.pause ≡ min (l.first * 2 ^ l._doubled) 60
