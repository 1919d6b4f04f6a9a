use Rattle.std.proofs.Common.{◌≡◌, ◌+◌, length, take}
use Rattle.site_check.proofs.warned.add_places.Given as goal

-- So many more.
abbrev pub invariant-loop-place : goal.invariant-loop-place
invariant-loop-place l = length l.warned.items ≡ length l.fn.warned.items + length (take l.place-index l.places)
