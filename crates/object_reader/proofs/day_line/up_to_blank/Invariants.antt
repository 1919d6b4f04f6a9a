use Rattle.std.proofs.Common.{◌≡◌, not, ◌+◌, ◌≤◌, length, take}
use Rattle.std.specs.List.{suffix_len}
use Rattle.object_reader.specs.claims.Blanks.{is_blank}
use Rattle.object_reader.proofs.day_line.up_to_blank.Given as goal

abbrev pub invariant-loop-end : goal.invariant-loop-end
invariant-loop-end l = (l.end ≤ length l.bytes) × (l.end + suffix_len (λ b. not (is_blank b)) l.bytes ≡ length l.bytes + suffix_len (λ b. not (is_blank b)) (take l.end l.bytes))

abbrev pub decreases-loop-end : goal.decreases-loop-end
decreases-loop-end l = l.end
