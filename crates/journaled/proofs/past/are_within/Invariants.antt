use Rattle.std.proofs.Common.{◌<◌, ℕ, slice_index_or}
use Rattle.due_model.specs.declared.notice.Notice.{Notice}
use Rattle.journaled.specs.Places.{IsWithin}
use Rattle.journaled.proofs.past.are_within.Given as goal

abbrev pub invariant-loop-notice : goal.invariant-loop-notice
invariant-loop-notice l = (k : ℕ) (d : Notice) → k < l.notice-index → IsWithin (slice_index_or l.notices k d)
