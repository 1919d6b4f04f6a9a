use Rattle.std.proofs.Common.{◌≡◌, Bool, filter, take}
use Rattle.std.specs.Prelude.{◌↔◌, Contains, IsTrue}
use Rattle.due_model.specs.declared.notice.Notice.{Notice}
use Rattle.earlier_runs.proofs.tally.begun_among.Given as goal

-- of the first notices those are found that were about to be handed over
abbrev pub invariant-loop-notice : goal.invariant-loop-notice
invariant-loop-notice l =
    (was_begun : Notice → Bool) → ((n : Notice) → IsTrue (was_begun n) ↔ Contains l.past.begun n)
    → l.found.items ≡ filter was_begun (take l.notice-index l.notices)
