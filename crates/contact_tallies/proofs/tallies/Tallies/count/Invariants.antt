use Rattle.std.proofs.Common.{ℕ, List, take}
use Rattle.contact_tallies.specs.Marks.{Mark, marks_on}
use Rattle.contact_tallies.specs.Tallies.{AreTallies}
use Rattle.contact_tallies.proofs.tallies.Tallies.count.Given as goal

abbrev pub invariant-loop-notice : goal.invariant-loop-notice
invariant-loop-notice l =
    (count : ℕ) (past : List Mark) → AreTallies l.clock count past l.fn.self → AreTallies l.clock count (marks_on past (take l.notice-index l.notices)) l.self
