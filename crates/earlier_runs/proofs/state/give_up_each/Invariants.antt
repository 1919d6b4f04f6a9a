use Rattle.std.proofs.Common.{map, take}
use Rattle.journal_text.specs.declared.entry.Entry.TheVariants.{GivenUp}
use Rattle.earlier_runs.proofs.state.give_up_each.Given as goal

-- the first notices were written down
abbrev pub invariant-loop-notice : goal.invariant-loop-notice
invariant-loop-notice g l = g.J.Journal.wrote l.fn.journal (map GivenUp (take l.notice-index l.notices)) l.journal
