use Rattle.std.proofs.Common.{arith, subst, sym}
use Rattle.day_rules.specs.Dates.{shown}
use Rattle.time_period.specs.Classes.{holds_by_class}
use Rattle.time_period.specs.claims.Ranges.{in_ranges}
use Rattle.time_period.specs.Ranges.{IsDay}
use Rattle.time_period.proofs.DecidedLemmas.{decided-beside, decided-kept, decided-new, ranges-stretch}
use Rattle.time_period.proofs.decided.Decided.with_named.Goals as goal

pub stretch_in-stretch-requires-clause-day : goal.stretch_in-stretch-requires-clause-day
stretch_in-stretch-requires-clause-day c = subst IsDay (sym c.as_slice.ensures) c.requires.sorted

pub returns-then-class-self : goal.returns-then-class-self
returns-then-class-self c lines is =
    decided-kept (shown c.args.time) lines c.args.line.now c.args.self is (λ _. omega (arith, c.class_of-class.ensures, c.if-class-self.true))

pub returns-then-class-self-2 : goal.returns-then-class-self-2
returns-then-class-self-2 c lines is =
    decided-new (shown c.args.time) lines c.args.line.now c.args.self is _ c.requires.named c.class_of-class.ensures c.if-class-self-2.true
    (ranges-stretch _ _ _ _ _ _ c.as_slice.ensures c.second.ensures c.stretch_in-stretch.ensures)

pub returns-else-class-self-2 : goal.returns-else-class-self-2
returns-else-class-self-2 c lines is =
    decided-beside (shown c.args.time) lines c.args.line.now c.args.self is _ c.requires.named c.class_of-class.ensures (omega (arith, c.if-class-self.false, c.if-class-self-2.false))
    (c.or.ensures (holds_by_class c.args.self.class (shown c.args.time) lines) (in_ranges c.args.line.now.ranges) (shown c.args.time).second is.stretch
    (ranges-stretch _ _ _ _ _ _ c.as_slice.ensures c.second.ensures c.stretch_in-stretch.ensures))
