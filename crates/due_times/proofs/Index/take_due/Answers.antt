use Rattle.std.proofs.Common.{◌≡◌, ◌+◌, true, ◌∙◌, arith}
use Rattle.due_model.specs.claims.Rules.{has_come}
use Rattle.due_times.specs.claims.Index.{at}
use Rattle.due_times.specs.Index.{due_count}
use Rattle.due_times.proofs.Next.{count_none, count_removed, counted_all, counted_more, counted_small, first_come, left_same}
use Rattle.due_times.proofs.Index.take_due.Goals as goal

-- the entry that is taken out had come
came : (c : goal.In-Some) → has_come (at c.loop-object.self.moments c.in-Some._object.0) c.args.t ≡ true
came c = let first = c.in-Some.ensures.first in first_come c.loop-object.self.moments c.in-Some._object.0 first.0 c.args.t first.1.entry first.2

one_less : (c : goal.In-Some) → due_count c.args.t c.loop-object.self.moments ≡ due_count c.args.t c.pop_due.new.self.moments + 1
one_less c = count_removed c.args.t c.loop-object.self.moments c.pop_due.new.self.moments c.in-Some._object.0 c.in-Some.ensures.room (came c) c.in-Some.ensures.removed

pub loop-object-smaller : goal.loop-object-smaller
loop-object-smaller c = omega (arith, one_less c)

pub loop-object-preserved : goal.loop-object-preserved
loop-object-preserved c =
    let was = c.loop-object.invariant in
    record {
      left = λ o. left_same c.args.t c.loop-object.self.moments c.pop_due.new.self.moments c.in-Some._object.0 (came c) c.in-Some.ensures.removed o ∙ was.left o;
      room = c.in-Some.ensures.room ∙ was.room;
      small = counted_small c.loop-object.self.examined c.pop_due.new.self.examined c.in-Some.ensures.examined;
      examined = counted_more c.loop-object.self.examined c.pop_due.new.self.examined _ _ c.in-Some.ensures.examined (one_less c) ∙ was.examined;
    }

pub returns-clause-examined : goal.returns-clause-examined
returns-clause-examined c =
    let kept = c.in_default.ensures.unchanged in
    counted_all c.pop_due.new.self.examined _ _ (rw kept c.loop-object.invariant.small) (count_none c.pop_due.new.self.moments c.args.t (rw kept c.in_default.ensures.none)) (rw kept c.loop-object.invariant.examined)
