use Rattle.std.proofs.Common.{None, arith, refl}
use Rattle.object_warnings.proofs.ToldLemmas.{same-all, same-more}
use Rattle.object_warnings.proofs.known_spans.are_same_items.Goals as goal

pub loop-place-preserved : goal.loop-place-preserved
loop-place-preserved c = record {
  within = omega (arith, c.loop-place-test.true);
  same = same-more c.args.one.now c.args.other.now c.loop-place.place None c.loop-place-test.true c.requires c.loop-place.invariant.same (c.if-differ_at.ensures refl);
}

pub returns : goal.returns
returns c is = same-all c.args.one.now c.args.other.now c.loop-place.place (omega (arith, c.loop-place-test.false)) c.requires c.loop-place.invariant.same
