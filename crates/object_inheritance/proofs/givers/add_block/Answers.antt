use Rattle.object_inheritance.proofs.GiverLemmas.{directive-more}
use Rattle.object_inheritance.proofs.givers.add_block.Goals as goal

pub loop-number-preserved : goal.loop-number-preserved
loop-number-preserved c blocks here name q =
    directive-more blocks c.args.block.now c.as_slice-directives.result.now c.args.place c.loop-number.number c.index-directives-number.result c.as_slice.result.now name q _ _ _
    here c.as_slice-directives.ensures c.loop-number-test.true c.index-directives-number.is c.as_slice.ensures
    (c.loop-number.invariant blocks here name q) (c.in_ok-add_text.ensures blocks name q)
