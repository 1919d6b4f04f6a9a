use Rattle.object_groups.proofs.NumberLemmas.{numbers-more}
use Rattle.object_groups.proofs.names.numbers_of.Goals as goal

pub loop-entry-preserved : goal.loop-entry-preserved
loop-entry-preserved c =
    numbers-more c.args.names.now c.args.entries.now c.loop-entry.entry-index _ c.loop-entry.numbers.items _ c.find.result
    c.loop-entry-test.true c.loop-entry.invariant c.find.ensures.number c.in_ok-push_number.ensures
