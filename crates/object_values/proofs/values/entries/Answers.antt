use Rattle.object_values.specs.Values.{texts}
use Rattle.object_values.proofs.EntryLemmas.{entries-end, entries-more}
use Rattle.object_values.proofs.values.entries.Goals as goal

pub returns-then-part-rest : goal.returns-then-part-rest
returns-then-part-rest c =
    entries-end (texts c.loop-list.list.items) _ _ c.loop-list.rest.now c.first_part-part.result.now c.trim.result.now
    c.loop-list.invariant c.first_part-part.ensures c.trim.ensures c.in_ok-push_entry.ensures c.if-part-rest.true

pub loop-list-preserved : goal.loop-list-preserved
loop-list-preserved c =
    entries-more (texts c.loop-list.list.items) (texts c.push_entry.new.list.items) _ c.loop-list.rest.now c.first_part-part.result.now c.trim.result.now
    c.loop-list.invariant c.first_part-part.ensures c.trim.ensures c.in_ok-push_entry.ensures c.if-part-rest.false
