use Rattle.std.proofs.Common.{◌<◌, List, length, subst, sym, ℕ}
use Rattle.object_escalations.specs.claims.Entries.{origins_at}
use Rattle.object_escalations.specs.Entries.{AddsEntries}
use Rattle.object_reader.specs.declared.block.Block.{Block}
use Rattle.object_listing.specs.Periods.{ArePeriods}
use Rattle.object_escalations.proofs.GivenLemmas.{entries-more}
use Rattle.object_escalations.proofs.entries.entries_of.Goals as goal

pub push_block_at-requires-clause-periods : goal.push_block_at-requires-clause-periods
push_block_at-requires-clause-periods c = subst (λ (bs : List Block). ArePeriods bs c.args.periods.now) (sym c.requires.tables) c.requires.periods

pub push_block_at-requires-clause-asked : goal.push_block_at-requires-clause-asked
push_block_at-requires-clause-asked c some =
    c.requires.asked c.loop-place.place (subst (λ (ns : List ℕ). 0 < length ns) c.objects-numbers.ensures some)

pub loop-place-preserved : goal.loop-place-preserved
loop-place-preserved c =
    let blocks = c.args.templates.now in
    let objects = c.args.objects.now in
    let i = c.loop-place.place in
    let numbers = c.objects-numbers.result.now in
    let old = c.loop-place.escalations.items in
    let new = c.push_block_at.new.escalations.items in
    entries-more blocks objects c.args.escalated.now i numbers old new c.objects-numbers.ensures c.loop-place.invariant
    (subst (λ (bs : List Block). AddsEntries bs objects (origins_at i numbers) old new) c.requires.tables c.in_ok-push_block_at.ensures)
