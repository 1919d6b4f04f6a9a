use Rattle.std.proofs.Common.{sym}
use Rattle.lemmas.proofs.Searches.{any-at, none-more}
use Rattle.object_groups.specs.claims.Names.{lacks}
use Rattle.object_groups.proofs.names.Names.lacks_any.Goals as goal

pub returns-then-lacks : goal.returns-then-lacks
returns-then-lacks c = any-at (lacks c.args.self.now) c.args.entries.now c.loop-entry.entry-index _ c.loop-entry-test.true c.if-lacks.ensures

pub loop-entry-preserved : goal.loop-entry-preserved
loop-entry-preserved c =
    none-more (lacks c.args.self.now) c.args.entries.now c.loop-entry.entry-index _ c.loop-entry-test.true c.loop-entry.invariant (sym c.if-lacks.ensures)
