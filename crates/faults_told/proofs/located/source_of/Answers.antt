use Rattle.faults_told.proofs.LocatedLemmas.{source_more}
use Rattle.faults_told.proofs.located.source_of.Goals as goal

pub loop-source-preserved : goal.loop-source-preserved
loop-source-preserved c = record {
  of = source_more c.args.sources.now c.args.line c.loop-source.source-index _ _ _ c.loop-source-test.true c.loop-source.invariant.of c.later-found.ensures.of;
  before = c.later-found.ensures.before;
}
