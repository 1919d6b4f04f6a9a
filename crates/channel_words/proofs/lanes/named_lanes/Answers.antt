use Rattle.std.proofs.Common.{arith, sym}
use Rattle.channel_words.proofs.LaneLaws.{named_all, named_more, unknown_first}
use Rattle.channel_words.proofs.lanes.named_lanes.Goals as goal

pub returns-in-None-clause-fault : goal.returns-in-None-clause-fault
returns-in-None-clause-fault c =
    unknown_first c.args.config.now c.args.words.now c.loop-word.word-index c.loop-word.lanes.items _ c.loop-word-test.true c.loop-word.invariant (sym c.in-None.ensures)

pub loop-word-preserved : goal.loop-word-preserved
loop-word-preserved c =
    rw c.in_ok-push-in-Some.ensures.items
    (named_more c.args.config.now c.args.words.now c.loop-word.word-index c.loop-word.lanes.items _ c.loop-word-test.true c.loop-word.invariant c.in-Some.lane c.in-Some.ensures)

pub returns-clause-known : goal.returns-clause-known
returns-clause-known c = (named_all c.args.config.now c.args.words.now c.loop-word.word-index c.loop-word.lanes.items (omega arith) c.loop-word.invariant).known
