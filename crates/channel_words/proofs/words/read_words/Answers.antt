use Rattle.std.proofs.Common.{List, ℕ, Bor}
use Rattle.channel_words.proofs.ListLaws.{bad_first, read_more}
use Rattle.channel_words.proofs.words.read_words.Goals as goal

pub returns-in-None-clause-fault : goal.returns-in-None-clause-fault
returns-in-None-clause-fault c =
    bad_first (λ (text : Bor (List ℕ)). text.now) c.args.texts.now c.loop-text.text-index c.loop-text.words.items _ c.loop-text-test.true c.loop-text.invariant c.in-None.ensures.none

pub loop-text-preserved : goal.loop-text-preserved
loop-text-preserved c =
    rw c.in_ok-push-in-Some.ensures.items
    (read_more (λ (text : Bor (List ℕ)). text.now) c.args.texts.now c.loop-text.text-index c.loop-text.words.items _ c.loop-text-test.true c.loop-text.invariant c.in-Some.word c.in-Some.ensures.some)
