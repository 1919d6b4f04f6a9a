use Rattle.std.proofs.Common.{rules, arith, ◌<◌, ◌≤◌}
use Rattle.channel_words.proofs.LaneLaws.{few_more, ninth_at}
use Rattle.channel_words.proofs.lanes.first_ninth.Goals as goal

pub returns-then-words_named-ge-MOST-clause-some : goal.returns-then-words_named-ge-MOST-clause-some
returns-then-words_named-ge-MOST-clause-some c =
    ninth_at c.args.words.now _ c.loop-place.place _ c.words_named.result c.loop-place-test.true (search rules) c.words_named.ensures (omega (arith, c.if-words_named-ge-MOST.true)) c.loop-place.invariant

pub loop-place-preserved : goal.loop-place-preserved
loop-place-preserved c =
    few_more c.args.words.now _ c.loop-place.place _ c.words_named.result c.loop-place-test.true (search rules) c.words_named.ensures (omega (arith, c.if-words_named-ge-MOST.false)) c.loop-place.invariant
