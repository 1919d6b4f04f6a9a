use Rattle.std.proofs.Common.{◌-◌, ◌∙◌, drop, length, refl, sym, take}
use Rattle.object_pairs.proofs.PairLemmas.{pairs-all, pairs-more, pairs-none, pairs-odd, shorter}
use Rattle.object_pairs.proofs.pairs.by_two.Goals as goal

pub loop-rest-init : goal.loop-rest-init
loop-rest-init c = pairs-none c.args.entries.now c.new-pairs.result.items c.new-pairs.ensures.items

pub loop-rest-preserved : goal.loop-rest-preserved
loop-rest-preserved c =
    pairs-more c.args.entries.now c.loop-rest.rest.now (take (length c.loop-rest.rest.now - 2) (drop 2 c.loop-rest.rest.now)) c.loop-rest.pairs.items c.push.new.self.items _ _
    c.loop-rest-test.true c.loop-rest.invariant c.in_ok-push.ensures.items refl

pub loop-rest-smaller : goal.loop-rest-smaller
loop-rest-smaller c = shorter c.loop-rest.rest.now c.loop-rest-test.true

pub returns-then-is_empty : goal.returns-then-is_empty
returns-then-is_empty c = pairs-all c.args.entries.now c.loop-rest.rest.now c.loop-rest.pairs.items (sym c.is_empty.ensures ∙ c.if-is_empty.true) c.loop-rest.invariant

pub returns : goal.returns
returns c = pairs-odd c.args.entries.now c.loop-rest.rest.now c.loop-rest.pairs.items c.loop-rest-test.false (sym c.is_empty.ensures ∙ c.if-is_empty.false) c.loop-rest.invariant
