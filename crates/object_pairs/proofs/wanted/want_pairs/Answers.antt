use Rattle.std.proofs.Common.{List, subst, take_all}
use Rattle.object_pairs.specs.Pairs.{pairs_in}
use Rattle.object_pairs.proofs.PairLemmas.{Text}
use Rattle.object_pairs.proofs.WantedLemmas.{AreWantedSoFar, so-far-more, so-far-none}
use Rattle.object_pairs.proofs.wanted.want_pairs.Goals as goal

pub loop-pair-init : goal.loop-pair-init
loop-pair-init c = so-far-none c.args.hosts.now c.args.wanted.now.keys

pub loop-pair-preserved : goal.loop-pair-preserved
loop-pair-preserved c =
    so-far-more c.args.hosts.now c.args.wanted.now.keys c.loop-pair.wanted.keys c.want.new.wanted.keys c.args.pairs.now c.loop-pair.pair-index _ c.find.result c.loop-pair-test.true
    c.loop-pair.invariant c.in_ok-want.ensures.keeps c.find.ensures.number c.in_ok-want.ensures.added

pub returns-clause-keeps : goal.returns-clause-keeps
returns-clause-keeps c = c.loop-pair.invariant.keeps

pub returns-clause-all : goal.returns-clause-all
returns-clause-all c =
    (subst (λ (ps : List (Text × Text)). AreWantedSoFar c.args.hosts.now c.args.wanted.now.keys c.loop-pair.wanted.keys (pairs_in ps))
    (take_all c.loop-pair.pair-index c.args.pairs.now c.loop-pair-test.false) c.loop-pair.invariant).all
