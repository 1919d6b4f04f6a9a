use Rattle.std.proofs.Common.{rules, List, subst, take_all, ℕ}
use Rattle.object_pairs.specs.Wanted.{AreAllWanted, AreWantedAt}
use Rattle.object_pairs.proofs.WantedLemmas.{lists-more, lists-none, nothing-read}
use Rattle.object_pairs.proofs.wanted.wanted_in.Goals as goal

pub loop-place-init : goal.loop-place-init
loop-place-init c = record {
  all = lists-none c.args.hosts.now c.args.values.now c.new-wanted.result.keys;
  read = nothing-read (AreWantedAt c.args.hosts.now c.new-wanted.result.keys c.args.values.now) c.in_ok-read.read.items c.args.count
      (c.in_ok-read.ensures.items_if_clones_equal (λ y is. search rules));
}

pub loop-place-preserved : goal.loop-place-preserved
loop-place-preserved c = record {
  all = lists-more c.args.hosts.now c.args.values.now c.loop-place.wanted.keys c.want_once.new.wanted.keys c.args.places.now c.loop-place.place-index c.loop-place-test.true
      c.loop-place.invariant.all c.in_ok-want_once.ensures.keeps c.in_ok-want_once.ensures.all;
  read = c.in_ok-want_once.ensures.read;
}

pub returns : goal.returns
returns c =
    subst (λ (ps : List ℕ). AreAllWanted c.args.hosts.now c.loop-place.wanted.keys c.args.values.now ps)
    (take_all c.loop-place.place-index c.args.places.now c.loop-place-test.false) c.loop-place.invariant.all
