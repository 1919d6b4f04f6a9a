use Rattle.std.proofs.Common.{rules, ◌≡◌, ◌∙◌, ap, false, sym}
use Rattle.object_groups.specs.claims.Objects.{objects_in}
use Rattle.object_reader.specs.declared.block.BlockKind.{BlockKind}
use Rattle.object_pairs.specs.Wanted.{lacks_at}
use Rattle.object_pairs.proofs.UnknownLemmas.{first-here, first-none, none-lacks, none-more}
use Rattle.object_pairs.proofs.WantedLemmas.{nothing-read}
use Rattle.object_pairs.proofs.unknown.first_lacking.Goals as goal

pub loop-place-init : goal.loop-place-init
loop-place-init c = record {
  none = none-lacks c.args.groups.now.blocks (lacks_at c.args.hosts.now c.args.found.now.keys c.args.values.now);
  whole = nothing-read (λ place. lacks_at c.args.hosts.now c.args.found.now.keys c.args.values.now place ≡ false) c.in_ok-whole.whole.items c.args.count
      (c.in_ok-whole.ensures.items_if_clones_equal (λ y is. search rules));
}

pub returns-then-branch : goal.returns-then-branch
returns-then-branch c =
    first-here c.args.groups.now.blocks c.args.hosts.now c.args.found.now.keys c.args.values.now c.places-place-items.result.now c.loop-place.place-index
    (c.places-place-items.ensures.places ∙ ap (λ (kind : BlockKind). objects_in c.args.groups.now.blocks kind) c.requires) c.loop-place-test.true c.loop-place.invariant.none
    (sym c.in_ok-lacks_pair_once.ensures.lacks ∙ c.if-branch.true)

pub loop-place-preserved : goal.loop-place-preserved
loop-place-preserved c = record {
  none = none-more c.args.groups.now.blocks (lacks_at c.args.hosts.now c.args.found.now.keys c.args.values.now) c.places-place-items.result.now c.loop-place.place-index
      (c.places-place-items.ensures.places ∙ ap (λ (kind : BlockKind). objects_in c.args.groups.now.blocks kind) c.requires) c.loop-place.invariant.none
      (sym c.in_ok-lacks_pair_once.ensures.lacks ∙ c.if-branch.false);
  whole = c.in_ok-lacks_pair_once.ensures.whole;
}

pub returns : goal.returns
returns c =
    first-none c.args.groups.now.blocks c.args.hosts.now c.args.found.now.keys c.args.values.now c.places-place-items.result.now c.loop-place.place-index
    (c.places-place-items.ensures.places ∙ ap (λ (kind : BlockKind). objects_in c.args.groups.now.blocks kind) c.requires) c.loop-place-test.false c.loop-place.invariant.none
