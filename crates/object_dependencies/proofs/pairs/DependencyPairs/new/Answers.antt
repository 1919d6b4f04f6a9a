use Rattle.std.proofs.Common.{◌≡◌, ◌+◌, ◌<◌, ◌∙◌, List, ap, arith, get_or, length, refl}
use Rattle.std.proofs.lemmas.Option.{slice_get_read}
use Rattle.due_model.specs.claims.Limits.{max_dependencies}
use Rattle.object_reader.specs.declared.block.Block.{Block}
use Rattle.object_dependencies.proofs.LimitLemmas.{first-over, next-block}
use Rattle.object_dependencies.proofs.pairs.DependencyPairs.new.Goals as goal

pub pairs_at-requires-clause-within : goal.pairs_at-requires-clause-within
pairs_at-requires-clause-within c =
    let long = ap (λ (list : List Block). length list) c.blocks-block-items.ensures in
    omega (arith, long, c.loop-place-test.true)

pub pairs_at-requires-clause-hosts : goal.pairs_at-requires-clause-hosts
pairs_at-requires-clause-hosts c = c.loop-place.invariant.same_hosts ∙ c.requires.hosts

pub pairs_at-requires-clause-groups : goal.pairs_at-requires-clause-groups
pairs_at-requires-clause-groups c = c.loop-place.invariant.same_groups ∙ c.requires.groups

pub returns-then-total-gt-MAX_DEPENDENCIES-clause-fault : goal.returns-then-total-gt-MAX_DEPENDENCIES-clause-fault
returns-then-total-gt-MAX_DEPENDENCIES-clause-fault c =
    let blocks = c.args.blocks.now.blocks in
    let i = c.loop-place.place in
    let x = c.block-item.result in
    let pairs = c.in_ok-pairs.pairs in
    let long = ap (λ (list : List Block). length list) c.blocks-block-items.ensures in
    let within : i < length blocks = omega (arith, long, c.loop-place-test.true) in
    let is : x ≡ get_or blocks i x = c.block-item.is ∙ ap (λ (list : List Block). get_or list i x) c.blocks-block-items.ensures in
    let over : max_dependencies < c.loop-place.count + length pairs = omega (arith, c.saturating_add-total.ensures, c.count.ensures, c.if-total-gt-MAX_DEPENDENCIES.true) in
    first-over blocks c.args.blocks.now.lists i x c.loop-place.sides.items pairs c.loop-place.count within (slice_get_read blocks (length blocks) i x refl within is)
    c.loop-place.invariant.far c.loop-place.invariant.low c.in_ok-pairs.ensures.pairs over

pub loop-place-preserved : goal.loop-place-preserved
loop-place-preserved c =
    let pairs = c.in_ok-pairs.pairs in
    let total : c.saturating_add-total.result ≡ c.loop-place.count + length pairs =
    omega (arith, c.saturating_add-total.ensures, c.count.ensures, c.if-total-gt-MAX_DEPENDENCIES.false) in
    record {
      same_hosts = c.pairs_at.ensures.same_hosts ∙ c.loop-place.invariant.same_hosts;
      same_groups = c.pairs_at.ensures.same_groups ∙ c.loop-place.invariant.same_groups;
      far = next-block c.args.blocks.now.blocks c.args.blocks.now.lists c.loop-place.place c.loop-place.sides.items c.keep.new.sides.items pairs c.loop-place.count c.saturating_add-total.result
          c.loop-place.invariant.far c.in_ok-pairs.ensures.pairs c.in_ok-keep.ensures total;
      low = omega (arith, c.if-total-gt-MAX_DEPENDENCIES.false);
    }
