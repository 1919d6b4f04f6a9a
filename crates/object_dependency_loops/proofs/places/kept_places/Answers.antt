use Rattle.std.proofs.Common.{◌≡◌, ◌&&◌, ◌∙◌, ap, arith, get_or, length, List, refl, ℕ}
use Rattle.std.specs.Prelude.{is_some}
use Rattle.object_reader.specs.declared.block.Block.{Block}
use Rattle.object_dependency_loops.specs.Places.{kept_in}
use Rattle.object_dependency_loops.proofs.RoleLemmas.{kept-more}
use Rattle.object_dependency_loops.proofs.places.kept_places.Goals as goal

pub loop-place-preserved : goal.loop-place-preserved
loop-place-preserved c =
    let blocks = c.args.blocks.now.blocks in
    let i = c.loop-place.place in
    let long = ap (λ (bs : List Block). length bs) c.blocks-block-items.ensures in
    kept-more blocks c.args.kind i c.block-item.result c.is_some-kept.result c.is_object-object.result (c.is_some-kept.result && c.is_object-object.result) c.loop-place.places.items c.push_place.new.places.items
    (omega (arith, long, c.loop-place-test.true))
    (c.block-item.is ∙ ap (λ (bs : List Block). get_or bs i c.block-item.result) c.blocks-block-items.ensures)
    (c.is_some-kept.ensures ∙ ap is_some c.kept_states.ensures) c.is_object-object.ensures refl c.loop-place.invariant c.in_ok-push_place.ensures

pub returns : goal.returns
returns c =
    let long = ap (λ (bs : List Block). length bs) c.blocks-block-items.ensures in
    let end : c.loop-place.place ≡ length c.args.blocks.now.blocks = omega (arith, long, c.loop-place-test.false, c.loop-place.auto.place-end) in
    c.loop-place.invariant ∙ ap (λ (n : ℕ). kept_in c.args.blocks.now.blocks c.args.kind n) end
