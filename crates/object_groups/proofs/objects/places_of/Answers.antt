use Rattle.std.proofs.Common.{◌≡◌, ◌++◌, ◌∷◌, ◌∙◌, List, [], ap, arith, cond, filter, length, sym, ℕ}
use Rattle.std.specs.List.{range_with_len}
use Rattle.object_groups.specs.claims.Objects.{is_object_at, objects_in}
use Rattle.object_groups.proofs.GroupLemmas.{object-is}
use Rattle.object_groups.proofs.NumberLemmas.{filter-range}
use Rattle.object_groups.proofs.objects.places_of.Goals as goal

pub loop-place-preserved : goal.loop-place-preserved
loop-place-preserved c =
    let blocks = c.args.blocks.now in
    let i = c.loop-place.place in
    c.in_ok-push_place.ensures
    ∙ ap (λ (places : List ℕ). places ++ cond c.is_object.result (i ∷ []) []) c.loop-place.invariant
    ∙ sym (filter-range (is_object_at blocks c.args.kind) i c.is_object.result
    (object-is blocks c.args.kind i c.index-blocks-place.result c.loop-place-test.true c.index-blocks-place.is ∙ sym c.is_object.ensures))

pub returns : goal.returns
unfolding objects_in
returns c =
    let end : c.loop-place.place ≡ length c.args.blocks.now = omega (arith, c.loop-place-test.false, c.loop-place.auto.place-end) in
    c.loop-place.invariant ∙ ap (λ (n : ℕ). filter (is_object_at c.args.blocks.now c.args.kind) (range_with_len 0 n)) end
