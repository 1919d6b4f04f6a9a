use Rattle.std.proofs.Common.{◌≡◌, ◌∙◌, List, [], ap, arith, get_or, length, refl, subst, sym, ℕ}
use Rattle.object_groups.specs.claims.Objects.{names_in, objects_in}
use Rattle.object_groups.specs.Objects.{ObjectsOf}
use Rattle.object_reader.specs.declared.block.BlockKind.TheVariants.{Service}
use Rattle.object_services.specs.Numbers.{Key}
use Rattle.object_pairs.specs.Wanted.{AddsFound, AreFound, AreFoundBelow}
use Rattle.object_pairs.proofs.FoundLemmas.{found-more, found-none, found-nothing}
use Rattle.object_pairs.proofs.wanted.found_among.Goals as goal

pub returns-then-is_empty-clause-found : goal.returns-then-is_empty-clause-found
returns-then-is_empty-clause-found c =
    subst (λ (keys : List Key). AreFound c.args.services.now c.args.wanted.now.keys keys) (sym c.new-found.ensures.empty)
    (found-nothing c.args.services.now c.args.wanted.now.keys (c.is_empty.ensures.0 c.if-is_empty.true))

pub loop-number-init : goal.loop-number-init
loop-number-init c = record {
  same = refl;
  below = subst (λ (keys : List Key). AreFoundBelow c.args.services.now 0 c.args.wanted.now.keys keys) (sym c.new-found.ensures.empty) (found-none c.args.services.now c.args.wanted.now.keys);
}

pub loop-number-preserved : goal.loop-number-preserved
loop-number-preserved c =
    let blocks = c.args.services.now in
    let number = c.loop-number.number in
    let listed = c.places-place-items.ensures.places ∙ ap (λ (o : ObjectsOf). objects_in o.blocks o.kind) c.objects-2.ensures in
    let named = c.names-names.ensures.names ∙ ap (λ (o : ObjectsOf). names_in o.blocks o.kind) c.objects.ensures in
    record {
      same = c.in_ok-list.ensures.same ∙ c.loop-number.invariant.same;
      below = found-more blocks c.args.wanted.now.keys number (get_or c.places-place-items.result.now number 0) c.name.result.now c.in_ok-list.list.items c.loop-number.found.keys c.add_found.new.found.keys
          (ap (λ (ps : List ℕ). get_or ps number 0) listed) (c.name.ensures ∙ ap (λ (ns : List (List ℕ)). get_or ns number []) named)
          c.in_ok-list.ensures.hosts c.loop-number.invariant.below
          (subst (λ (hs : List ℕ). AddsFound c.args.wanted.now.keys c.name.result.now hs c.loop-number.found.keys c.add_found.new.found.keys) c.as_slice.ensures.value c.in_ok-add_found.ensures);
    }

pub returns-clause-found : goal.returns-clause-found
returns-clause-found c =
    let end : c.loop-number.number ≡ length c.places-place-items.result.now = omega (arith, c.loop-number-test.false, c.loop-number.auto.number-end) in
    let long : length c.places-place-items.result.now ≡ length (names_in c.args.services.now Service) =
    ap (λ (ps : List ℕ). length ps) (c.places-place-items.ensures.places ∙ ap (λ (o : ObjectsOf). objects_in o.blocks o.kind) c.objects-2.ensures)
    ∙ sym (c.names-names.ensures.long ∙ ap (λ (o : ObjectsOf). length (objects_in o.blocks o.kind)) c.objects.ensures)
    ∙ ap (λ (ns : List (List ℕ)). length ns) (c.names-names.ensures.names ∙ ap (λ (o : ObjectsOf). names_in o.blocks o.kind) c.objects.ensures) in
    subst (λ (bound : ℕ). AreFoundBelow c.args.services.now bound c.args.wanted.now.keys c.loop-number.found.keys) (end ∙ long) c.loop-number.invariant.below
