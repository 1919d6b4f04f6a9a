use Rattle.std.proofs.Common.{◌≡◌, ◌+◌, ◌<◌, ◌∙◌, List, ap, arith, get_or, length, map, refl, subst, ℕ}
use Rattle.std.proofs.lemmas.Option.{slice_get_read}
use Rattle.due_model.specs.claims.Limits.{max_objects}
use Rattle.object_reader.specs.declared.block.Block.{Block}
use Rattle.object_services.specs.Limits.{IsSoFar}
use Rattle.object_services.proofs.LimitLemmas.{all-few, all-listed, all-within, first-over, next-block}
use Rattle.object_services.proofs.LimitLaws.{within-nowhere}
use Rattle.object_services.proofs.services.ServiceHosts.new.Goals as goal

pub returns-then-total-gt-MAX_OBJECTS-clause-fault : goal.returns-then-total-gt-MAX_OBJECTS-clause-fault
returns-then-total-gt-MAX_OBJECTS-clause-fault c =
    let blocks = c.args.services.now in
    let i = c.loop-place.place in
    let x = c.block-item.result in
    let old = map (λ list. list.items) c.loop-place.lists.items in
    let new = map (λ list. list.items) c.note.new.lists.items in
    let long = ap (λ (list : List Block). length list) c.blocks-block-items.ensures in
    let within : i < length blocks = omega (arith, long, c.loop-place-test.true) in
    let is : x ≡ get_or blocks i x = c.block-item.is ∙ ap (λ (list : List Block). get_or list i x) c.blocks-block-items.ensures in
    let here = slice_get_read blocks (length blocks) i x refl within is in
    let over : max_objects < c.loop-place.count + c.own_count-own.result + c.in_ok-more.more = omega (arith, c.saturating_add-total.ensures, c.if-total-gt-MAX_OBJECTS.true) in
    first-over blocks i x old new c.loop-place.count (c.loop-place.count + c.own_count-own.result + c.in_ok-more.more) within here c.loop-place.invariant.far c.loop-place.invariant.low
    (next-block blocks i x old new c.loop-place.count c.own_count-own.result c.in_ok-more.more c.is_object.result c.is_object-service.result here
    c.is_object.ensures c.is_object-service.ensures c.own_count-own.ensures c.loop-place.invariant.far c.in_ok-more.ensures.noted)
    over

pub loop-place-preserved : goal.loop-place-preserved
loop-place-preserved c =
    let blocks = c.args.services.now in
    let i = c.loop-place.place in
    let x = c.block-item.result in
    let old = map (λ list. list.items) c.loop-place.lists.items in
    let new = map (λ list. list.items) c.note.new.lists.items in
    let long = ap (λ (list : List Block). length list) c.blocks-block-items.ensures in
    let within : i < length blocks = omega (arith, long, c.loop-place-test.true) in
    let is : x ≡ get_or blocks i x = c.block-item.is ∙ ap (λ (list : List Block). get_or list i x) c.blocks-block-items.ensures in
    let total : c.loop-place.count + c.own_count-own.result + c.in_ok-more.more ≡ c.saturating_add-total.result = omega (arith, c.saturating_add-total.ensures, c.if-total-gt-MAX_OBJECTS.false) in
    record {
      same = c.note.ensures.same ∙ c.loop-place.invariant.same;
      far = subst (λ (n : ℕ). IsSoFar blocks (i + 1) new n) total
          (next-block blocks i x old new c.loop-place.count c.own_count-own.result c.in_ok-more.more c.is_object.result c.is_object-service.result
          (slice_get_read blocks (length blocks) i x refl within is)
          c.is_object.ensures c.is_object-service.ensures c.own_count-own.ensures c.loop-place.invariant.far c.in_ok-more.ensures.noted);
      low = omega (arith, c.if-total-gt-MAX_OBJECTS.false);
    }

pub returns-clause-lists : goal.returns-clause-lists
returns-clause-lists c =
    let blocks = c.args.services.now in
    let long = ap (λ (list : List Block). length list) c.blocks-block-items.ensures in
    let end : c.loop-place.place ≡ length blocks = omega (arith, long, c.loop-place.auto.place-end, c.loop-place-test.false) in
    all-listed blocks c.loop-place.place (map (λ list. list.items) c.loop-place.lists.items) c.loop-place.count end c.loop-place.invariant.far

pub returns-clause-few : goal.returns-clause-few
returns-clause-few c =
    let blocks = c.args.services.now in
    let long = ap (λ (list : List Block). length list) c.blocks-block-items.ensures in
    let end : c.loop-place.place ≡ length blocks = omega (arith, long, c.loop-place.auto.place-end, c.loop-place-test.false) in
    all-few blocks c.loop-place.place (map (λ list. list.items) c.loop-place.lists.items) c.loop-place.count end c.loop-place.invariant.far c.loop-place.invariant.low

pub returns-clause-keeps : goal.returns-clause-keeps
returns-clause-keeps c =
    let blocks = c.args.services.now in
    let long = ap (λ (list : List Block). length list) c.blocks-block-items.ensures in
    let end : c.loop-place.place ≡ length blocks = omega (arith, long, c.loop-place.auto.place-end, c.loop-place-test.false) in
    all-within blocks c.loop-place.place (map (λ list. list.items) c.loop-place.lists.items) c.loop-place.count end c.loop-place.invariant.far c.loop-place.invariant.low

pub returns-clause-none : goal.returns-clause-none
returns-clause-none c = within-nowhere c.args.services.now (returns-clause-keeps c)
