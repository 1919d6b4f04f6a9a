use Rattle.std.proofs.Common.{◌≡◌, ◌∙◌, ◌<◌, List, Some, None, ap, arith, get_or, length, refl, sym}
use Rattle.std.proofs.lemmas.Option.{slice_get_read}
use Rattle.object_reader.specs.declared.block.Block.{Block}
use Rattle.object_faults.specs.Columns.{side_at}
use Rattle.object_faults.proofs.FirstLemmas.{at-side, marked-at, none-more}
use Rattle.object_faults.proofs.first.first_of_side.Goals as goal

pub loop-place-init : goal.loop-place-init
loop-place-init c k low = absurd (omega (arith, low))

pub side_fault-requires : goal.side_fault-requires
side_fault-requires c =
    let blocks = c.args.templates.now in
    let i = c.loop-place.place in
    let x = c.block-item.result in
    let long = ap (λ (list : List Block). length list) c.blocks-block-items.ensures.value in
    let within : i < length blocks = omega (arith, long, c.loop-place-test.true) in
    marked-at blocks c.args.registered.now i x c.requires within (c.block-item.is ∙ ap (λ (list : List Block). get_or list i x) c.blocks-block-items.ensures.value)

pub returns-in-Some : goal.returns-in-Some
returns-in-Some c =
    let blocks = c.args.templates.now in
    let i = c.loop-place.place in
    let x = c.block-item.result in
    let long = ap (λ (list : List Block). length list) c.blocks-block-items.ensures.value in
    let within : i < length blocks = omega (arith, long, c.loop-place-test.true) in
    let is : x ≡ get_or blocks i x = c.block-item.is ∙ ap (λ (list : List Block). get_or list i x) c.blocks-block-items.ensures.value in (
      within,
      at-side blocks c.in_ok-needs.needs c.args.side i x (Some c.in-Some.fault) (slice_get_read blocks (length blocks) i x refl within is)
          c.in_ok-needs.ensures (sym c.in-Some.is ∙ c.side_fault.ensures),
      c.loop-place.invariant,
    )

pub loop-place-preserved : goal.loop-place-preserved
loop-place-preserved c =
    let blocks = c.args.templates.now in
    let i = c.loop-place.place in
    let x = c.block-item.result in
    let long = ap (λ (list : List Block). length list) c.blocks-block-items.ensures.value in
    let within : i < length blocks = omega (arith, long, c.loop-place-test.true) in
    let is : x ≡ get_or blocks i x = c.block-item.is ∙ ap (λ (list : List Block). get_or list i x) c.blocks-block-items.ensures.value in
    none-more (side_at blocks c.args.side) i c.loop-place.invariant
    (at-side blocks c.in_ok-needs.needs c.args.side i x None (slice_get_read blocks (length blocks) i x refl within is)
    c.in_ok-needs.ensures (sym c.in-None.is ∙ c.side_fault.ensures))

pub returns : goal.returns
returns c k low =
    let long = ap (λ (list : List Block). length list) c.blocks-block-items.ensures.value in
    c.loop-place.invariant k (omega (arith, low, long, c.loop-place-test.false))
