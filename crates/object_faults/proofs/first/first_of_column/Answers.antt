use Rattle.std.proofs.Common.{◌≡◌, ◌∙◌, ◌<◌, List, None, ap, arith, get_or, length, refl, subst, sym}
use Rattle.std.proofs.lemmas.Option.{slice_get_read}
use Rattle.object_reader.specs.declared.block.Block.{Block}
use Rattle.object_faults.specs.Columns.{fault_at}
use Rattle.object_faults.specs.Known.{AreKnown}
use Rattle.object_faults.proofs.FirstLemmas.{at-place, marked-at, none-more}
use Rattle.object_faults.proofs.first.first_of_column.Goals as goal

pub registered_fault-requires-clause-registered : goal.registered_fault-requires-clause-registered
registered_fault-requires-clause-registered c =
    let blocks = c.args.templates.now in
    let i = c.loop-place.place in
    let x = c.index-blocks-place.result in
    let long = ap (λ (list : List Block). length list) c.blocks-blocks.ensures.value in
    let within : i < length blocks = omega (arith, long, c.loop-place-test.true) in
    marked-at blocks c.args.registered.now i x c.requires within (c.index-blocks-place.is ∙ ap (λ (list : List Block). get_or list i x) c.blocks-blocks.ensures.value)

pub loop-place-preserved : goal.loop-place-preserved
loop-place-preserved c =
    let blocks = c.args.templates.now in
    let i = c.loop-place.place in
    let x = c.index-blocks-place.result in
    let same = ap (λ values. values.blocks) c.in_ok-values.ensures in
    let long = ap (λ (list : List Block). length list) c.blocks-blocks.ensures.value in
    let within : i < length blocks = omega (arith, long, c.loop-place-test.true) in
    let is : x ≡ get_or blocks i x = c.index-blocks-place.is ∙ ap (λ (list : List Block). get_or list i x) c.blocks-blocks.ensures.value in
    record {
      none =
          none-more (fault_at blocks c.args.column) i c.loop-place.invariant.none
          (at-place blocks c.in_ok-values.values.blocks c.args.column i x None (slice_get_read blocks (length blocks) i x refl within is)
          same (sym c.in-None.is ∙ c.in_ok-registered_fault.ensures.fault));
      known = subst (λ (all : List Block). AreKnown all c.args.column c.registered_fault.new.known) same c.in_ok-registered_fault.ensures.known;
    }
