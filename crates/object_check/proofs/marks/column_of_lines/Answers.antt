use Rattle.std.proofs.Common.{◌≡◌, ◌∙◌, ◌<◌, List, ap, arith, get_or, length, rules}
use Rattle.object_check.specs.Marks.{breaks_at}
use Rattle.object_check.specs.Rows.{Asked}
use Rattle.object_check.proofs.MarkLemmas.{column-is, column-more, unfit-at}
use Rattle.object_check.proofs.marks.column_of_lines.Goals as goal
use Rattle.object_reader.specs.declared.block.Block.{Block}

pub loop-place-init : goal.loop-place-init
loop-place-init c = record {
  marked = λ directive. search rules;
  marks = c.in_ok-marks.ensures;
}

pub has_unfit_line_if_asked-requires-clause-within : goal.has_unfit_line_if_asked-requires-clause-within
has_unfit_line_if_asked-requires-clause-within c =
    let long = ap (λ (list : List Block). length list) c.blocks-blocks.ensures.value in
    omega (arith, long, c.loop-place-test.true)

pub loop-place-preserved : goal.loop-place-preserved
loop-place-preserved c =
    let blocks = c.args.templates.now in
    let i = c.loop-place.place in
    let x = c.index-blocks-place.result in
    let long = ap (λ (list : List Block). length list) c.blocks-blocks.ensures.value in
    let within : i < length blocks = omega (arith, long, c.loop-place-test.true) in
    let is : x ≡ get_or blocks i x = c.index-blocks-place.is ∙ ap (λ (list : List Block). get_or list i x) c.blocks-blocks.ensures.value in
    record {
      marked = λ directive.
          let row : Asked = record { kind = c.args.kind; must = c.args.must; directive = directive } in
          column-more (breaks_at blocks row) c.loop-place.column.items c.push.new.self.items i c.in_ok-unfit.unfit (c.loop-place.invariant.marked directive) (search rules)
          (unfit-at blocks c.args.registered.now row i x c.is_asked-asked.result c.in_ok-unfit.unfit c.requires.registered within is c.is_asked-asked.ensures
          (c.in_ok-unfit.ensures.unfit c.args.kind directive));
      marks = c.in_ok-unfit.ensures.marks;
    }

pub returns : goal.returns
returns c directive =
    let row : Asked = record { kind = c.args.kind; must = c.args.must; directive = directive } in
    let long = ap (λ (list : List Block). length list) c.blocks-blocks.ensures.value in
    column-is c.args.templates.now row c.loop-place.column.items c.loop-place.place
    (omega (arith, long, c.loop-place-test.false, c.loop-place.auto.place-end)) (c.loop-place.invariant.marked directive)
