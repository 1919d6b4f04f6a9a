use Rattle.std.proofs.Common.{◌≡◌, ◌∙◌, ◌<◌, ◌&&◌, List, ap, arith, get_or, length, rules, subst, sym}
use Rattle.object_check.specs.Marks.{AreFound, breaks, breaks_at}
use Rattle.object_check.specs.Rows.{Asked}
use Rattle.object_check.proofs.MarkLemmas.{column-is, column-more, none-found, unfit-at}
use Rattle.object_check.proofs.marks.column_of_value.Goals as goal
use Rattle.object_inheritance.specs.Columns.{Column}
use Rattle.object_reader.specs.declared.block.Block.{Block}

pub loop-place-init : goal.loop-place-init
loop-place-init c = record {
  marked = search rules;
  found = none-found c.args.must (record { blocks = c.args.templates.now; directive = c.args.directive.now }) c.in_ok-found.found.items (length c.blocks-blocks.result.now) (c.in_ok-found.ensures.items_if_clones_equal (λ y is. search rules));
}

pub is_unfit_if_asked-requires-clause-objects : goal.is_unfit_if_asked-requires-clause-objects
is_unfit_if_asked-requires-clause-objects c = c.requires.objects ∙ sym (ap (λ (v : Column). v.blocks) c.in_ok-values.ensures)

pub is_unfit_if_asked-requires-clause-found : goal.is_unfit_if_asked-requires-clause-found
is_unfit_if_asked-requires-clause-found c =
    let are : c.in_ok-values.values ≡ record { blocks = c.args.templates.now; directive = c.args.directive.now } = search rules in
    subst (λ (v : Column). AreFound c.args.must v c.loop-place.found.items) (sym are) c.loop-place.invariant.found

pub loop-place-preserved : goal.loop-place-preserved
loop-place-preserved c =
    let blocks = c.args.templates.now in
    let i = c.loop-place.place in
    let x = c.index-blocks-place.result in
    let row : Asked = record { kind = c.args.kind; must = c.args.must; directive = c.args.directive.now } in
    let are : c.in_ok-values.values ≡ record { blocks = c.args.templates.now; directive = c.args.directive.now } = search rules in
    let long = ap (λ (list : List Block). length list) c.blocks-blocks.ensures.value in
    let within : i < length blocks = omega (arith, long, c.loop-place-test.true) in
    let is : x ≡ get_or blocks i x = c.index-blocks-place.is ∙ ap (λ (list : List Block). get_or list i x) c.blocks-blocks.ensures.value in
    record {
      marked = column-more (breaks_at blocks row) c.loop-place.column.items c.push.new.self.items i c.in_ok-unfit.unfit c.loop-place.invariant.marked (search rules)
          (unfit-at blocks c.args.registered.now row i x c.is_asked-asked.result c.in_ok-unfit.unfit c.requires.registered within is c.is_asked-asked.ensures
          (c.in_ok-unfit.ensures.unfit c.args.kind
          ∙ ap (λ (v : Column). c.is_asked-asked.result && breaks v.blocks i c.args.kind c.args.must v.directive) are));
      found = subst (λ (v : Column). AreFound c.args.must v c.is_unfit_if_asked.new.found.items) are c.in_ok-unfit.ensures.found;
    }

pub returns : goal.returns
returns c =
    let row : Asked = record { kind = c.args.kind; must = c.args.must; directive = c.args.directive.now } in
    let long = ap (λ (list : List Block). length list) c.blocks-blocks.ensures.value in
    column-is c.args.templates.now row c.loop-place.column.items c.loop-place.place
    (omega (arith, long, c.loop-place-test.false, c.loop-place.auto.place-end)) c.loop-place.invariant.marked
