use Rattle.std.proofs.Common.{◌≡◌, ◌∙◌, ◌<◌, ◌&&◌, List, ap, arith, get_or, length, rules}
use Rattle.object_check.specs.Marks.{breaks_at}
use Rattle.object_check.specs.Rows.{Asked}
use Rattle.object_check.specs.declared.rows.Must.TheVariants as musts
use Rattle.object_check.proofs.MarkLemmas.{column-is, column-more, unfit-at}
use Rattle.object_check.proofs.marks.column_of_side.Goals as goal
use Rattle.object_faults.specs.claims.Faults.{lacks}
use Rattle.object_faults.specs.Needs.{NeedsOf}
use Rattle.object_reader.specs.declared.block.Block.{Block}

pub loop-place-init : goal.loop-place-init
loop-place-init c directive = search rules

pub returns : goal.returns
returns c directive =
    let row : Asked = record { kind = c.args.kind; must = musts.List c.args.side; directive = directive } in
    let long = ap (λ (list : List Block). length list) c.blocks-blocks.ensures.value in
    column-is c.args.templates.now row c.loop-place.column.items c.loop-place.place
    (omega (arith, long, c.loop-place-test.false, c.loop-place.auto.place-end)) (c.loop-place.invariant directive)

pub loop-place-preserved : goal.loop-place-preserved
loop-place-preserved c directive =
    let blocks = c.args.templates.now in
    let i = c.loop-place.place in
    let x = c.index-blocks-place.result in
    let row : Asked = record { kind = c.args.kind; must = musts.List c.args.side; directive = directive } in
    let long = ap (λ (list : List Block). length list) c.blocks-blocks.ensures.value in
    let within : i < length blocks = omega (arith, long, c.loop-place-test.true) in
    let is : x ≡ get_or blocks i x = c.index-blocks-place.is ∙ ap (λ (list : List Block). get_or list i x) c.blocks-blocks.ensures.value in
    column-more (breaks_at blocks row) c.loop-place.column.items c.push.new.self.items i c.lacks_if_asked-lacks.result (c.loop-place.invariant directive) (search rules)
    (unfit-at blocks c.args.registered.now row i x c.is_asked-asked.result c.lacks_if_asked-lacks.result c.requires.registered within is c.is_asked-asked.ensures
    (c.lacks_if_asked-lacks.ensures
    ∙ ap (λ (n : NeedsOf). c.is_asked-asked.result && lacks n.blocks i c.args.kind n.side) c.in_ok-needs.ensures))
