use Rattle.std.proofs.Common.{List, Option, length, refl, subst, sym, take, take_all, ◌+◌}
use Rattle.object_faults.specs.declared.column.Column.{Column}
use Rattle.object_faults.specs.declared.first.Found.{Found}
use Rattle.object_faults.specs.Columns.{first_at, IsFirst}
use Rattle.object_faults.proofs.FirstLemmas.{one-column}
use Rattle.object_faults.proofs.first.first_of_columns.Goals as goal

pub loop-column-init : goal.loop-column-init
loop-column-init c = λ k low. refl

pub loop-column-preserved : goal.loop-column-preserved
loop-column-preserved c =
    let blocks = c.args.templates.now in
    let i = c.loop-column.column-index in
    subst (λ (found : Option Found). IsFirst (length blocks) (first_at blocks (take (i + 1) c.args.columns.now)) found) (sym c.earlier-first.ensures)
    (one-column blocks c.args.columns.now i _ c.loop-column.first c.in_ok-found.found c.loop-column-test.true c.loop-column.invariant c.in_ok-found.ensures)

pub returns : goal.returns
returns c =
    let blocks = c.args.templates.now in
    subst (λ (columns : List Column). IsFirst (length blocks) (first_at blocks columns) c.loop-column.first)
    (take_all c.loop-column.column-index c.args.columns.now c.loop-column-test.false) c.loop-column.invariant
