use Rattle.std.proofs.Common.{length}
use Rattle.object_faults.specs.declared.needs.Side.TheVariants.{Masters, Dependents}
use Rattle.object_faults.specs.Columns.{first_at, name_columns, side_at}
use Rattle.object_faults.proofs.FirstLemmas.{first-both}
use Rattle.object_faults.proofs.check.first_lacking.Goals as goal

pub returns : goal.returns
returns c =
    let blocks = c.args.templates.now in
    first-both (length blocks) (first_at blocks name_columns) _ c.in_ok-unnamed.unnamed _ _ c.earlier-2.ensures c.in_ok-unnamed.ensures
    (first-both (length blocks) (side_at blocks Masters) (side_at blocks Dependents) c.in_ok-masters.masters c.in_ok-dependents.dependents _ c.earlier.ensures c.in_ok-masters.ensures c.in_ok-dependents.ensures)
