use Rattle.std.proofs.Common.{Option, length, subst, sym}
use Rattle.object_faults.specs.Columns.{any_at, date_at, IsFirst, whole_at}
use Rattle.object_faults.specs.declared.first.Found.{Found}
use Rattle.object_faults.proofs.RankLemmas.{first-lower}
use Rattle.object_faults.proofs.check.first_fault.Goals as goal

pub returns : goal.returns
returns c =
    let blocks = c.args.templates.now in
    subst (λ (found : Option Found). IsFirst (length blocks) (whole_at blocks) found) (sym c.lower.ensures)
    (first-lower (length blocks) (any_at blocks) (date_at blocks) c.in_ok-plain.plain c.in_ok-dated.dated c.in_ok-plain.ensures c.in_ok-dated.ensures)
