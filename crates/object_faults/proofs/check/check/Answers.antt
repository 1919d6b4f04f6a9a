use Rattle.std.proofs.Common.{Option, length, subst}
use Rattle.object_faults.specs.declared.first.Found.{Found}
use Rattle.object_faults.specs.Columns.{IsFirst, whole_at}
use Rattle.object_faults.proofs.TableLemmas.{free-none}
use Rattle.object_faults.proofs.check.check.Goals as goal

pub returns-in-None-clause-free : goal.returns-in-None-clause-free
returns-in-None-clause-free c =
    free-none c.args.templates.now
    (subst (λ (found : Option Found). IsFirst (length c.args.templates.now) (whole_at c.args.templates.now) found) c.in-None.is c.in_ok-first_fault.ensures)

pub refused-requires : goal.refused-requires
refused-requires c =
    subst (λ (found : Option Found). IsFirst (length c.args.templates.now) (whole_at c.args.templates.now) found) c.in-Some.is c.in_ok-first_fault.ensures
