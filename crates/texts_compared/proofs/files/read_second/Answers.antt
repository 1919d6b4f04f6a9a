use Rattle.std.proofs.Common.{sym, subst}
use Rattle.texts_compared.specs.declared.fault.CompareFault.{CompareFault}
use Rattle.texts_compared.specs.Files.{SecondFails}
use Rattle.texts_compared.proofs.FileLaws.{second_reads}
use Rattle.texts_compared.proofs.files.read_second.Goals as goal

pub returns-in-Err-clause-fault : goal.returns-in-Err-clause-fault
returns-in-Err-clause-fault g c =
    rw c.fault_of_second.ensures (second_reads c.args.choices g.S.Input.can_fail c.in-Err.fault (g.S.Read.remaining c.args.after) c.in-Err.ensures.fault)
