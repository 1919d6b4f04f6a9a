use Rattle.std.proofs.Common.{arith}
use Rattle.object_check.proofs.MarkLemmas.{found-now}
use Rattle.object_check.proofs.asked.is_unfit_once.Goals as goal

pub returns-then-origin-len-clause-found : goal.returns-then-origin-len-clause-found
returns-then-origin-len-clause-found c =
    found-now c.args.must c.args.values.now c.args.found.now.items c.origin-origin.result c.args.place c.in_ok-unfit.unfit c.requires.of_value
    c.origin-origin.ensures.same c.requires.found (omega (arith, c.if-origin-len.true, c.len.ensures, c.args.found.now.ok)) c.in_ok-unfit.ensures
