use Rattle.std.proofs.Common.{arith}
use Rattle.object_names.proofs.UnknownLemmas.{found-now}
use Rattle.object_names.proofs.unknown.is_unknown_once.Goals as goal

pub returns-then-origin-len-clause-found : goal.returns-then-origin-len-clause-found
returns-then-origin-len-clause-found c =
    found-now c.args.reading c.args.names.now c.args.values.now c.args.found.now.items c.origin-origin.result c.args.place c.in_ok-unknown.unknown
    c.origin-origin.ensures.same c.requires (omega (arith, c.if-origin-len.true, c.len.ensures, c.args.found.now.ok)) c.in_ok-unknown.ensures
