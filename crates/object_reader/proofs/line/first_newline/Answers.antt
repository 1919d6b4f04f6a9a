use Rattle.std.proofs.Common.{length, arith}
use Rattle.object_reader.proofs.Escapes.{none_seen}
use Rattle.object_reader.proofs.line.first_newline.Goals as goal

pub returns-in-None-clause-plain : goal.returns-in-None-clause-plain
returns-in-None-clause-plain c = λ seen. none_seen c.args.text.now (length c.args.text.now) (omega arith) c.in-None.ensures

pub returns-in-Some-clause-plain : goal.returns-in-Some-clause-plain
returns-in-Some-clause-plain c = λ seen. none_seen c.args.text.now c.in-Some.at (omega (arith, c.in-Some.ensures.0.high)) c.in-Some.ensures.0.before
