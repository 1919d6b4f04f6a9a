use Rattle.std.proofs.Common.{arith}
use Rattle.text_lines.proofs.Pieces.{position-found, position-none}
use Rattle.text_lines.proofs.bytes.find_far.Goals as goal

pub returns-in-Some : goal.returns-in-Some
returns-in-Some c = let found = position-found c.args.byte c.args.bytes.now c.in-Some.place c.in-Some.ensures in record { place = found.0; within = found.1 }

pub returns-in-None : goal.returns-in-None
returns-in-None c = record { place = position-none c.args.byte c.args.bytes.now c.in-None.ensures; within = omega arith }
