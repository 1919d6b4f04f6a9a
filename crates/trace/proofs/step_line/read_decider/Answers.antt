use Rattle.std.proofs.Common.{arith}
use Rattle.std.proofs.lemmas.Grind.{common_steps}
use Rattle.trace.proofs.StepLineLaws.{number_read}
use Rattle.trace.proofs.step_line.read_decider.Goals as goal

pub returns-clause-some : goal.returns-clause-some
returns-clause-some c =
    let read = number_read _ _ c.in_ok-number.number c.in_ok-number.ensures in record {
      some = grind (arith, common_steps, c.if-is_empty.false);
      digits = grind (arith, common_steps, c.if-not-are_digits.false, c.are_digits.ensures);
      number = read.0;
      there = omega (arith, read.0, read.1, c.from.ensures);
    }
