use Rattle.std.proofs.Common.{rules}
use Rattle.written.specs.WrittenLaws.{front_none}
use Rattle.report_telling.proofs.telling.write_before_wait.Goals as goal

pub returns-then-has_line-clause-front : goal.returns-then-has_line-clause-front
returns-then-has_line-clause-front g c = front_none _ _

pub returns-else-has_line-clause-all : goal.returns-else-has_line-clause-all
returns-else-has_line-clause-all g c = search rules

pub returns-else-has_line-clause-front : goal.returns-else-has_line-clause-front
returns-else-has_line-clause-front g c = search rules
