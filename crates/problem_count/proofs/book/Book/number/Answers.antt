use Rattle.std.proofs.Common.{rules}
use Rattle.problem_count.proofs.book.Book.number.Goals as goal

pub returns-else-is_running-clause-value : goal.returns-else-is_running-clause-value
returns-else-is_running-clause-value c = search rules
