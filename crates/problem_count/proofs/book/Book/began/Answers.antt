use Rattle.std.proofs.Common.{rules}
use Rattle.problem_count.proofs.book.Book.began.Goals as goal

pub returns-clause-value : goal.returns-clause-value
returns-clause-value c = search rules
