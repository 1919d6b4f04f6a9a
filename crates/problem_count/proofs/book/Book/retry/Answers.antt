use Rattle.std.proofs.Common.{rules}
use Rattle.problem_count.proofs.book.Book.retry.Goals as goal

pub returns-in-Period : goal.returns-in-Period
returns-in-Period c = search rules
