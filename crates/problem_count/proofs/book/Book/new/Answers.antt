use Rattle.problem_count.proofs.FitLaws.{nothing_fits}
use Rattle.problem_count.proofs.book.Book.new.Goals as goal
use Rattle.std.proofs.Common.{rules}

pub returns-clause-fits : goal.returns-clause-fits
returns-clause-fits c = nothing_fits

pub returns-clause-values : goal.returns-clause-values
returns-clause-values c = search rules
