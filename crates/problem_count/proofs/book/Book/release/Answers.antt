use Rattle.problem_count.proofs.FitLaws.{release_fits_by}
use Rattle.problem_count.proofs.book.Book.release.Goals as goal
use Rattle.std.proofs.Common.{rules}

pub returns-clause-values : goal.returns-clause-values
returns-clause-values c = search rules

pub returns-clause-fits : goal.returns-clause-fits
returns-clause-fits c = release_fits_by c.args.t c.args.self.now _ (returns-clause-values c)
