use Rattle.problem_count.proofs.FitLaws.{hard_fits_by}
use Rattle.problem_count.proofs.book.Book.hard.Goals as goal

pub returns-clause-fits : goal.returns-clause-fits
returns-clause-fits c = hard_fits_by c.args.choices c.args.state c.args.t c.args.self.now _ c.in_state.ensures
