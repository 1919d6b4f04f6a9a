use Rattle.due_laws.proofs.DependencyLaws.{fails_by_chains}
use Rattle.due_laws.proofs.dependencies.fail_by_chains.Goals as goal

pub returns : goal.returns
returns x c zone states t o = fails_by_chains c zone states t o
