use Rattle.std.proofs.Common.{rules, ◌≡◌, ◌≢◌, ◌||◌, ℕ, slice_get, Some, false}
use Rattle.delivery_worker.specs.declared.worker.Served.{Served}
use Rattle.undelivered.specs.declared.Why.TheVariants.{NoMemory}
use Rattle.engine_threads.proofs.JoinLaws.{neither_first}
use Rattle.engine_threads.proofs.RunLaws.{run_of}
use Rattle.engine_threads.proofs.run.end_of.Goals as goal

pub returns-clause-refused : goal.returns-clause-refused
returns-clause-refused g c = neither_first (c.args.driven.refused || c.args.driven.memory) c.any_refused.result

pub returns-clause-run : goal.returns-clause-run
returns-clause-run g c = λ config zone channels past told lanes log.
    let none : c.any_refused.result ≡ false → (l : ℕ) (s : Served) → slice_get c.args.driven.served.items l ≡ Some s → s.why ≢ NoMemory = search rules in
    run_of config zone channels past c.args.driven.refused c.args.driven.memory c.any_refused.result c.args.driven.served.items told c.args.driven.log.items none lanes log
