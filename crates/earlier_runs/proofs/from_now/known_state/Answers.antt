use Rattle.earlier_runs.proofs.from_now.known_state.Goals as goal

pub returns : goal.returns
returns g c = (c.in_ok-read.read, c.in_ok-read.ensures, c.in_ok-state.ensures)
