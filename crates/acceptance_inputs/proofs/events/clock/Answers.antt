use Rattle.acceptance_inputs.proofs.events.clock.Goals as goal

pub returns : goal.returns
returns c = c.at.ensures
