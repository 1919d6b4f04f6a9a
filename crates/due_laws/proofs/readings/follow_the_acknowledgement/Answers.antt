use Rattle.due_laws.proofs.Acknowledgements.{acked_by_last}
use Rattle.due_laws.proofs.readings.follow_the_acknowledgement.Goals as goal

pub returns : goal.returns
returns x o feed = acked_by_last o feed
