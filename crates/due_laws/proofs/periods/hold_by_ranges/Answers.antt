use Rattle.due_laws.proofs.PeriodLaws.{holds_by_ranges}
use Rattle.due_laws.proofs.periods.hold_by_ranges.Goals as goal

pub returns : goal.returns
returns x c zone p period t accepted at = holds_by_ranges c zone p period t accepted at
