use Rattle.std.proofs.Common.{[], rules}
use Rattle.object_warnings.proofs.HourLemmas.{rows-more, rows-none}
use Rattle.object_warnings.proofs.week.first_rows.Goals as goal

pub returns-clause-rows : goal.returns-clause-rows
returns-clause-rows c config are =
    rows-more (λ r. r.items) config 0 [] c.push.new.self.items c.in_ok-row.row (rows-none config) (search rules) (c.in_ok-row.ensures config are)
