use Rattle.std.proofs.Common.{rules}
use Rattle.notice_text.proofs.names.filter_name.Goals as goal

pub returns-in-Interval : goal.returns-in-Interval
returns-in-Interval c = search rules
