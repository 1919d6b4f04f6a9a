use Rattle.std.proofs.Common.{rules}
use Rattle.notice_text.proofs.names.kind_name.Goals as goal

pub returns-in-Recovery : goal.returns-in-Recovery
returns-in-Recovery c = search rules
