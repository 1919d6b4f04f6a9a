use Rattle.std.proofs.Common.{rules}
use Rattle.notice_text.proofs.names.state_name.Goals as goal

pub returns-in-Down : goal.returns-in-Down
returns-in-Down c = search rules
