use Rattle.std.proofs.Common.{rules}
use Rattle.notice_text.proofs.texts.push_notice_number.Goals as goal

pub returns-then-number-eq0-clause-number : goal.returns-then-number-eq0-clause-number
returns-then-number-eq0-clause-number c = search rules
