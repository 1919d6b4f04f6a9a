use Rattle.journal_text.proofs.BackLaws.{each_back, first_line_back}
use Rattle.journal_text.proofs.laws.each_is_read_back.Goals as goal

pub returns-clause-entry : goal.returns-clause-entry
returns-clause-entry c = each_back

pub returns-clause-first : goal.returns-clause-first
returns-clause-first c = first_line_back
