use Rattle.journal_text.specs.Entries.{entry_said}
use Rattle.journal_text.proofs.WriteLaws.{reads_back, says_back}
use Rattle.journal_text.proofs.writing.says.Goals as goal

pub returns-then-is_line-clause-yes : goal.returns-then-is_line-clause-yes
returns-then-is_line-clause-yes c = λ is.
    reads_back (entry_said c.args.config.now c.args.lane) c.args.line.now c.args.entry (c.is_line.ensures.whole c.if-is_line.true)
    (c.is_line.ensures.short c.if-is_line.true) (c.is_said.ensures.yes is)

pub returns-then-is_line-clause-no : goal.returns-then-is_line-clause-no
returns-then-is_line-clause-no c = λ other back.
    c.is_said.ensures.no other (says_back (entry_said c.args.config.now c.args.lane) c.args.line.now c.args.entry back).1
