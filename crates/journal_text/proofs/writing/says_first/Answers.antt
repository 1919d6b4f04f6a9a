use Rattle.std.proofs.Common.{◌≡◌, Some, rules}
use Rattle.journal_text.specs.Entries.{first_said}
use Rattle.journal_text.proofs.WriteLaws.{reads_back}
use Rattle.journal_text.proofs.writing.says_first.Goals as goal

pub returns-then-is_line-clause-yes : goal.returns-then-is_line-clause-yes
returns-then-is_line-clause-yes c = λ is.
    let says : first_said c.args.config.now c.args.lane c.args.line.now ≡ Some c.args.from = search rules in
    reads_back (first_said c.args.config.now c.args.lane) c.args.line.now c.args.from (c.is_line.ensures.whole c.if-is_line.true) (c.is_line.ensures.short c.if-is_line.true) says
