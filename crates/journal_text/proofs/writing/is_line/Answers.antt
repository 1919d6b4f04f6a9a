use Rattle.std.proofs.Common.{sym, ◌∙◌, eq-eqb}
use Rattle.std.proofs.lemmas.Bool.{true≢false}
use Rattle.journal_text.proofs.WriteLaws.{none_found, none_there}
use Rattle.journal_text.proofs.writing.is_line.Goals as goal

pub returns-then-find_byte-line-clause-whole : goal.returns-then-find_byte-line-clause-whole
returns-then-find_byte-line-clause-whole c = λ _. none_found c.args.line.now c.find_byte.result c.find_byte.ensures.place c.if-find_byte-line.true

pub returns-else-find_byte-line-clause-none : goal.returns-else-find_byte-line-clause-none
returns-else-find_byte-line-clause-none c =
    λ other unbroken. absurd (true≢false (sym (eq-eqb _ _ (none_there c.args.line.now c.find_byte.result c.find_byte.ensures.place unbroken)) ∙ other))
