use Rattle.std.proofs.Common.{ap, sym, ◌∙◌}
use Rattle.std.specs.Option.{option_copied}
use Rattle.std.proofs.lemmas.List.{take_rest}
use Rattle.text_lines.specs.Text.{is_mark}
use Rattle.text_lines.proofs.Marks.{ends_with_mark, ends_without_mark}
use Rattle.text_lines.proofs.text.end_of_text.Goals as goal

pub returns-then-is_mark-clause-text : goal.returns-then-is_mark-clause-text
returns-then-is_mark-clause-text c =
    ends_with_mark (option_copied c.args.mark) c.args.bytes.now c.args.search c.requires.searched c.requires.all
    (ap (is_mark (option_copied c.args.mark)) (sym (take_rest c.args.bytes.now c.args.search.line_start)) ∙ sym c.is_mark.ensures ∙ c.if-is_mark.true)

pub returns-else-is_mark-clause-text : goal.returns-else-is_mark-clause-text
returns-else-is_mark-clause-text c =
    ends_without_mark (option_copied c.args.mark) c.args.bytes.now c.args.search c.requires.searched c.requires.all
    (ap (is_mark (option_copied c.args.mark)) (sym (take_rest c.args.bytes.now c.args.search.line_start)) ∙ sym c.is_mark.ensures ∙ c.if-is_mark.false)
