use Rattle.std.proofs.Common.{◌<◌, ◌∙◌, arith, length, sym}
use Rattle.trace.proofs.StepLineLaws.{split_none, split_some}
use Rattle.trace.proofs.step_line.split_word.Goals as goal

pub returns-then-blank-words-clause-none : goal.returns-then-blank-words-clause-none
returns-then-blank-words-clause-none c = split_none c.args.words.now (sym c.if-blank-words.true ∙ c.find_byte-blank.ensures.place)

pub returns-else-blank-words-clause-some : goal.returns-else-blank-words-clause-some
returns-else-blank-words-clause-some c =
    let inside : c.find_byte-blank.result < length c.args.words.now = omega (arith, c.find_byte-blank.ensures.within, c.if-blank-words.false) in
    split_some c.args.words.now c.find_byte-blank.result c.find_byte-blank.ensures.place inside
