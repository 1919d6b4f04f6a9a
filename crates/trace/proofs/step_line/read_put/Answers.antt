use Rattle.trace.proofs.StepLineLaws.{put_parts, put_words}
use Rattle.trace.proofs.step_line.read_put.Goals as goal

pub returns-in_default-split_word-clause-none : goal.returns-in_default-split_word-clause-none
returns-in_default-split_word-clause-none c = λ decider lane spelled.
    c.in_default-split_word.ensures.none spelled.0 spelled.1 (put_parts c.args.config.now c.args.deciders decider lane c.args.line.now c.in-Some.words.now c.in-Some.ensures spelled)

pub returns-in_default-read_decider-clause-none : goal.returns-in_default-read_decider-clause-none
returns-in_default-read_decider-clause-none c = λ decider lane spelled.
    c.in_default-read_decider.ensures.none decider
    (put_words c.args.config.now c.args.deciders decider lane c.args.line.now c.in-Some.words.now c.in-Some-split_word.digits.now c.in-Some-split_word.name.now c.in-Some.ensures c.in-Some-split_word.ensures.some spelled).0

pub returns-in-None-clause-none : goal.returns-in-None-clause-none
returns-in-None-clause-none c = λ decider lane spelled.
    c.in-None.ensures.none lane
    (put_words c.args.config.now c.args.deciders decider lane c.args.line.now c.in-Some.words.now c.in-Some-split_word.digits.now c.in-Some-split_word.name.now c.in-Some.ensures c.in-Some-split_word.ensures.some spelled).1
