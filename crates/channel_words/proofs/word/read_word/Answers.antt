use Rattle.std.proofs.Common.{arith}
use Rattle.std.proofs.lemmas.Option.{IfSome_then}
use Rattle.channel_words.proofs.Parts.{first_parts, lacks_all}
use Rattle.channel_words.proofs.Options.{IfNone_then}
use Rattle.channel_words.proofs.WordLaws.{no_word, word_said, word_unsaid}
use Rattle.channel_words.proofs.word.read_word.Goals as goal

pub returns-in-Some-clause-some : goal.returns-in-Some-clause-some
returns-in-Some-clause-some c =
    let parts = first_parts 61 c.args.text.now c.in-Some.name.now c.in-Some.said.now c.in-Some.ensures.cases (omega arith) in
    IfSome_then c.word_of.result c.word_of.ensures.some (word_said c.args.text.now c.in-Some.name.now c.in-Some.said.now parts)

pub returns-in-Some-clause-none : goal.returns-in-Some-clause-none
returns-in-Some-clause-none c =
    let parts = first_parts 61 c.args.text.now c.in-Some.name.now c.in-Some.said.now c.in-Some.ensures.cases (omega arith) in
    IfNone_then c.word_of.result c.word_of.ensures.none (word_unsaid c.args.text.now c.in-Some.name.now c.in-Some.said.now parts)

pub returns-in-None-clause-none : goal.returns-in-None-clause-none
returns-in-None-clause-none c = λ word whole is. no_word c.args.text.now (lacks_all 61 c.args.text.now c.in-None.ensures.cases (omega arith)) word is
