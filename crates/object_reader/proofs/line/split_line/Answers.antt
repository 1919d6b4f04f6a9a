use Rattle.std.proofs.Common.{◌+◌, length, add-one, arith}
use Rattle.std.proofs.lemmas.Bool.{false_from_ne_true}
use Rattle.std.proofs.Math.Seq.{drop-length}
use Rattle.std.proofs.lemmas.List.{take_rest}
use Rattle.object_reader.specs.Lines.{lines_of}
use Rattle.object_reader.proofs.Lines.{lines_of-ended, lines_of-open}
use Rattle.object_reader.proofs.Utf8.{around_newline, empty_utf8}
use Rattle.object_reader.proofs.line.split_line.Goals as goal

pub returns-in-Some-clause-first : goal.returns-in-Some-clause-first
returns-in-Some-clause-first c =
    let text = c.args.text.now in
    let found = rw c.in-Some.is at c.first_newline-newline.ensures.place in
    rw (take_rest text (c.in-Some.at + 1), add-one) (lines_of-ended text c.in-Some.at found.0.high (λ k below. false_from_ne_true _ (found.0.before k (omega arith) below)) found.1)

pub returns-in-None-clause-first : goal.returns-in-None-clause-first
unfolding lines_of
returns-in-None-clause-first c =
    let text = c.args.text.now in
    let none = rw c.in-None.is at c.first_newline-newline.ensures.place in
    rw (take_rest text (length text), drop-length text) (lines_of-open text c.requires (λ k below. false_from_ne_true _ (none k (omega arith) below)))

pub returns-in-Some-clause-utf8 : goal.returns-in-Some-clause-utf8
returns-in-Some-clause-utf8 c =
    let text = c.args.text.now in
    let found = rw c.in-Some.is at c.first_newline-newline.ensures.place in
    rw (take_rest text (c.in-Some.at + 1)) (around_newline text c.in-Some.at found.0.high found.1)

pub returns-in-None-clause-utf8 : goal.returns-in-None-clause-utf8
returns-in-None-clause-utf8 c =
    let text = c.args.text.now in
    rw (take_rest text (length text), drop-length text) (λ whole. (whole, empty_utf8))
