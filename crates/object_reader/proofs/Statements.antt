-- The statements of joined lines, as they are written and as they are found.
use Rattle.std.proofs.Common.{◌≡◌, ℕ, ◌<◌, ◌⊎◌, inl, inr, List, [], ◌∷◌, Result, Ok, Err, length, refl, sym, ap, subst, ◌∙◌, arith}
use Rattle.object_reader.specs.declared.fault.LineFault.{LineFault}
use Rattle.object_reader.specs.declared.fault.ReadFault.{ReadFault}
use Rattle.object_reader.specs.declared.fault.ReadFault.TheVariants.{AtLine, NoMemory, TooLarge}
use Rattle.object_reader.specs.Lines.{lines_of}
use Rattle.object_reader.specs.claims.Joined.{JoinedLine}
use Rattle.object_reader.specs.Joined.{joined_from}
use Rattle.object_reader.specs.claims.Statements.{Statement}
use Rattle.object_reader.specs.Statements.{statement, before_others, said_before, statements_in, statements_of}
use Rattle.object_reader.specs.claims.Spelling.{Says}
use Rattle.object_reader.specs.Blocks.{FailsFirst, BreaksFirst}
use Rattle.object_reader.specs.claims.Grammar.{AreStatements, HasStatements}
use Rattle.object_reader.proofs.Lines.{lines_read, lines_are}
use Rattle.object_reader.proofs.Joining.{joined_read, joined_are}
use Rattle.object_reader.proofs.Comments.{statement_found, statement_written}

-- the loop over the lines, one line at a time

-- a line that says nothing is skipped
pub nothing_said : (n : ℕ) (bytes : List ℕ) (js : List JoinedLine) → statement bytes ≡ [] → statements_in ((record { line = n; text = Ok bytes }) ∷ js) ≡ statements_in js
unfolding statements_in
nothing_said n bytes js e = ap (λ s. before_others n s (statements_in js)) e

some_others : (n : ℕ) (text : List ℕ) (ss : List Statement) → 0 < length text → before_others n text ss ≡ (record { line = n; text = Ok text }) ∷ ss
some_others n [] ss some = absurd (omega arith)
some_others n (b ∷ bs) ss some = refl

-- a line that says something is the next statement
pub something_said : (n : ℕ) (bytes text : List ℕ) (js : List JoinedLine) → 0 < length text → statement bytes ≡ text
    → statements_in ((record { line = n; text = Ok bytes }) ∷ js) ≡ (record { line = n; text = Ok text }) ∷ statements_in js
unfolding statements_in
something_said n bytes text js some e = ap (λ s. before_others n s (statements_in js)) e ∙ some_others n text (statements_in js) some

-- a fault of the first line is that of the first statement
pub broken : (fault : ReadFault) (js : List JoinedLine) → BreaksFirst fault js → FailsFirst fault (statements_in js)
unfolding statements_in
broken (AtLine n f) [] h = absurd h
broken (AtLine n f) (j ∷ js) h = rw (h.1) (h.0, refl)
broken NoMemory js h = tt
broken TooLarge js h = absurd h

-- statements are written in one way

statements_read : (js : List JoinedLine) (ss : List Statement) → AreStatements js ss → statements_in js ≡ ss
unfolding statements_in
statements_read [] ss h = sym h
statements_read (j ∷ js) ss (inl (f, others, text, is, h)) =
    ap (λ t. said_before j.line t (statements_in js)) text
    ∙ ap (λ (x : List Statement). let s : Statement = record { line = j.line; text = Err f } in s ∷ x) (statements_read js others h) ∙ sym is
statements_read (j ∷ js) ss (inr (inl (bytes, text, says, h))) =
    ap (λ t. said_before j.line t (statements_in js)) text
    ∙ ap (λ s. before_others j.line s (statements_in js)) (statement_found bytes [] says) ∙ statements_read js ss h
statements_read (j ∷ js) ss (inr (inr (bytes, said, others, text, says, some, is, h))) =
    ap (λ t. said_before j.line t (statements_in js)) text
    ∙ ap (λ s. before_others j.line s (statements_in js)) (statement_found bytes said says)
    ∙ some_others j.line said (statements_in js) some
    ∙ ap (λ (x : List Statement). let s : Statement = record { line = j.line; text = Ok said } in s ∷ x) (statements_read js others h) ∙ sym is

-- and each line's are found

statements_are : (js : List JoinedLine) → AreStatements js (statements_in js)
unfolding statements_in
statements_are [] = refl
statements_are (j ∷ js) = by_text (statements_are js) j.text refl where
  by_text : AreStatements js (statements_in js) → (t : Result (List ℕ) LineFault) → j.text ≡ t → AreStatements (j ∷ js) (said_before j.line t (statements_in js))
  by_text others (Err f) e = inl (f, statements_in js, e, refl, others)
  by_text others (Ok bytes) e = by_said (statement bytes) refl where
    by_said : (s : List ℕ) → statement bytes ≡ s → AreStatements (j ∷ js) (before_others j.line s (statements_in js))
    by_said [] d = inr (inl (bytes, e, subst (Says bytes) d (statement_written bytes), others))
    by_said (b ∷ bs) d = inr (inr (bytes, b ∷ bs, statements_in js, e, subst (Says bytes) d (statement_written bytes), omega arith, refl, others))

-- the statements of a text
pub text_statements : (text : List ℕ) (ss : List Statement) → HasStatements text ss → statements_of text ≡ ss
text_statements text ss h =
    ap (λ ls. statements_in (joined_from 1 ls)) (lines_read text h.lines h.split) ∙ ap statements_in (joined_read 1 h.lines h.joined h.joins) ∙ statements_read h.joined ss h.says

pub has_statements : (text : List ℕ) → HasStatements text (statements_of text)
has_statements text = record {
  lines = lines_of text;
  joined = joined_from 1 (lines_of text);
  split = lines_are text;
  joins = joined_are 1 (lines_of text);
  says = statements_are (joined_from 1 (lines_of text));
}
