-- Joined lines, as they are written and as they are found.
use Rattle.std.proofs.Common.{◌≡◌, ℕ, ◌+◌, ◌-◌, ◌<◌, ◌≤◌, ◌⊎◌, inl, inr, Bool, true, false, not, ◌&&◌, ◌==◌, nat_lt, List, [], ◌∷◌, ◌++◌, Result, Ok, Err, length, take, get_or, refl, sym, ap, subst, ◌∙◌, arith, tests, append_assoc, length-append}
use Rattle.std.proofs.lemmas.Bool.{false_from_ne_true, cases_lt}
use Rattle.std.proofs.lemmas.List.{nil_from_length}
use Rattle.std.proofs.lemmas.Str.{IsUtf8-from_is_utf8, is_utf8-from_IsUtf8}
use Rattle.std.proofs.Math.Seq.{take-append_seam, get_or-append_seam}
use Rattle.std.specs.List.{before_first}
use Rattle.std.specs.Str.{is_utf8}
use Rattle.due_model.specs.claims.Limits.{line_limit}
use Rattle.object_reader.specs.declared.fault.LineFault.{LineFault}
use Rattle.object_reader.specs.declared.fault.LineFault.TheVariants.{NotUtf8, LineTooLong}
use Rattle.object_reader.specs.claims.Blanks.{is_blank, trim_start}
use Rattle.object_reader.specs.declared.fault.ReadFault.TheVariants.{AtLine}
use Rattle.object_reader.specs.Blocks.{BreaksFirst}
use Rattle.object_reader.specs.claims.Lines.{Line, content}
use Rattle.object_reader.specs.Lines.{lines_of, HasNoSemicolon}
use Rattle.object_reader.specs.claims.Joined.{JoinedLine, IsFaultOf, HasNoFault, EndsInBackslash, GoesOn, EndsHere, IsPutAfter, IsJoined, AreJoined, ends_in_backslash, without_last}
use Rattle.object_reader.specs.Joined.{Piece, piece_of, line_piece, put_after, onto_first, joined_with, joined_from}
use Rattle.object_reader.proofs.Escapes.{plain_taken}
use Rattle.object_reader.proofs.Trimming.{before_fails, blanks_from, blanks_trimmed, left_tight, trimmed_parts, trim_across}

-- the last byte

last_or_none : (bs : List ℕ) → (bs ≡ []) ⊎ ((front : List ℕ) × (last : ℕ) × (bs ≡ front ++ last ∷ []))
last_or_none [] = inl refl
last_or_none (b ∷ bs) = inr (more (last_or_none bs)) where
  more : (bs ≡ []) ⊎ ((front : List ℕ) × (last : ℕ) × (bs ≡ front ++ last ∷ [])) → (front : List ℕ) × (last : ℕ) × (b ∷ bs ≡ front ++ last ∷ [])
  more (inl none) = ([], b, ap (λ x. b ∷ x) none)
  more (inr (front, last, e)) = (b ∷ front, last, ap (λ x. b ∷ x) e)

one_less : (front : List ℕ) (last : ℕ) → length (front ++ last ∷ []) - 1 ≡ length front
one_less front last = omega (arith, length-append front (last ∷ []))

last_is : (front : List ℕ) (last : ℕ) → ends_in_backslash (front ++ last ∷ []) ≡ (last == 92)
last_is front last = ap (λ k. get_or (front ++ last ∷ []) k 0 == 92) (one_less front last) ∙ ap (λ x. x == 92) (get_or-append_seam front last [] 0)

front_is : (front : List ℕ) (last : ℕ) → without_last (front ++ last ∷ []) ≡ front
front_is front last = ap (λ k. take k (front ++ last ∷ [])) (one_less front last) ∙ take-append_seam front (last ∷ [])

pub backslash_found : (bs : List ℕ) → EndsInBackslash bs → ends_in_backslash bs ≡ true
backslash_found bs (front, e) = ap ends_in_backslash e ∙ last_is front 92

backslash_last : (bs : List ℕ) → ends_in_backslash bs ≡ true → bs ≡ without_last bs ++ 92 ∷ []
backslash_last bs h = by_last (last_or_none bs) where
  by_last : (bs ≡ []) ⊎ ((front : List ℕ) × (last : ℕ) × (bs ≡ front ++ last ∷ [])) → bs ≡ without_last bs ++ 92 ∷ []
  by_last (inl none) = let no : false ≡ true = sym (ap ends_in_backslash none) ∙ h in let never : ⊥ = cc in absurd never
  by_last (inr (front, last, e)) =
      let yes : (last == 92) ≡ true = sym (last_is front last) ∙ sym (ap ends_in_backslash e) ∙ h in
      let is : last ≡ 92 = grind (arith, tests) in
      e ∙ ap (λ x. front ++ x ∷ []) is ∙ ap (λ x. x ++ 92 ∷ []) (sym (ap without_last e ∙ front_is front last))

backslash_written : (bs : List ℕ) → ends_in_backslash bs ≡ true → EndsInBackslash bs
backslash_written bs h = (without_last bs, backslash_last bs h)

no_backslash : (bs : List ℕ) → ends_in_backslash bs ≡ false → EndsInBackslash bs → ⊥
no_backslash bs none h = let some = backslash_found bs h in cc

-- what a physical line gives

going_on : (bs piece : List ℕ) → GoesOn bs piece → piece_of bs ≡ record { bytes = piece; goes_on = true }
unfolding piece_of
going_on bs piece h =
    let yes : ends_in_backslash bs ≡ true = backslash_found bs (piece, h.0) in
    let front : without_last bs ≡ piece = ap without_last h.0 ∙ front_is piece 92 in
    let no : ends_in_backslash piece ≡ false = false_from_ne_true _ (λ t. h.1 (backslash_written piece t)) in
    rw (yes, front, no) refl

ending : (bs piece : List ℕ) → EndsHere bs piece → piece_of bs ≡ record { bytes = piece; goes_on = false }
unfolding piece_of
ending bs piece (inl (parts, two)) =
    let yes : ends_in_backslash bs ≡ true = backslash_found bs (piece, parts) in
    let front : without_last bs ≡ piece = ap without_last parts ∙ front_is piece 92 in
    let both : ends_in_backslash piece ≡ true = backslash_found piece two in
    rw (yes, front, both) refl
ending bs piece (inr (none, same)) =
    let no : ends_in_backslash bs ≡ false = false_from_ne_true _ (λ t. none (backslash_written bs t)) in
    rw no (ap (λ (x : List ℕ). let made : Piece = record { bytes = x; goes_on = false } in made) (sym same))

abbrev IsPieceOf : List ℕ → Piece → Type 0
IsPieceOf bs p = ((p.goes_on ≡ true) × GoesOn bs p.bytes) ⊎ ((p.goes_on ≡ false) × EndsHere bs p.bytes)

piece_written : (bs : List ℕ) → IsPieceOf bs (piece_of bs)
unfolding piece_of
piece_written bs = by_last (ends_in_backslash bs) refl where
  by_last : (t : Bool) → ends_in_backslash bs ≡ t → IsPieceOf bs (piece_of bs)
  by_last false e = rw e (inr (refl, inr (no_backslash bs e, refl)))
  by_last true e = by_second (ends_in_backslash (without_last bs)) refl where
    by_second : (t : Bool) → ends_in_backslash (without_last bs) ≡ t → IsPieceOf bs (piece_of bs)
    by_second true d = rw (e, d) (inr (refl, inl (backslash_last bs e, backslash_written (without_last bs) d)))
    by_second false d = rw (e, d) (inl (refl, (backslash_last bs e, no_backslash (without_last bs) d)))

faulty_piece : (l : Line) (f : LineFault) → IsFaultOf l f → line_piece l ≡ Err f
unfolding line_piece
faulty_piece l f (inl (long, is)) = let e : nat_lt line_limit (length l.bytes) ≡ true = search (arith, tests) in rw e (ap Err (sym is))
faulty_piece l f (inr (short, bad, is)) =
    let e : nat_lt line_limit (length l.bytes) ≡ false = search (arith, tests) in
    let u : is_utf8 l.bytes ≡ false = false_from_ne_true _ (λ t. bad (IsUtf8-from_is_utf8 l.bytes t)) in
    rw (e, u) (ap Err (sym is))

sound_piece : (l : Line) → HasNoFault l → line_piece l ≡ Ok (piece_of (content l))
unfolding line_piece
sound_piece l (short, text) =
    let e : nat_lt line_limit (length l.bytes) ≡ false = search (arith, tests) in
    let u : is_utf8 l.bytes ≡ true = is_utf8-from_IsUtf8 l.bytes text in
    rw (e, u) refl

abbrev FaultyOrNot : Line → Type 0
FaultyOrNot l = ((f : LineFault) × IsFaultOf l f) ⊎ HasNoFault l

faulty_or_not : (l : Line) → FaultyOrNot l
faulty_or_not l = by_length (cases_lt line_limit (length l.bytes)) where
  by_length : (line_limit < length l.bytes) ⊎ (length l.bytes ≤ line_limit) → FaultyOrNot l
  by_length (inl long) = inl (LineTooLong, inl (long, refl))
  by_length (inr short) = by_text (is_utf8 l.bytes) refl where
    by_text : (t : Bool) → is_utf8 l.bytes ≡ t → FaultyOrNot l
    by_text true e = inr (short, IsUtf8-from_is_utf8 l.bytes e)
    by_text false e = inl (NotUtf8, inr (short, λ h. let yes = is_utf8-from_IsUtf8 l.bytes h in let never : ⊥ = cc in never, refl))

-- what is put after a piece

put_found : (piece : List ℕ) (more text : Result (List ℕ) LineFault) → IsPutAfter piece more text → put_after piece more ≡ text
put_found piece (Ok more) text (blanks, left, parts, blank, tight, is) = ap (λ (x : List ℕ). Ok (piece ++ x)) (ap trim_start parts ∙ blanks_trimmed blanks left blank tight) ∙ sym is
put_found piece (Err f) text is = sym is

put_written : (piece : List ℕ) (more : Result (List ℕ) LineFault) → IsPutAfter piece more (put_after piece more)
put_written piece (Ok more) =
    (before_first (λ b. not (is_blank b)) more, trim_start more, trimmed_parts more, blanks_from (before_first (λ b. not (is_blank b)) more) (before_fails (λ b. not (is_blank b)) more), left_tight more, refl)
put_written piece (Err f) = refl

-- what is written is found

at_end : (n : ℕ) (piece : List ℕ) (rest : List Line) → rest ≡ [] → onto_first n piece (joined_from (n + 1) rest) ≡ (record { line = n; text = Ok piece }) ∷ joined_from (n + 1) rest
unfolding joined_from
at_end n piece [] e = refl
at_end n piece (l ∷ ls) e = let never : ⊥ = cc in absurd never

joined_first : (first rest : List Line) (n : ℕ) (text : Result (List ℕ) LineFault) → IsJoined first rest text
    → joined_from n (first ++ rest) ≡ (record { line = n; text = text }) ∷ joined_from (n + length first) rest
unfolding joined_from
joined_first [] rest n text h = absurd h
joined_first (l ∷ []) rest n text (inl (f, fault, is)) =
    ap (λ p. joined_with n p (joined_from (n + 1) rest)) (faulty_piece l f fault)
    ∙ ap (λ (t : Result (List ℕ) LineFault). let j : JoinedLine = record { line = n; text = t } in j ∷ joined_from (n + 1) rest) (sym is)
joined_first (l ∷ []) rest n text (inr (sound, (bytes, is, inl ends))) =
    ap (λ p. joined_with n p (joined_from (n + 1) rest)) (sound_piece l sound ∙ ap Ok (ending (content l) bytes ends))
    ∙ ap (λ (t : Result (List ℕ) LineFault). let j : JoinedLine = record { line = n; text = t } in j ∷ joined_from (n + 1) rest) (sym is)
joined_first (l ∷ []) rest n text (inr (sound, (bytes, is, inr (on, none)))) =
    ap (λ p. joined_with n p (joined_from (n + 1) rest)) (sound_piece l sound ∙ ap Ok (going_on (content l) bytes on))
    ∙ at_end n bytes rest none
    ∙ ap (λ (t : Result (List ℕ) LineFault). let j : JoinedLine = record { line = n; text = t } in j ∷ joined_from (n + 1) rest) (sym is)
joined_first (l ∷ m ∷ ls) rest n text (sound, (piece, more, on, others, after)) =
    let numbers : n + 1 + length (m ∷ ls) ≡ n + length (l ∷ m ∷ ls) = omega arith in
    ap (λ p. joined_with n p (joined_from (n + 1) ((m ∷ ls) ++ rest))) (sound_piece l sound ∙ ap Ok (going_on (content l) piece on))
    ∙ ap (onto_first n piece) (joined_first (m ∷ ls) rest (n + 1) more others)
    ∙ ap (λ (t : Result (List ℕ) LineFault). let j : JoinedLine = record { line = n; text = t } in j ∷ joined_from (n + 1 + length (m ∷ ls)) rest) (put_found piece more text after)
    ∙ ap (λ k. let j : JoinedLine = record { line = n; text = text } in j ∷ joined_from k rest) numbers

-- joined lines are written in one way
pub joined_read : (n : ℕ) (ls : List Line) (js : List JoinedLine) → AreJoined n ls js → joined_from n ls ≡ js
unfolding joined_from
joined_read n ls [] h = ap (joined_from n) h
joined_read n ls (j ∷ js) (first, rest, parts, line, is, others) =
    ap (joined_from n) parts
    ∙ joined_first first rest n j.text is
    ∙ ap (λ (k : ℕ). let made : JoinedLine = record { line = k; text = j.text } in made ∷ joined_from (n + length first) rest) (sym line)
    ∙ ap (λ x. j ∷ x) (joined_read (n + length first) rest js others)

-- and what is found is written so

continued : (n : ℕ) (l : Line) (ls : List Line) (piece : List ℕ) (js : List JoinedLine) → HasNoFault l → GoesOn (content l) piece → AreJoined (n + 1) ls js
    → AreJoined n (l ∷ ls) (onto_first n piece js)
continued n l ls piece [] sound on h = (l ∷ [], [], ap (λ x. l ∷ x) h, refl, inr (sound, (piece, refl, inr (on, refl))), refl)
continued n l ls piece (j ∷ js) sound on ([], rest, parts, line, is, others) = absurd is
continued n l ls piece (j ∷ js) sound on (m ∷ ms, rest, parts, line, is, others) =
    let numbers : n + 1 + length (m ∷ ms) ≡ n + length (l ∷ m ∷ ms) = omega arith in
    (l ∷ m ∷ ms, rest, ap (λ x. l ∷ x) parts, refl, (sound, (piece, j.text, on, is, put_written piece j.text)), subst (λ k. AreJoined k rest js) numbers others)

pub joined_step : (n : ℕ) (l : Line) (ls : List Line) (p : Result Piece LineFault) → line_piece l ≡ p → joined_from n (l ∷ ls) ≡ joined_with n p (joined_from (n + 1) ls)
unfolding joined_from
joined_step n l ls p e = ap (λ x. joined_with n x (joined_from (n + 1) ls)) e

pub joined_are : (n : ℕ) (ls : List Line) → AreJoined n ls (joined_from n ls)
unfolding joined_from
joined_are n [] = refl
joined_are n (l ∷ ls) = by_fault (joined_are (n + 1) ls) (faulty_or_not l) where
  by_fault : AreJoined (n + 1) ls (joined_from (n + 1) ls) → FaultyOrNot l → AreJoined n (l ∷ ls) (joined_from n (l ∷ ls))
  by_fault others (inl (f, fault)) =
      subst (AreJoined n (l ∷ ls)) (sym (joined_step n l ls (Err f) (faulty_piece l f fault))) (l ∷ [], ls, refl, refl, inl (f, fault, refl), others)
  by_fault others (inr sound) = by_piece (piece_of (content l)) (sound_piece l sound) (piece_written (content l)) where
    by_piece : (p : Piece) → line_piece l ≡ Ok p → IsPieceOf (content l) p → AreJoined n (l ∷ ls) (joined_from n (l ∷ ls))
    by_piece p e (inl (goes, on)) =
        let made : joined_from n (l ∷ ls) ≡ onto_first n p.bytes (joined_from (n + 1) ls) = joined_step n l ls (Ok p) e ∙ rw goes refl in
        subst (AreJoined n (l ∷ ls)) (sym made) (continued n l ls p.bytes (joined_from (n + 1) ls) sound on others)
    by_piece p e (inr (goes, ends)) =
        let made : joined_from n (l ∷ ls) ≡ (record { line = n; text = Ok p.bytes }) ∷ joined_from (n + 1) ls = joined_step n l ls (Ok p) e ∙ rw goes refl in
        subst (AreJoined n (l ∷ ls)) (sym made) (l ∷ [], ls, refl, refl, inr (sound, (p.bytes, refl, inl ends)), others)

-- the loop that joins: a piece more after what was joined so far

put_twice : (so_far piece : List ℕ) (more : Result (List ℕ) LineFault) → put_after so_far (put_after piece more) ≡ put_after (so_far ++ trim_start piece) more
put_twice so_far piece (Ok more) = ap (λ (x : List ℕ). Ok (so_far ++ x)) (trim_across piece more) ∙ ap Ok (sym (append_assoc so_far (trim_start piece) (trim_start more)))
put_twice so_far piece (Err f) = refl

pub one_more : (number n : ℕ) (so_far piece : List ℕ) (goes_on : Bool) (js : List JoinedLine)
    → onto_first number so_far (joined_with n (Ok (record { bytes = piece; goes_on = goes_on })) js)
    ≡ joined_with number (Ok (record { bytes = so_far ++ trim_start piece; goes_on = goes_on })) js
one_more number n so_far piece false js = refl
one_more number n so_far piece true [] = refl
one_more number n so_far piece true (j ∷ js) = ap (λ (t : Result (List ℕ) LineFault). let made : JoinedLine = record { line = number; text = t } in made ∷ js) (put_twice so_far piece j.text)

-- a joined line in the making: `whole` is it and the joined lines after it, of which so far these bytes were read, and
-- `rest` are the physical lines that are left
module _ (number n : ℕ) (so_far : List ℕ) (goes_on : Bool) (rest : List Line) (whole : List JoinedLine)
    (made : whole ≡ joined_with number (Ok (record { bytes = so_far; goes_on = goes_on })) (joined_from n rest)) where
  pub join_ends : (goes_on ≡ false) ⊎ (rest ≡ []) → whole ≡ (record { line = number; text = Ok so_far }) ∷ joined_from n rest
  unfolding joined_from
  join_ends (inl e) = made ∙ ap (λ g. joined_with number (Ok (record { bytes = so_far; goes_on = g })) (joined_from n rest)) e
  join_ends (inr e) = made ∙ at_last goes_on rest e where
    at_last : (g : Bool) (ls : List Line) → ls ≡ [] → joined_with number (Ok (record { bytes = so_far; goes_on = g })) (joined_from n ls) ≡ (record { line = number; text = Ok so_far }) ∷ joined_from n ls
    at_last false ls e = refl
    at_last true [] e = refl
    at_last true (l ∷ ls) e = let never : ⊥ = cc in absurd never

  module _ (goes : goes_on ≡ true) (l : Line) (ls : List Line) (next : rest ≡ l ∷ ls) where
    opened_so : (p : Result Piece LineFault) → line_piece l ≡ p → whole ≡ onto_first number so_far (joined_with n p (joined_from (n + 1) ls))
    opened_so p e =
        made ∙ ap (λ g. joined_with number (Ok (record { bytes = so_far; goes_on = g })) (joined_from n rest)) goes
        ∙ ap (λ x. onto_first number so_far (joined_from n x)) next ∙ ap (onto_first number so_far) (joined_step n l ls p e)

    pub join_breaks : (f : LineFault) → line_piece l ≡ Err f → BreaksFirst (AtLine number f) whole
    join_breaks f e = subst (BreaksFirst (AtLine number f)) (sym (opened_so (Err f) e)) (refl, refl)

    pub join_more : (piece : List ℕ) (more : Bool) → line_piece l ≡ Ok (record { bytes = piece; goes_on = more })
        → whole ≡ joined_with number (Ok (record { bytes = so_far ++ trim_start piece; goes_on = more })) (joined_from (n + 1) ls)
    join_more piece more e = opened_so (Ok (record { bytes = piece; goes_on = more })) e ∙ one_more number n so_far piece more (joined_from (n + 1) ls)

-- the first physical line of a joined line
module _ (n : ℕ) (rest : List Line) (whole : List JoinedLine) (is : whole ≡ joined_from n rest) (l : Line) (ls : List Line) (next : rest ≡ l ∷ ls) where
  pub begins : (p : Result Piece LineFault) → line_piece l ≡ p → whole ≡ joined_with n p (joined_from (n + 1) ls)
  begins p e = is ∙ ap (joined_from n) next ∙ joined_step n l ls p e

  pub begin_breaks : (f : LineFault) → line_piece l ≡ Err f → BreaksFirst (AtLine n f) whole
  begin_breaks f e = subst (BreaksFirst (AtLine n f)) (sym (begins (Err f) e)) (refl, refl)

  pub begin_goes_on : (piece : List ℕ) (goes_on : Bool) → line_piece l ≡ Ok (record { bytes = piece; goes_on = goes_on }) → goes_on ≡ true → whole ≡ onto_first n piece (joined_from (n + 1) ls)
  begin_goes_on piece goes_on e goes = begins (Ok (record { bytes = piece; goes_on = goes_on })) e ∙ rw goes refl

  pub begin_ends : (piece : List ℕ) (goes_on : Bool) → line_piece l ≡ Ok (record { bytes = piece; goes_on = goes_on }) → goes_on ≡ false → whole ≡ (record { line = n; text = Ok piece }) ∷ joined_from (n + 1) ls
  begin_ends piece goes_on e goes = begins (Ok (record { bytes = piece; goes_on = goes_on })) e ∙ rw goes refl

pub no_lines : (n : ℕ) (text : List ℕ) → length text ≡ 0 → joined_from n (lines_of text) ≡ []
unfolding joined_from lines_of
no_lines n text e = ap (λ t. joined_from n (lines_of t)) (nil_from_length text e)

pub no_lines_left : (text : List ℕ) → length text ≡ 0 → lines_of text ≡ []
unfolding lines_of
no_lines_left text e = ap lines_of (nil_from_length text e)

-- a piece has no semicolon where its line has none

content_plain : (l : Line) → HasNoSemicolon l.bytes → HasNoSemicolon (content l)
unfolding content
content_plain l h = by_test (l.ended && (get_or l.bytes (length l.bytes - 1) 0 == 13)) refl where
  by_test : (t : Bool) → (l.ended && (get_or l.bytes (length l.bytes - 1) 0 == 13)) ≡ t → HasNoSemicolon (content l)
  by_test true e = rw e (plain_taken (length l.bytes - 1) l.bytes h)
  by_test false e = rw e h

piece_plain : (bs : List ℕ) → HasNoSemicolon bs → HasNoSemicolon (piece_of bs).bytes
unfolding piece_of
piece_plain bs h = by_last (ends_in_backslash bs) refl where
  by_last : (t : Bool) → ends_in_backslash bs ≡ t → HasNoSemicolon (piece_of bs).bytes
  by_last true e = rw e (plain_taken (length bs - 1) bs h)
  by_last false e = rw e h

pub line_plain : (l : Line) (p : Piece) → line_piece l ≡ Ok p → HasNoSemicolon l.bytes → HasNoSemicolon p.bytes
line_plain l p e h = by_fault (faulty_or_not l) where
  by_fault : FaultyOrNot l → HasNoSemicolon p.bytes
  by_fault (inl (f, fault)) = let none : Err f ≡ Ok p = sym (faulty_piece l f fault) ∙ e in let never : ⊥ = cc in absurd never
  by_fault (inr sound) =
      let same : Ok (piece_of (content l)) ≡ Ok p = sym (sound_piece l sound) ∙ e in
      let is : piece_of (content l) ≡ p = cc in
      subst (λ (q : Piece). HasNoSemicolon q.bytes) is (piece_plain (content l) (content_plain l h))
