-- The first line of a text, by where its newline stands.
use Rattle.std.proofs.Common.{◌≡◌, ℕ, zero, suc, ◌<◌, Bool, true, false, not, eqb, ◌==◌, inl, inr, List, [], ◌∷◌, ◌++◌, length, get_or, take, drop, refl, sym, ap, ◌∙◌, arith, tests}
use Rattle.std.proofs.lemmas.Bool.{and_parts, and_from}
use Rattle.std.specs.List.{list_all}
use Rattle.object_reader.specs.claims.Lines.{Line, AreLines}
use Rattle.object_reader.specs.Lines.{onto_first_line, lines_of}

-- a byte that is no newline
lines_of-cons : (b : ℕ) (bs : List ℕ) → eqb b 10 ≡ false → lines_of (b ∷ bs) ≡ onto_first_line b (lines_of bs)
unfolding lines_of
lines_of-cons b bs e = rw e

-- a text up to its first newline, and the text after it
pub lines_of-ended : (text : List ℕ) (n : ℕ) → n < length text → ((k : ℕ) → k < n → eqb (get_or text k 0) 10 ≡ false) → eqb (get_or text n 0) 10 ≡ true
    → lines_of text ≡ (record { bytes = take n text; ended = true }) ∷ lines_of (drop (suc n) text)
unfolding lines_of
lines_of-ended [] n h before at = absurd (omega arith)
lines_of-ended (b ∷ bs) zero h before at = let e : eqb b 10 ≡ true = at in rw e
lines_of-ended (b ∷ bs) (suc n) h before at =
    lines_of-cons b bs (before 0 (omega arith)) ∙ ap (onto_first_line b) (lines_of-ended bs n (omega arith) (λ k below. before (suc k) (omega arith)) at)

-- a text without a newline
pub lines_of-open : (text : List ℕ) → 0 < length text → ((k : ℕ) → k < length text → eqb (get_or text k 0) 10 ≡ false)
    → lines_of text ≡ (record { bytes = text; ended = false }) ∷ []
unfolding lines_of
lines_of-open [] h none = absurd (omega arith)
lines_of-open (b ∷ []) h none = lines_of-cons b [] (none 0 (omega arith))
lines_of-open (b ∷ c ∷ bs) h none =
    lines_of-cons b (c ∷ bs) (none 0 (omega arith)) ∙ ap (onto_first_line b) (lines_of-open (c ∷ bs) (omega arith) (λ k below. none (suc k) (omega arith)))

-- the lines of a text, as they are written

no_newline : (b : ℕ) → not (b == 10) ≡ true → (b == 10) ≡ false
no_newline b h = none (b == 10) h where
  none : (t : Bool) → not t ≡ true → t ≡ false
  none true e = sym e
  none false e = refl

lines_of-line : (bytes rest : List ℕ) → list_all (λ b. not (b == 10)) bytes ≡ true → lines_of (bytes ++ 10 ∷ rest) ≡ (record { bytes = bytes; ended = true }) ∷ lines_of rest
unfolding lines_of
lines_of-line [] rest h = refl
lines_of-line (b ∷ bs) rest h =
    let parts = and_parts (not (b == 10)) (list_all (λ b. not (b == 10)) bs) h in
    lines_of-cons b (bs ++ 10 ∷ rest) (no_newline b parts.0) ∙ ap (onto_first_line b) (lines_of-line bs rest parts.1)

lines_of-last : (b : ℕ) (bs : List ℕ) → list_all (λ b. not (b == 10)) (b ∷ bs) ≡ true → lines_of (b ∷ bs) ≡ (record { bytes = b ∷ bs; ended = false }) ∷ []
unfolding lines_of
lines_of-last b [] h = lines_of-cons b [] (no_newline b (and_parts (not (b == 10)) true h).0)
lines_of-last b (c ∷ bs) h =
    let parts = and_parts (not (b == 10)) (list_all (λ b. not (b == 10)) (c ∷ bs)) h in
    lines_of-cons b (c ∷ bs) (no_newline b parts.0) ∙ ap (onto_first_line b) (lines_of-last c bs parts.1)

-- lines are written in one way
pub lines_read : (text : List ℕ) (ls : List Line) → AreLines text ls → lines_of text ≡ ls
unfolding lines_of
lines_read text [] h = ap lines_of h
lines_read text (l ∷ ls) (whole, inl (rest, ended, parts, others)) =
    ap lines_of parts ∙ lines_of-line l.bytes rest whole ∙ ap (λ (e : Bool). let line : Line = record { bytes = l.bytes; ended = e } in line ∷ lines_of rest) (sym ended)
    ∙ ap (λ more. l ∷ more) (lines_read rest ls others)
lines_read text (l ∷ ls) (whole, inr (open_end, some, parts, none)) =
    ap lines_of parts ∙ last l.bytes some whole ∙ ap (λ (e : Bool). let line : Line = record { bytes = l.bytes; ended = e } in line ∷ []) (sym open_end) ∙ ap (λ more. l ∷ more) (sym none) where
      last : (bytes : List ℕ) → 0 < length bytes → list_all (λ b. not (b == 10)) bytes ≡ true → lines_of bytes ≡ (record { bytes = bytes; ended = false }) ∷ []
      last [] some h = absurd (omega arith)
      last (b ∷ bs) some h = lines_of-last b bs h

-- and each text is its lines
before_line : (b : ℕ) (text : List ℕ) (ls : List Line) → (b == 10) ≡ false → AreLines text ls → AreLines (b ∷ text) (onto_first_line b ls)
before_line b text [] e h = let none : not (b == 10) ≡ true = rw e refl in (rw none refl, inr (refl, omega arith, ap (λ bs. b ∷ bs) h, refl))
before_line b text (l ∷ ls) e (whole, inl (rest, ended, parts, others)) =
    (and_from (not (b == 10)) (list_all (λ b. not (b == 10)) l.bytes) (rw e refl) whole, inl (rest, ended, ap (λ bs. b ∷ bs) parts, others))
before_line b text (l ∷ ls) e (whole, inr (open_end, some, parts, none)) =
    (and_from (not (b == 10)) (list_all (λ b. not (b == 10)) l.bytes) (rw e refl) whole, inr (open_end, omega arith, ap (λ bs. b ∷ bs) parts, none))

pub lines_are : (text : List ℕ) → AreLines text (lines_of text)
unfolding lines_of
lines_are [] = refl
lines_are (b ∷ bs) = at_head (lines_are bs) (b == 10) refl where
  at_head : AreLines bs (lines_of bs) → (t : Bool) → (b == 10) ≡ t → AreLines (b ∷ bs) (lines_of (b ∷ bs))
  at_head h true e = let ten : b ≡ 10 = grind (arith, tests) in rw e (refl, inl (bs, refl, ap (λ c. c ∷ bs) ten, h))
  at_head h false e = rw e (before_line b bs (lines_of bs) e h)
