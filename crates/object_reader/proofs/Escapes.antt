-- The first ; without a backslash before it, and ; for \;, as they are written and as they are found.
use Rattle.std.proofs.Common.{◌≡◌, ℕ, zero, suc, ◌+◌, ◌-◌, ◌<◌, ◌≤◌, ◌⊎◌, inl, inr, Bool, true, false, not, ◌&&◌, ◌==◌, List, [], ◌∷◌, ◌++◌, length, take, drop, get_or, refl, sym, ap, subst, ◌∙◌, arith, tests, add-one, append_assoc}
use Rattle.std.proofs.lemmas.Bool.{and_parts, and_from, false_from_ne_true, or_right}
use Rattle.std.proofs.lemmas.List.{take_more, append-nil, nil_from_length}
use Rattle.std.proofs.Math.Seq.{drop-cons, drop-length, take-length}
use Rattle.std.specs.List.{list_all}
use Rattle.memchr.specs.Find.{Passes, is_byte2}
use Rattle.object_reader.specs.claims.Blanks.{is_blank, AreBlanks, trim_start, trimmed}
use Rattle.object_reader.specs.Lines.{HasNoSemicolon}
use Rattle.object_reader.specs.claims.Joined.{EndsInBackslash}
use Rattle.object_reader.specs.Statements.{starts_semicolon, is_bare, bare_from, unescaped}
use Rattle.object_reader.specs.claims.DayLines.{separated}
use Rattle.object_reader.specs.claims.Spelling.{IsUnescaped}
use Rattle.object_reader.proofs.Trimming.{tail_is, not_mark}

-- the loops, one byte at a time

bare_past : (last b : ℕ) (bs : List ℕ) → is_bare last b ≡ false → bare_from last (b ∷ bs) ≡ b ∷ bare_from b bs
unfolding bare_from
bare_past last b bs e = rw e refl

bare_at : (last b : ℕ) (bs : List ℕ) → is_bare last b ≡ true → bare_from last (b ∷ bs) ≡ []
unfolding bare_from
bare_at last b bs e = rw e refl

pub drop_next : (bytes : List ℕ) (i : ℕ) → i < length bytes → drop i bytes ≡ get_or bytes i 0 ∷ drop (i + 1) bytes
drop_next bytes i lt = rw add-one (drop-cons bytes i 0 lt)

-- the bytes before a comment: at a byte that begins none, and at one that does
module _ (bytes : List ℕ) (i last : ℕ) (lt : i < length bytes) (so_far : bare_from 0 bytes ≡ take i bytes ++ bare_from last (drop i bytes)) where
  pub bare_more : is_bare last (get_or bytes i 0) ≡ false → bare_from 0 bytes ≡ take (i + 1) bytes ++ bare_from (get_or bytes i 0) (drop (i + 1) bytes)
  bare_more e =
      so_far ∙ ap (λ d. take i bytes ++ bare_from last d) (drop_next bytes i lt)
      ∙ ap (λ x. take i bytes ++ x) (bare_past last (get_or bytes i 0) (drop (i + 1) bytes) e)
      ∙ sym (append_assoc (take i bytes) (get_or bytes i 0 ∷ []) (bare_from (get_or bytes i 0) (drop (i + 1) bytes)))
      ∙ ap (λ x. x ++ bare_from (get_or bytes i 0) (drop (i + 1) bytes)) (sym (take_more bytes i 0 lt))

  pub bare_stop : is_bare last (get_or bytes i 0) ≡ true → bare_from 0 bytes ≡ take i bytes
  bare_stop e =
      so_far ∙ ap (λ d. take i bytes ++ bare_from last d) (drop_next bytes i lt)
      ∙ ap (λ x. take i bytes ++ x) (bare_at last (get_or bytes i 0) (drop (i + 1) bytes) e)
      ∙ append-nil (take i bytes)

pub bare_end : (bytes : List ℕ) (i last : ℕ) → i ≡ length bytes → bare_from 0 bytes ≡ take i bytes ++ bare_from last (drop i bytes) → bare_from 0 bytes ≡ bytes
unfolding bare_from
bare_end bytes i last e so_far =
    so_far ∙ ap (λ k. take k bytes ++ bare_from last (drop k bytes)) e ∙ ap (λ d. take (length bytes) bytes ++ bare_from last d) (drop-length bytes)
    ∙ append-nil (take (length bytes) bytes) ∙ take-length bytes

-- the byte of an escape goes, and others stay
escape_gone : (b : ℕ) (bs : List ℕ) → (b == 92) ≡ true → starts_semicolon bs ≡ true → unescaped (b ∷ bs) ≡ unescaped bs
unfolding unescaped
escape_gone b bs e s = rw (e, s) refl

byte_kept : (b : ℕ) (bs : List ℕ) → ((b == 92) && starts_semicolon bs) ≡ false → unescaped (b ∷ bs) ≡ b ∷ unescaped bs
unfolding unescaped
byte_kept b bs e = rw e refl

-- bytes without ;
pub unescaped_plain : (bs : List ℕ) → list_all (λ b. not (b == 59)) bs ≡ true → unescaped bs ≡ bs
unfolding unescaped
unescaped_plain [] h = refl
unescaped_plain (b ∷ bs) h =
    let parts = and_parts (not (b == 59)) (list_all (λ b. not (b == 59)) bs) h in
    byte_kept b bs (plain_next bs parts.1) ∙ ap (λ x. b ∷ x) (unescaped_plain bs parts.1) where
      by_mark : (t : Bool) → (t && false) ≡ false
      by_mark true = refl
      by_mark false = refl

      plain_next : (bs : List ℕ) → list_all (λ b. not (b == 59)) bs ≡ true → ((b == 92) && starts_semicolon bs) ≡ false
      plain_next [] h = by_mark (b == 92)
      plain_next (c ∷ cs) h =
          let none : (c == 59) ≡ false = not_mark (c == 59) (and_parts (not (c == 59)) (list_all (λ b. not (b == 59)) cs) h).0 in
          rw none (by_mark (b == 92))

-- each ; of the bytes has a backslash before it, where the byte before them all is `last`
abbrev pub covered : ℕ → List ℕ → Bool
covered last [] = true
covered last (b ∷ bs) = not (is_bare last b) && covered b bs

bare_all : (last : ℕ) (bs : List ℕ) → covered last bs ≡ true → bare_from last bs ≡ bs
unfolding bare_from
bare_all last [] h = refl
bare_all last (b ∷ bs) h =
    let parts = and_parts (not (is_bare last b)) (covered b bs) h in
    bare_past last b bs (not_mark (is_bare last b) parts.0) ∙ ap (λ x. b ∷ x) (bare_all b bs parts.1)

semicolon_bare : (last : ℕ) → (EndsInBackslash (last ∷ []) → ⊥) → is_bare last 59 ≡ true
semicolon_bare last none = by_last (last == 92) refl where
  by_last : (t : Bool) → (last == 92) ≡ t → is_bare last 59 ≡ true
  by_last true e = let is : last ≡ 92 = grind (arith, tests) in absurd (none ([], ap (λ x. x ∷ []) is))
  by_last false e = rw e refl

bare_comment : (last : ℕ) (bs others : List ℕ) → covered last bs ≡ true → (EndsInBackslash (last ∷ bs) → ⊥) → bare_from last (bs ++ 59 ∷ others) ≡ bs
bare_comment last [] others h none = bare_at last 59 others (semicolon_bare last none)
bare_comment last (b ∷ bs) others h none =
    let parts = and_parts (not (is_bare last b)) (covered b bs) h in
    bare_past last b (bs ++ 59 ∷ others) (not_mark (is_bare last b) parts.0)
    ∙ ap (λ x. b ∷ x) (bare_comment b bs others parts.1 (λ h. none (last ∷ h.0, ap (λ x. last ∷ x) h.1)))

after_zero : (bs : List ℕ) → (EndsInBackslash bs → ⊥) → EndsInBackslash (0 ∷ bs) → ⊥
after_zero bs none ([], e) = let first : 0 ≡ 92 = ap (λ (xs : List ℕ). get_or xs 0 7) e in omega (arith, first)
after_zero bs none (x ∷ front, e) = let same : bs ≡ front ++ 92 ∷ [] = cc in none (front, same)

-- what stands before a comment is found
pub bare_found : (kept dropped : List ℕ) → covered 0 kept ≡ true
    → (dropped ≡ []) ⊎ ((others : List ℕ) × (dropped ≡ 59 ∷ others) × (EndsInBackslash kept → ⊥)) → bare_from 0 (kept ++ dropped) ≡ kept
bare_found kept dropped h (inl none) = ap (λ d. bare_from 0 (kept ++ d)) none ∙ ap (bare_from 0) (append-nil kept) ∙ bare_all 0 kept h
bare_found kept dropped h (inr (others, e, open_end)) = ap (λ d. bare_from 0 (kept ++ d)) e ∙ bare_comment 0 kept others h (after_zero kept open_end)

-- each list is what stands before a comment, and the comment
pub record IsCut (last : ℕ) (bs : List ℕ) : Type 0 where
  pub dropped : List ℕ
  pub is : bs ≡ bare_from last bs ++ dropped
  pub cover : covered last (bare_from last bs) ≡ true
  pub comment : (dropped ≡ []) ⊎ ((others : List ℕ) × (dropped ≡ 59 ∷ others) × (EndsInBackslash (last ∷ bare_from last bs) → ⊥))

alone : (last : ℕ) → (last == 92) ≡ false → EndsInBackslash (last ∷ []) → ⊥
alone last e ([], is) = let same : last ≡ 92 = cc in let yes : (last == 92) ≡ true = grind (arith, tests) in cc
alone last e (x ∷ xs, is) = let none : [] ≡ xs ++ 92 ∷ [] = cc in longer xs none where
  longer : (xs : List ℕ) → [] ≡ xs ++ 92 ∷ [] → ⊥
  longer [] h = cc
  longer (y ∷ ys) h = cc

one_before : (last b : ℕ) (bs : List ℕ) → (EndsInBackslash (b ∷ bs) → ⊥) → EndsInBackslash (last ∷ b ∷ bs) → ⊥
one_before last b bs none ([], is) = let never : ⊥ = cc in never
one_before last b bs none (x ∷ xs, is) = let same : b ∷ bs ≡ xs ++ 92 ∷ [] = cc in none (xs, same)

pub cut : (last : ℕ) (bs : List ℕ) → IsCut last bs
unfolding bare_from
cut last [] = record { dropped = []; is = refl; cover = refl; comment = inl refl }
cut last (b ∷ bs) = by_bare (cut b bs) (is_bare last b) refl where
  more : (h : IsCut b bs) → (h.dropped ≡ []) ⊎ ((others : List ℕ) × (h.dropped ≡ 59 ∷ others) × (EndsInBackslash (b ∷ bare_from b bs) → ⊥))
      → (h.dropped ≡ []) ⊎ ((others : List ℕ) × (h.dropped ≡ 59 ∷ others) × (EndsInBackslash (last ∷ b ∷ bare_from b bs) → ⊥))
  more h (inl e) = inl e
  more h (inr (others, e, none)) = inr (others, e, one_before last b (bare_from b bs) none)

  by_bare : IsCut b bs → (t : Bool) → is_bare last b ≡ t → IsCut last (b ∷ bs)
  by_bare h true e =
      let parts = and_parts (b == 59) (not (last == 92)) e in
      let yes : (b == 59) ≡ true = parts.0 in
      let semicolon : b ≡ 59 = grind (arith, tests) in
      let none : bare_from last (b ∷ bs) ≡ [] = bare_at last b bs e in
      record {
        dropped = b ∷ bs;
        is = ap (λ x. x ++ b ∷ bs) (sym none);
        cover = ap (covered last) none;
        comment = inr (bs, ap (λ x. x ∷ bs) semicolon, subst (λ x. EndsInBackslash (last ∷ x) → ⊥) (sym none) (alone last (not_mark (last == 92) parts.1)));
      }
  by_bare h false e =
      let past : bare_from last (b ∷ bs) ≡ b ∷ bare_from b bs = bare_past last b bs e in
      record {
        dropped = h.dropped;
        is = ap (λ x. b ∷ x) h.is ∙ ap (λ x. x ++ h.dropped) (sym past);
        cover = ap (covered last) past ∙ and_from (not (is_bare last b)) (covered b (bare_from b bs)) (ap not e) h.cover;
        comment = subst (λ x. (h.dropped ≡ []) ⊎ ((others : List ℕ) × (h.dropped ≡ 59 ∷ others) × (EndsInBackslash (last ∷ x) → ⊥))) (sym past) (more h h.comment);
      }

-- ; for \;, as written

no_start : (b : ℕ) (bs : List ℕ) → list_all (λ b. not (b == 59)) bs ≡ true → (rest : List ℕ) → starts_semicolon (bs ++ 92 ∷ rest) ≡ false
no_start b [] h rest = refl
no_start b (c ∷ cs) h rest = not_mark (c == 59) (and_parts (not (c == 59)) (list_all (λ b. not (b == 59)) cs) h).0

and_false : (s t : Bool) → t ≡ false → (s && t) ≡ false
and_false true t e = e
and_false false t e = refl

meant_part : (p rest : List ℕ) → list_all (λ b. not (b == 59)) p ≡ true → unescaped (p ++ 92 ∷ 59 ∷ rest) ≡ p ++ 59 ∷ unescaped rest
meant_part [] rest h = escape_gone 92 (59 ∷ rest) refl refl ∙ byte_kept 59 rest refl
meant_part (b ∷ bs) rest h =
    let parts = and_parts (not (b == 59)) (list_all (λ b. not (b == 59)) bs) h in
    byte_kept b (bs ++ 92 ∷ 59 ∷ rest) (and_false (b == 92) _ (no_start b bs parts.1 (59 ∷ rest))) ∙ ap (λ x. b ∷ x) (meant_part bs rest parts.1)

abbrev plain_parts : List ℕ → List (List ℕ) → Bool
plain_parts first others = list_all (list_all (λ b. not (b == 59))) (first ∷ others)

meant_read : (first : List ℕ) (others : List (List ℕ)) → plain_parts first others ≡ true → unescaped (separated (92 ∷ 59 ∷ []) first others) ≡ separated (59 ∷ []) first others
meant_read first [] h = unescaped_plain first (and_parts (list_all (λ b. not (b == 59)) first) true h).0
meant_read first (p ∷ ps) h =
    let parts = and_parts (list_all (λ b. not (b == 59)) first) (plain_parts p ps) h in
    meant_part first (separated (92 ∷ 59 ∷ []) p ps) parts.0 ∙ ap (λ x. first ++ 59 ∷ x) (meant_read p ps parts.1)

pub meant_found : (core s : List ℕ) → IsUnescaped core s → unescaped core ≡ s
meant_found core s h = ap unescaped h.written ∙ meant_read h.first h.others h.no_semicolon ∙ sym h.meant

covered_part : (last : ℕ) (p rest : List ℕ) → list_all (λ b. not (b == 59)) p ≡ true → ((l : ℕ) → covered l rest ≡ true) → covered last (p ++ rest) ≡ true
covered_part last [] rest h k = k last
covered_part last (b ∷ bs) rest h k =
    let parts = and_parts (not (b == 59)) (list_all (λ b. not (b == 59)) bs) h in
    let none : (b == 59) ≡ false = not_mark (b == 59) parts.0 in
    and_from (not (is_bare last b)) (covered b (bs ++ rest)) (rw none refl) (covered_part b bs rest parts.1 k)

covered_parts : (first : List ℕ) (others : List (List ℕ)) (rest : List ℕ) → plain_parts first others ≡ true → ((l : ℕ) → covered l rest ≡ true)
    → (last : ℕ) → covered last (separated (92 ∷ 59 ∷ []) first others ++ rest) ≡ true
covered_parts first [] rest h k last = covered_part last first rest (and_parts (list_all (λ b. not (b == 59)) first) true h).0 k
covered_parts first (p ∷ ps) rest h k last =
    let parts = and_parts (list_all (λ b. not (b == 59)) first) (plain_parts p ps) h in
    ap (covered last) (append_assoc first (92 ∷ 59 ∷ separated (92 ∷ 59 ∷ []) p ps) rest)
    ∙ covered_part last first (92 ∷ 59 ∷ (separated (92 ∷ 59 ∷ []) p ps ++ rest)) parts.0 (λ l. covered_parts p ps rest parts.1 k 59)

blank_other : (b : ℕ) → is_blank b ≡ true → ((b == 59) ≡ false) × ((b == 92) ≡ false)
blank_other b h = by_space (b == 32) refl where
  by_space : (t : Bool) → (b == 32) ≡ t → ((b == 59) ≡ false) × ((b == 92) ≡ false)
  by_space true e = let is : b ≡ 32 = grind (arith, tests) in rw is (refl, refl)
  by_space false e = let tab : (b == 9) ≡ true = rw e at h in let is : b ≡ 9 = grind (arith, tests) in rw is (refl, refl)

blanks_plain : (bs : List ℕ) → AreBlanks bs → list_all (λ b. not (b == 59)) bs ≡ true
blanks_plain [] h = refl
blanks_plain (b ∷ bs) h =
    let parts = and_parts (is_blank b) (list_all is_blank bs) h in
    let none : (b == 59) ≡ false = (blank_other b parts.0).0 in
    and_from (not (b == 59)) (list_all (λ b. not (b == 59)) bs) (rw none refl) (blanks_plain bs parts.1)

pub covered_core : (before core after s : List ℕ) → AreBlanks before → AreBlanks after → IsUnescaped core s → covered 0 (before ++ (core ++ after)) ≡ true
covered_core before core after s b a h =
    let tail = λ (l : ℕ). ap (covered l) (sym (append-nil after)) ∙ covered_part l after [] (blanks_plain after a) (λ k. refl) in
    covered_part 0 before (core ++ after) (blanks_plain before b)
    (λ l. ap (λ x. covered l (x ++ after)) h.written ∙ covered_parts h.first h.others after h.no_semicolon tail l)

-- each text of which each ; has a backslash before it is written so

covered_starts : (last : ℕ) (bs : List ℕ) → covered last bs ≡ true → (last == 92) ≡ false → starts_semicolon bs ≡ false
covered_starts last [] h e = refl
covered_starts last (b ∷ bs) h e = by_byte (b == 59) refl where
  by_byte : (t : Bool) → (b == 59) ≡ t → (b == 59) ≡ false
  by_byte false d = d
  by_byte true d =
      let bare : is_bare last b ≡ true = rw (d, e) refl in
      let no : is_bare last b ≡ false = not_mark (is_bare last b) (and_parts (not (is_bare last b)) (covered b bs) h).0 in
      let never : ⊥ = cc in absurd never

separated_cons : (between : List ℕ) (b : ℕ) (first : List ℕ) (others : List (List ℕ)) → separated between (b ∷ first) others ≡ b ∷ separated between first others
separated_cons between b first [] = refl
separated_cons between b first (p ∷ ps) = refl

-- a byte more
kept_more : (b : ℕ) (bs : List ℕ) → (b == 59) ≡ false → ((b == 92) && starts_semicolon bs) ≡ false → IsUnescaped bs (unescaped bs) → IsUnescaped (b ∷ bs) (unescaped (b ∷ bs))
kept_more b bs plain kept h = record {
  first = b ∷ h.first;
  others = h.others;
  written = ap (λ x. b ∷ x) h.written ∙ sym (separated_cons (92 ∷ 59 ∷ []) b h.first h.others);
  meant = byte_kept b bs kept ∙ ap (λ x. b ∷ x) h.meant ∙ sym (separated_cons (59 ∷ []) b h.first h.others);
  no_semicolon =
      let parts = and_parts (list_all (λ b. not (b == 59)) h.first) (list_all (list_all (λ b. not (b == 59))) h.others) h.no_semicolon in
      and_from (list_all (λ b. not (b == 59)) (b ∷ h.first)) (list_all (list_all (λ b. not (b == 59))) h.others)
      (and_from (not (b == 59)) (list_all (λ b. not (b == 59)) h.first) (ap not plain) parts.0) parts.1;
}

-- an escape more
escape_more : (b c : ℕ) (cs : List ℕ) → b ≡ 92 → c ≡ 59 → IsUnescaped cs (unescaped cs) → IsUnescaped (b ∷ c ∷ cs) (unescaped (b ∷ c ∷ cs))
escape_more b c cs slash semicolon h = record {
  first = [];
  others = h.first ∷ h.others;
  written = ap (λ x. x ∷ c ∷ cs) slash ∙ ap (λ x. 92 ∷ x ∷ cs) semicolon ∙ ap (λ x. 92 ∷ 59 ∷ x) h.written;
  meant = ap (λ x. unescaped (x ∷ c ∷ cs)) slash ∙ ap (λ x. unescaped (92 ∷ x ∷ cs)) semicolon ∙ escape_gone 92 (59 ∷ cs) refl refl ∙ byte_kept 59 cs refl ∙ ap (λ x. 59 ∷ x) h.meant;
  no_semicolon = h.no_semicolon;
}

pub core_unescaped : (last : ℕ) (core : List ℕ) → covered last core ≡ true → starts_semicolon core ≡ false → IsUnescaped core (unescaped core)
unfolding unescaped
core_unescaped last [] h s = record { first = []; others = []; written = refl; meant = refl; no_semicolon = refl }
core_unescaped last (b ∷ []) h s =
    kept_more b [] s (and_false (b == 92) false refl) (record { first = []; others = []; written = refl; meant = refl; no_semicolon = refl })
core_unescaped last (b ∷ c ∷ cs) h s =
    let parts = and_parts (not (is_bare last b)) (covered b (c ∷ cs)) h in
    let second = and_parts (not (is_bare b c)) (covered c cs) parts.1 in
    by_semicolon second (core_unescaped b (c ∷ cs) parts.1) (core_unescaped c cs second.1) (c == 59) refl where
      by_semicolon : (not (is_bare b c) ≡ true) × (covered c cs ≡ true) → (starts_semicolon (c ∷ cs) ≡ false → IsUnescaped (c ∷ cs) (unescaped (c ∷ cs)))
          → (starts_semicolon cs ≡ false → IsUnescaped cs (unescaped cs)) → (t : Bool) → (c == 59) ≡ t → IsUnescaped (b ∷ c ∷ cs) (unescaped (b ∷ c ∷ cs))
      by_semicolon second one two false e = kept_more b (c ∷ cs) s (and_false (b == 92) (c == 59) e) (one e)
      by_semicolon second one two true e =
          let semicolon : c ≡ 59 = grind (arith, tests) in
          let no_slash : (c == 92) ≡ false = ap (λ x. x == 92) semicolon in
          escape_more b c cs (slash_before (b == 92) refl) semicolon (two (covered_starts c cs second.1 no_slash)) where
            slash_before : (t : Bool) → (b == 92) ≡ t → b ≡ 92
            slash_before true d = grind (arith, tests)
            slash_before false d =
                let bare : is_bare b c ≡ true = rw (e, d) refl in
                let no : is_bare b c ≡ false = not_mark (is_bare b c) second.0 in
                let never : ⊥ = cc in absurd never

-- bytes after blanks
pub covered_rest : (last : ℕ) (before rest : List ℕ) → covered last (before ++ rest) ≡ true → AreBlanks before → (last == 92) ≡ false → (l : ℕ) × (covered l rest ≡ true) × ((l == 92) ≡ false)
covered_rest last [] rest h b e = (last, h, e)
covered_rest last (x ∷ xs) rest h b e =
    let parts = and_parts (is_blank x) (list_all is_blank xs) b in
    covered_rest x xs rest (and_parts (not (is_bare last x)) (covered x (xs ++ rest)) h).1 parts.1 (blank_other x parts.0).1

pub covered_front : (last : ℕ) (front after : List ℕ) → covered last (front ++ after) ≡ true → covered last front ≡ true
covered_front last [] after h = refl
covered_front last (x ∷ xs) after h =
    let parts = and_parts (not (is_bare last x)) (covered x (xs ++ after)) h in
    and_from (not (is_bare last x)) (covered x xs) parts.0 (covered_front x xs after parts.1)

pub kept_unescaped : (before core after : List ℕ) → covered 0 (before ++ (core ++ after)) ≡ true → AreBlanks before → IsUnescaped core (unescaped core)
kept_unescaped before core after h b =
    let rest = covered_rest 0 before (core ++ after) h b refl in
    let cover = covered_front rest.0 core after rest.1 in
    core_unescaped rest.0 core cover (covered_starts rest.0 core cover rest.2)

-- what the code tells of a byte
pub bare_is : (last b : ℕ) → b ≡ 59 → (last ≡ 92 → ⊥) → is_bare last b ≡ true
bare_is last b e none = by_last (last == 92) refl where
  by_last : (t : Bool) → (last == 92) ≡ t → is_bare last b ≡ true
  by_last true d = let is : last ≡ 92 = grind (arith, tests) in absurd (none is)
  by_last false d = rw (e, d) refl

pub covered_is : (last b : ℕ) → last ≡ 92 → is_bare last b ≡ false
covered_is last b e = ap (λ x. is_bare x b) e ∙ and_false (b == 59) false refl

pub other_is : (last b : ℕ) → (b ≡ 59 → ⊥) → is_bare last b ≡ false
other_is last b none = by_byte (b == 59) refl where
  by_byte : (t : Bool) → (b == 59) ≡ t → is_bare last b ≡ false
  by_byte true d = let is : b ≡ 59 = grind (arith, tests) in absurd (none is)
  by_byte false d = rw d refl

-- the loop over escapes
module _ (whole so_far left : List ℕ) (some : 0 < length left) (done : unescaped whole ≡ so_far ++ unescaped left) where
  pub escape_dropped : ((get_or left 0 0 == 92) && starts_semicolon (take (length left - 1) (drop 1 left))) ≡ true → unescaped whole ≡ so_far ++ unescaped (take (length left - 1) (drop 1 left))
  escape_dropped e =
      let parts = and_parts (get_or left 0 0 == 92) (starts_semicolon (take (length left - 1) (drop 1 left))) e in
      done ∙ ap (λ x. so_far ++ x) (ap unescaped (tail_is left some) ∙ escape_gone (get_or left 0 0) (take (length left - 1) (drop 1 left)) parts.0 parts.1)

  pub byte_pushed : ((get_or left 0 0 == 92) && starts_semicolon (take (length left - 1) (drop 1 left))) ≡ false
      → unescaped whole ≡ (so_far ++ get_or left 0 0 ∷ []) ++ unescaped (take (length left - 1) (drop 1 left))
  byte_pushed e =
      done ∙ ap (λ x. so_far ++ x) (ap unescaped (tail_is left some) ∙ byte_kept (get_or left 0 0) (take (length left - 1) (drop 1 left)) e)
      ∙ sym (append_assoc so_far (get_or left 0 0 ∷ []) (unescaped (take (length left - 1) (drop 1 left))))

pub all_unescaped : (whole so_far left : List ℕ) → unescaped whole ≡ so_far ++ unescaped left → length left ≡ 0 → unescaped whole ≡ so_far
unfolding unescaped
all_unescaped whole so_far left done e = done ∙ ap (λ x. so_far ++ unescaped x) (nil_from_length left e) ∙ append-nil so_far

-- bytes without ;

pub plain_taken : (n : ℕ) (bs : List ℕ) → HasNoSemicolon bs → HasNoSemicolon (take n bs)
plain_taken zero bs h = refl
plain_taken (suc n) [] h = refl
plain_taken (suc n) (b ∷ bs) h =
    let parts = and_parts (not (b == 59)) (list_all (λ b. not (b == 59)) bs) h in
    and_from (not (b == 59)) (list_all (λ b. not (b == 59)) (take n bs)) parts.0 (plain_taken n bs parts.1)

plain_dropped : (n : ℕ) (bs : List ℕ) → HasNoSemicolon bs → HasNoSemicolon (drop n bs)
plain_dropped zero bs h = h
plain_dropped (suc n) [] h = refl
plain_dropped (suc n) (b ∷ bs) h = plain_dropped n bs (and_parts (not (b == 59)) (list_all (λ b. not (b == 59)) bs) h).1

-- they have no comment and no escape
pub plain_meant : (bs : List ℕ) → HasNoSemicolon bs → unescaped (trimmed (bare_from 0 bs)) ≡ trimmed bs
plain_meant bs h =
    let bare : bare_from 0 bs ≡ bs = bare_all 0 bs (ap (covered 0) (sym (append-nil bs)) ∙ covered_part 0 bs [] h (λ l. refl)) in
    ap (λ x. unescaped (trimmed x)) bare ∙ unescaped_plain (trimmed bs) (plain_taken _ (trim_start bs) (plain_dropped _ bs h))

-- none of the first bytes of a text is one
pub plain_front : (n : ℕ) (text : List ℕ) → n ≤ length text → ((k : ℕ) → k < n → (get_or text k 0 == 59) ≡ false) → HasNoSemicolon (take n text)
plain_front zero text within none = refl
plain_front (suc n) [] within none = refl
plain_front (suc n) (b ∷ bs) within none =
    and_from (not (b == 59)) (list_all (λ b. not (b == 59)) (take n bs)) (ap not (none 0 (omega arith))) (plain_front n bs (omega arith) (λ k below. none (suc k) (omega arith)))

-- a search for newlines and semicolons told of none

pub none_seen : (text : List ℕ) (n : ℕ) → n ≤ length text → ((k : ℕ) → 0 ≤ k → k < n → Passes (is_byte2 10 59) text k → ⊥) → HasNoSemicolon (take n text)
none_seen text n within none = plain_front n text within (λ k below. false_from_ne_true _ (λ e. none k (omega arith) below (or_right (get_or text k 0 == 10) _ e)))
