-- The names and values of directives are UTF-8.
use Rattle.std.proofs.Common.{◌≡◌, ℕ, zero, suc, ◌+◌, ◌-◌, ◌<◌, ◌⊎◌, inl, inr, Bool, true, false, not, ◌&&◌, ◌==◌, List, [], ◌∷◌, ◌++◌, Result, Ok, Err, length, take, get_or, filter, refl, sym, ap, subst, ◌∙◌, arith, tests, append_assoc, length-append, IfOk, lit<}
use Rattle.std.proofs.lemmas.Bool.{and_parts}
use Rattle.std.proofs.lemmas.List.{append-nil}
use Rattle.std.proofs.lemmas.List.Elements.{All-nil, All-cons}
use Rattle.std.proofs.lemmas.Str.{IsUtf8-take, IsUtf8-drop, IsUtf8-nil, IsUtf8-append, IsUtf8-from_ascii, IsCharBoundary-before_ascii, IsCharBoundary-after_ascii}
use Rattle.std.proofs.Math.Seq.{drop-append_seam, take-append_seam, get_or-append_seam}
use Rattle.std.specs.List.{list_all, All, AllByRecursion}
use Rattle.std.specs.Str.{IsUtf8, IsCharBoundary}
use Rattle.object_reader.specs.declared.block.BlockKind.{BlockKind}
use Rattle.object_reader.specs.declared.block.Directive.{Directive}
use Rattle.object_reader.specs.declared.block.Block.{Block}
use Rattle.object_reader.specs.declared.fault.LineFault.{LineFault}
use Rattle.object_reader.specs.declared.fault.ReadFault.{ReadFault}
use Rattle.object_reader.specs.Blocks.{Gives, read_text}
use Rattle.object_reader.specs.claims.Blanks.{is_blank, AreBlanks, BeginsTight, IsTight}
use Rattle.object_reader.specs.claims.Lines.{Line, content}
use Rattle.object_reader.specs.claims.Joined.{JoinedLine, EndsInBackslash, EndsHere, GoesOn, IsPutAfter, IsJoined, AreJoined}
use Rattle.object_reader.specs.claims.Statements.{Statement}
use Rattle.object_reader.specs.claims.DayLines.{separated, AreWords, without_blanks, HasTimes, HasNoTimes, IsDayLine}
use Rattle.object_reader.specs.claims.Spelling.{IsUnescaped, IsKept, Says, IsNameAndValue, IsSpelled}
use Rattle.object_reader.specs.claims.Grammar.{AreStatements, IsDirective, AreDirectives, AreBlocks, IsObjectText}
use Rattle.object_reader.specs.Grammar.{IsPlain, ArePlain}
use Rattle.object_reader.proofs.FirstWord.{blanks_begin}
use Rattle.object_reader.proofs.Grammar.{answered_blocks}

-- a text may be cut before a byte below 128

seam : (xs : List ℕ) (y : ℕ) (ys : List ℕ) → y < 128 → IsCharBoundary (xs ++ y ∷ ys) (length xs)
seam xs y ys ascii =
    let within : length xs < length (xs ++ y ∷ ys) = omega (arith, length-append xs (y ∷ ys)) in
    let at : get_or (xs ++ y ∷ ys) (length xs) 0 < 128 = omega (arith, get_or-append_seam xs y ys 0) in
    IsCharBoundary-before_ascii (xs ++ y ∷ ys) (length xs) within at

front_utf8 : (xs : List ℕ) (y : ℕ) (ys : List ℕ) → y < 128 → IsUtf8 (xs ++ y ∷ ys) → IsUtf8 xs
front_utf8 xs y ys ascii text = subst (λ t. IsUtf8 t) (take-append_seam xs (y ∷ ys)) (IsUtf8-take (xs ++ y ∷ ys) (length xs) text (seam xs y ys ascii))

rest_utf8 : (xs : List ℕ) (y : ℕ) (ys : List ℕ) → y < 128 → IsUtf8 (xs ++ y ∷ ys) → IsUtf8 (y ∷ ys)
rest_utf8 xs y ys ascii text = subst (λ t. IsUtf8 t) (drop-append_seam xs (y ∷ ys)) (IsUtf8-drop (xs ++ y ∷ ys) (length xs) text (seam xs y ys ascii))

-- a blank is such a byte
blank_ascii : (b : ℕ) → is_blank b ≡ true → b < 128
blank_ascii b h = by_first (b == 32) refl where
  by_first : (t : Bool) → (b == 32) ≡ t → b < 128
  by_first true e = let is : b ≡ 32 = grind (arith, tests) in omega arith
  by_first false e = let tab : (b == 9) ≡ true = rw e at h in let is : b ≡ 9 = grind (arith, tests) in omega arith

past_blanks : (bs xs : List ℕ) → AreBlanks bs → IsUtf8 (bs ++ xs) → IsUtf8 xs
past_blanks [] xs h text = text
past_blanks (b ∷ bs) xs h text =
    let parts = and_parts (is_blank b) (list_all is_blank bs) h in
    past_blanks bs xs parts.1 (IsUtf8-drop (b ∷ (bs ++ xs)) 1 text (IsCharBoundary-after_ascii (b ∷ (bs ++ xs)) 0 text (omega arith) (blank_ascii b parts.0)))

before_blanks : (xs bs : List ℕ) → AreBlanks bs → IsUtf8 (xs ++ bs) → IsUtf8 xs
before_blanks xs [] h text = subst (λ t. IsUtf8 t) (append-nil xs) text
before_blanks xs (b ∷ bs) h text = front_utf8 xs b bs (blank_ascii b (and_parts (is_blank b) (list_all is_blank bs) h).0) text

-- a byte below 128 and what follows it
tail_utf8 : (b : ℕ) (bs : List ℕ) → b < 128 → IsUtf8 (b ∷ bs) → IsUtf8 bs
tail_utf8 b bs ascii text = IsUtf8-drop (b ∷ bs) 1 text (IsCharBoundary-after_ascii (b ∷ bs) 0 text (omega arith) ascii)

one_utf8 : (b : ℕ) → b < 128 → IsUtf8 (b ∷ [])
one_utf8 b ascii = IsUtf8-from_ascii (b ∷ []) at where
  at : (i : ℕ) → get_or (b ∷ []) i 0 < 128
  at zero = ascii
  at (suc i) = omega arith

cons_utf8 : (b : ℕ) (bs : List ℕ) → b < 128 → IsUtf8 bs → IsUtf8 (b ∷ bs)
cons_utf8 b bs ascii text = IsUtf8-append (b ∷ []) bs (one_utf8 b ascii) text

-- joined lines are UTF-8

content_utf8 : (l : Line) → IsUtf8 l.bytes → IsUtf8 (content l)
unfolding content
content_utf8 l text = by_test (l.ended && (get_or l.bytes (length l.bytes - 1) 0 == 13)) refl where
  by_test : (t : Bool) → (l.ended && (get_or l.bytes (length l.bytes - 1) 0 == 13)) ≡ t → IsUtf8 (content l)
  by_test false e = rw e text
  by_test true e =
      let return : (get_or l.bytes (length l.bytes - 1) 0 == 13) ≡ true = (and_parts l.ended (get_or l.bytes (length l.bytes - 1) 0 == 13) e).1 in
      let is : get_or l.bytes (length l.bytes - 1) 0 ≡ 13 = grind (arith, tests) in
      rw e (cut l.bytes is text) where
        cut : (bytes : List ℕ) → get_or bytes (length bytes - 1) 0 ≡ 13 → IsUtf8 bytes → IsUtf8 (take (length bytes - 1) bytes)
        cut [] is text = text
        cut (b ∷ bs) is text = IsUtf8-take (b ∷ bs) (length (b ∷ bs) - 1) text (IsCharBoundary-before_ascii (b ∷ bs) (length (b ∷ bs) - 1) (omega arith) (omega arith))

piece_utf8 : (bs piece : List ℕ) → EndsHere bs piece ⊎ GoesOn bs piece → IsUtf8 bs → IsUtf8 piece
piece_utf8 bs piece (inl (inl (parts, two))) text = front_utf8 piece 92 [] (lit< tt) (subst (λ t. IsUtf8 t) parts text)
piece_utf8 bs piece (inl (inr (none, same))) text = subst (λ t. IsUtf8 t) (sym same) text
piece_utf8 bs piece (inr (parts, one)) text = front_utf8 piece 92 [] (lit< tt) (subst (λ t. IsUtf8 t) parts text)

abbrev IsUtf8Where : Result (List ℕ) LineFault → Type 0
IsUtf8Where (Ok bytes) = IsUtf8 bytes
IsUtf8Where (Err f) = Unit {0}

put_utf8 : (piece : List ℕ) (more text : Result (List ℕ) LineFault) → IsPutAfter piece more text → IsUtf8 piece → IsUtf8Where more → IsUtf8Where text
put_utf8 piece (Ok more) text (blanks, left, parts, blank, tight, is) front rest =
    subst IsUtf8Where (sym is) (IsUtf8-append piece left front (past_blanks blanks left blank (subst (λ t. IsUtf8 t) parts rest)))
put_utf8 piece (Err f) text is front rest = subst IsUtf8Where (sym is) tt

joined_utf8 : (first rest : List Line) (text : Result (List ℕ) LineFault) → IsJoined first rest text → IsUtf8Where text
joined_utf8 [] rest text h = absurd h
joined_utf8 (l ∷ []) rest text (inl (f, fault, is)) = subst IsUtf8Where (sym is) tt
joined_utf8 (l ∷ []) rest text (inr (sound, (bytes, is, inl ends))) = subst IsUtf8Where (sym is) (piece_utf8 (content l) bytes (inl ends) (content_utf8 l sound.1))
joined_utf8 (l ∷ []) rest text (inr (sound, (bytes, is, inr (on, none)))) = subst IsUtf8Where (sym is) (piece_utf8 (content l) bytes (inr on) (content_utf8 l sound.1))
joined_utf8 (l ∷ m ∷ ls) rest text (sound, (piece, more, on, others, after)) =
    put_utf8 piece more text after (piece_utf8 (content l) piece (inr on) (content_utf8 l sound.1)) (joined_utf8 (m ∷ ls) rest more others)

lines_utf8 : (n : ℕ) (ls : List Line) (js : List JoinedLine) → AreJoined n ls js → AllByRecursion (λ j. IsUtf8Where j.text) js
lines_utf8 n ls [] h = tt
lines_utf8 n ls (j ∷ js) (first, rest, parts, line, is, others) = (joined_utf8 first rest j.text is, lines_utf8 (n + length first) rest js others)

-- and so is what they say

kept_utf8 : (bs s : List ℕ) (h : IsKept bs s) → IsUtf8 bs → IsUtf8 h.core
kept_utf8 bs s h text =
    let kept : List ℕ = h.before ++ (h.core ++ h.after) in
    before_blanks h.core h.after h.after_blank (past_blanks h.before (h.core ++ h.after) h.before_blank (by_comment h.comment)) where
      by_comment : (h.dropped ≡ []) ⊎ ((others : List ℕ) × (h.dropped ≡ 59 ∷ others) × (EndsInBackslash (h.before ++ (h.core ++ h.after)) → ⊥)) → IsUtf8 (h.before ++ (h.core ++ h.after))
      by_comment (inl none) = subst (λ t. IsUtf8 t) (h.parts ∙ ap (λ d. (h.before ++ (h.core ++ h.after)) ++ d) none ∙ append-nil (h.before ++ (h.core ++ h.after))) text
      by_comment (inr (others, e, last)) = front_utf8 (h.before ++ (h.core ++ h.after)) 59 others (lit< tt) (subst (λ t. IsUtf8 t) (h.parts ∙ ap (λ d. (h.before ++ (h.core ++ h.after)) ++ d) e) text)

parts_utf8 : (first : List ℕ) (others : List (List ℕ)) → IsUtf8 (separated (92 ∷ 59 ∷ []) first others) → IsUtf8 (separated (59 ∷ []) first others)
parts_utf8 first [] text = text
parts_utf8 first (p ∷ ps) text =
    let rest = separated (92 ∷ 59 ∷ []) p ps in
    let tail = tail_utf8 59 rest (lit< tt) (tail_utf8 92 (59 ∷ rest) (lit< tt) (rest_utf8 first 92 (59 ∷ rest) (lit< tt) text)) in
    IsUtf8-append first (59 ∷ separated (59 ∷ []) p ps) (front_utf8 first 92 (59 ∷ rest) (lit< tt) text) (cons_utf8 59 (separated (59 ∷ []) p ps) (lit< tt) (parts_utf8 p ps tail))

-- it begins with no blank either
parts_tight : (first : List ℕ) (others : List (List ℕ)) → BeginsTight (separated (92 ∷ 59 ∷ []) first others) → BeginsTight (separated (59 ∷ []) first others)
parts_tight first [] h = h
parts_tight [] (p ∷ ps) h = inr (59, separated (59 ∷ []) p ps, refl, refl)
parts_tight (b ∷ bs) (p ∷ ps) (inl none) = let never : ⊥ = cc in absurd never
parts_tight (b ∷ bs) (p ∷ ps) (inr (c, cs, e, mark)) = let same : b ≡ c = cc in inr (b, bs ++ 59 ∷ separated (59 ∷ []) p ps, refl, ap is_blank same ∙ mark)

first_tight : (s : List ℕ) → IsTight s → BeginsTight s
first_tight s (inl none) = inl none
first_tight s (inr (begins, ends)) = inr begins

says_utf8 : (bs s : List ℕ) → Says bs s → IsUtf8 bs → IsUtf8 s × BeginsTight s
says_utf8 bs s (inl (comment, none)) text = (subst (λ t. IsUtf8 t) (sym none) IsUtf8-nil, inl none)
says_utf8 bs s (inr (no_comment, h)) text =
    let e = h.escapes in (
      subst (λ t. IsUtf8 t) (sym e.meant) (parts_utf8 e.first e.others (subst (λ t. IsUtf8 t) e.written (kept_utf8 bs s h text))),
      subst BeginsTight (sym e.meant) (parts_tight e.first e.others (subst BeginsTight e.written (first_tight h.core h.tight))),
    )

-- each statement is UTF-8, begins with no blank, and isn't empty
record IsSpoken (s : Statement) : Type 0 where
  is : (text : List ℕ) → s.text ≡ Ok text → IsUtf8 text × BeginsTight text × (0 < length text)

spoken_fault : (n : ℕ) (f : LineFault) → IsSpoken (record { line = n; text = Err f })
spoken_fault n f = record { is = λ text says. let never : ⊥ = cc in absurd never }

spoken_text : (n : ℕ) (said : List ℕ) → IsUtf8 said × BeginsTight said → 0 < length said → IsSpoken (record { line = n; text = Ok said })
spoken_text n said h some = record { is = λ text says. let same : said ≡ text = cc in subst (λ t. IsUtf8 t × BeginsTight t × (0 < length t)) same (h.0, h.1, some) }

statements_spoken : (js : List JoinedLine) (ss : List Statement) → AreStatements js ss → AllByRecursion (λ j. IsUtf8Where j.text) js → AllByRecursion IsSpoken ss
statements_spoken [] ss h lines = subst (AllByRecursion IsSpoken) (sym h) tt
statements_spoken (j ∷ js) ss (inl (f, others, text, is, h)) lines =
    subst (AllByRecursion IsSpoken) (sym is) (spoken_fault j.line f, statements_spoken js others h lines.1)
statements_spoken (j ∷ js) ss (inr (inl (bytes, text, says, h))) lines = statements_spoken js ss h lines.1
statements_spoken (j ∷ js) ss (inr (inr (bytes, said, others, text, says, some, is, h))) lines =
    subst (AllByRecursion IsSpoken) (sym is)
    (spoken_text j.line said (says_utf8 bytes said says (subst IsUtf8Where text lines.0)) some, statements_spoken js others h lines.1)

spoken_parts : (xs ys : List Statement) → AllByRecursion IsSpoken (xs ++ ys) → AllByRecursion IsSpoken xs × AllByRecursion IsSpoken ys
spoken_parts [] ys h = (tt, h)
spoken_parts (x ∷ xs) ys h = let more = spoken_parts xs ys h.1 in ((h.0, more.0), more.1)

-- the name and the value of a directive

-- a text that begins with no blank doesn't begin with blanks
no_blanks_first : (blanks rest : List ℕ) → AreBlanks blanks → 0 < length blanks → BeginsTight (blanks ++ rest) → ⊥
no_blanks_first [] rest h some tight = omega arith
no_blanks_first (b ∷ bs) rest h some (inl none) = let never : ⊥ = cc in never
no_blanks_first (b ∷ bs) rest h some (inr (first, others, e, mark)) =
    let same : b ≡ first = cc in
    let blank : is_blank b ≡ true = (and_parts (is_blank b) (list_all is_blank bs) h).0 in
    let never : true ≡ false = sym blank ∙ ap is_blank same ∙ mark in
    cc

word_some : (w blanks rest : List ℕ) → AreBlanks blanks → 0 < length blanks → BeginsTight (w ++ (blanks ++ rest)) → 0 < length w
word_some (c ∷ cs) blanks rest h some tight = omega arith
word_some [] blanks rest h some tight = absurd (no_blanks_first blanks rest h some tight)

value_plain : (text : List ℕ) (d : Directive) → IsNameAndValue text d → IsUtf8 text → BeginsTight text → IsPlain d
value_plain text d v whole tight =
    let b = blanks_begin v.between v.blank v.some_blank in
    let ascii = blank_ascii b.first b.passes in
    let spelled : IsUtf8 (d.name ++ b.first ∷ (b.others ++ d.value)) = subst (λ x. IsUtf8 x) (v.parts ∙ ap (λ x. d.name ++ (x ++ d.value)) b.is) whole in
    record {
      name = front_utf8 d.name b.first (b.others ++ d.value) ascii spelled;
      value = past_blanks (b.first ∷ b.others) d.value (subst (λ x. AreBlanks x) b.is v.blank) (rest_utf8 d.name b.first (b.others ++ d.value) ascii spelled);
      some_name = word_some d.name v.between d.value v.blank v.some_blank (subst BeginsTight v.parts tight);
    }

-- words, and what follows them
word_and_rest : (w blanks rest : List ℕ) → AreBlanks blanks → 0 < length blanks → IsUtf8 (w ++ (blanks ++ rest)) → IsUtf8 w × IsUtf8 rest
word_and_rest w [] rest h some text = absurd (omega arith)
word_and_rest w (b ∷ bs) rest h some text =
    let ascii = blank_ascii b (and_parts (is_blank b) (list_all is_blank bs) h).0 in
    (front_utf8 w b (bs ++ rest) ascii text, past_blanks (b ∷ bs) rest h (rest_utf8 w b (bs ++ rest) ascii text))

regroup : (w blanks others rest bs : List ℕ) → bs ≡ w ++ (blanks ++ others) → bs ++ rest ≡ w ++ (blanks ++ (others ++ rest))
regroup w blanks others rest bs e = ap (λ x. x ++ rest) e ∙ append_assoc w (blanks ++ others) rest ∙ ap (λ x. w ++ x) (append_assoc blanks others rest)

words_utf8 : (first : List ℕ) (others : List (List ℕ)) (bs rest : List ℕ) → AreWords bs (first ∷ others) → IsUtf8 (bs ++ rest)
    → IsUtf8 (separated (32 ∷ []) first others) × IsUtf8 rest
words_utf8 first [] bs rest (blanks, left, is, word, blank, some, tight, none) text =
    word_and_rest first blanks rest blank some (subst (λ x. IsUtf8 x) (regroup first blanks left rest bs is ∙ ap (λ x. first ++ (blanks ++ (x ++ rest))) none) text)
words_utf8 first (w ∷ ws) bs rest (blanks, left, is, word, blank, some, tight, more) text =
    let parts = word_and_rest first blanks (left ++ rest) blank some (subst (λ x. IsUtf8 x) (regroup first blanks left rest bs is) text) in
    let later = words_utf8 w ws left rest more parts.1 in
    (IsUtf8-append first (32 ∷ separated (32 ∷ []) w ws) parts.0 (cons_utf8 32 (separated (32 ∷ []) w ws) (lit< tt) later.0), later.1)

filtered_utf8 : (front bs : List ℕ) → IsUtf8 (front ++ bs) → IsUtf8 (front ++ without_blanks bs)
filtered_utf8 front [] text = text
filtered_utf8 front (b ∷ bs) text = by_blank (filtered_utf8 [] bs) (filtered_utf8 (front ++ b ∷ []) bs) (is_blank b) refl where
  by_blank : (IsUtf8 bs → IsUtf8 (without_blanks bs)) → (IsUtf8 ((front ++ b ∷ []) ++ bs) → IsUtf8 ((front ++ b ∷ []) ++ without_blanks bs)) → (t : Bool) → is_blank b ≡ t
      → IsUtf8 (front ++ without_blanks (b ∷ bs))
  by_blank alone after true e =
      let ascii = blank_ascii b e in
      rw e (IsUtf8-append front (without_blanks bs) (front_utf8 front b bs ascii text) (alone (tail_utf8 b bs ascii (rest_utf8 front b bs ascii text))))
  by_blank alone after false e =
      rw e (subst (λ x. IsUtf8 x) (append_assoc front (b ∷ []) (without_blanks bs)) (after (subst (λ x. IsUtf8 x) (sym (append_assoc front (b ∷ []) bs)) text)))

separated_some : (first : List ℕ) (others : List (List ℕ)) → 0 < length first → 0 < length (separated (32 ∷ []) first others)
separated_some first [] some = some
separated_some first (p ∷ ps) some = omega (arith, length-append first (32 ∷ separated (32 ∷ []) p ps))

day_plain : (text : List ℕ) (d : Directive) → IsDayLine text d → IsUtf8 text → BeginsTight text → IsPlain d
day_plain text d (inl h) whole tight =
    let rest : List ℕ = h.start ++ 58 ∷ h.after in
    let parts = words_utf8 h.first h.others h.front rest h.words (subst (λ x. IsUtf8 x) h.parts whole) in
    let (blanks, left, is, word, blank, some, begins, more) = h.words in
    let first_some : 0 < length h.first = word_some h.first blanks (left ++ rest) blank some (subst BeginsTight (h.parts ∙ regroup h.first blanks left rest h.front is) tight) in
    record {
      name = subst (λ x. IsUtf8 x) (sym h.name) parts.0;
      value = subst (λ x. IsUtf8 x) (sym h.value) (filtered_utf8 [] rest parts.1);
      some_name = subst (λ x. 0 < length x) (sym h.name) (separated_some h.first h.others first_some);
    }
day_plain text d (inr h) whole tight =
    let spelled : IsUtf8 ((text ++ 32 ∷ []) ++ []) = subst (λ x. IsUtf8 x) (sym (append-nil (text ++ 32 ∷ []))) (IsUtf8-append text (32 ∷ []) whole (cons_utf8 32 [] (lit< tt) IsUtf8-nil)) in
    record {
      name = subst (λ x. IsUtf8 x) (sym h.name) (words_utf8 h.first (h.second ∷ h.others) (text ++ 32 ∷ []) [] h.words spelled).0;
      value = subst (λ x. IsUtf8 x) (sym h.value) IsUtf8-nil;
      some_name = subst (λ x. 0 < length x) (sym h.name) (omega (arith, length-append h.first (32 ∷ separated (32 ∷ []) h.second h.others)));
    }

directive_plain : (kind : BlockKind) (s : Statement) (d : Directive) → IsDirective kind s d → IsSpoken s → IsPlain d
directive_plain kind s d h spoken = let t = spoken.is h.text h.says in by_spelling h.value t.0 t.1 where
  by_spelling : IsSpelled kind h.text d → IsUtf8 h.text → BeginsTight h.text → IsPlain d
  by_spelling (inl (period, is)) = day_plain h.text d is
  by_spelling (inr (none, is)) = value_plain h.text d is

directives_plain : (kind : BlockKind) (ss : List Statement) (ds : List Directive) → AreDirectives kind ss ds → AllByRecursion IsSpoken ss → All IsPlain ds
directives_plain kind [] [] h spoken = All-nil IsPlain
directives_plain kind [] (d ∷ ds) h spoken = absurd h
directives_plain kind (s ∷ ss) [] h spoken = absurd h
directives_plain kind (s ∷ ss) (d ∷ ds) h spoken = All-cons IsPlain d ds (directive_plain kind s d h.0 spoken.0) (directives_plain kind ss ds h.1 spoken.1)

blocks_plain : (ss : List Statement) (bs : List Block) → AreBlocks ss bs → AllByRecursion IsSpoken ss → ArePlain bs
blocks_plain ss [] h spoken = All-nil (λ b. All IsPlain b.directives)
blocks_plain ss (b ∷ bs) h spoken =
    let parts = spoken_parts h.0 h.1 (subst (λ x. AllByRecursion IsSpoken x) h.2 spoken) in
    let block = h.3 in
    let inner = subst (λ x. AllByRecursion IsSpoken x) block.parts parts.0 in
    let body = spoken_parts block.body (block.close ∷ []) inner.1 in
    All-cons (λ b. All IsPlain b.directives) b bs (directives_plain b.kind block.body b.directives block.directives body.0) (blocks_plain h.1 bs h.4 parts.1)

-- the blocks of a text hold text
pub object_text_plain : (text : List ℕ) (bs : List Block) → IsObjectText text bs → ArePlain bs
object_text_plain text bs h =
    blocks_plain h.statements bs h.parts (statements_spoken h.has.joined h.statements h.has.says (lines_utf8 1 h.has.lines h.has.joined h.has.joins))

pub answered_plain : (text : List ℕ) (r : Result (List Block) ReadFault) → Gives {A = List Block} r (read_text text) → IfOk r (λ blocks. ArePlain blocks)
answered_plain text (Ok bs) h = object_text_plain text bs (answered_blocks text (Ok bs) h)
answered_plain text (Err fault) h = tt
