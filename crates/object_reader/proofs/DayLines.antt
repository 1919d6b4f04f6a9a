-- Day lines, as they are written and as they are found.
use Rattle.std.proofs.Common.{◌≡◌, ℕ, ◌+◌, ◌-◌, ◌<◌, ◌≤◌, ◌⊎◌, inl, inr, Bool, true, false, not, ◌||◌, ◌==◌, List, [], ◌∷◌, ◌++◌, length, take, drop, get_or, refl, sym, ap, subst, ◌∙◌, arith, tests, one-add, append_assoc, length-append}
use Rattle.std.proofs.lemmas.Bool.{and_parts, and_from}
use Rattle.std.proofs.lemmas.List.{append-nil, drop-append-le, take-append-drop, nil_from_length}
use Rattle.std.proofs.Math.Seq.{take-append_seam, drop-append_seam, drop-length}
use Rattle.std.specs.List.{list_all, list_any, position_or_len, before_first}
use Rattle.object_reader.specs.declared.block.Directive.{Directive}
use Rattle.object_reader.specs.claims.Blanks.{is_blank, AreBlanks, HasNoBlank, BeginsTight, without_end}
use Rattle.object_reader.specs.claims.Statements.{first_word}
use Rattle.object_reader.specs.Statements.{after_word}
use Rattle.object_reader.specs.claims.DayLines.{separated, AreWords, without_blanks, HasTimes, HasNoTimes, IsDayLine, begins_day}
use Rattle.object_reader.specs.DayLines.{before_times, day_front, starts_word, spaced, day_line}
use Rattle.object_reader.proofs.Trimming.{stops, all_append, all_parts, before_fails, blanks_from, none_or_some, rest_begins, not_mark, EndsTight, end_dropped, split_end, tail_is, trimmed_parts}
use Rattle.object_reader.proofs.FirstWord.{apart, blanks_begin, word_first}

-- words with one space between each two, one byte at a time

pub mark_spaced : (b : ℕ) (bs : List ℕ) → is_blank b ≡ false → spaced (b ∷ bs) ≡ b ∷ spaced bs
unfolding spaced
mark_spaced b bs e = rw e refl

pub gap_spaced : (b : ℕ) (bs : List ℕ) → is_blank b ≡ true → starts_word bs ≡ true → spaced (b ∷ bs) ≡ 32 ∷ spaced bs
unfolding spaced
gap_spaced b bs e s = rw (e, s) refl

pub blank_spaced : (b : ℕ) (bs : List ℕ) → is_blank b ≡ true → starts_word bs ≡ false → spaced (b ∷ bs) ≡ spaced bs
unfolding spaced
blank_spaced b bs e s = rw (e, s) refl

word_spaced : (w rest : List ℕ) → HasNoBlank w → spaced (w ++ rest) ≡ w ++ spaced rest
word_spaced [] rest h = refl
word_spaced (b ∷ bs) rest h =
    let parts = and_parts (not (is_blank b)) (list_all (λ b. not (is_blank b)) bs) h in
    mark_spaced b (bs ++ rest) (not_mark (is_blank b) parts.0) ∙ ap (λ x. b ∷ x) (word_spaced bs rest parts.1)

blanks_spaced : (b : ℕ) (bs rest : List ℕ) → AreBlanks (b ∷ bs) → starts_word rest ≡ true → spaced ((b ∷ bs) ++ rest) ≡ 32 ∷ spaced rest
blanks_spaced b [] rest h s = gap_spaced b rest (and_parts (is_blank b) true h).0 s
blanks_spaced b (c ∷ cs) rest h s =
    let parts = and_parts (is_blank b) (list_all is_blank (c ∷ cs)) h in
    let next : is_blank c ≡ true = (and_parts (is_blank c) (list_all is_blank cs) parts.1).0 in
    blank_spaced b (c ∷ (cs ++ rest)) parts.0 (ap not next) ∙ blanks_spaced c cs rest parts.1 s

last_blanks : (bs : List ℕ) → AreBlanks bs → spaced bs ≡ []
unfolding spaced
last_blanks [] h = refl
last_blanks (b ∷ bs) h =
    let parts = and_parts (is_blank b) (list_all is_blank bs) h in
    blank_spaced b bs parts.0 (none bs parts.1) ∙ last_blanks bs parts.1 where
      none : (bs : List ℕ) → AreBlanks bs → starts_word bs ≡ false
      none [] h = refl
      none (c ∷ cs) h = ap not (and_parts (is_blank c) (list_all is_blank cs) h).0

-- bytes with a word begin with one
word_starts : (bs w : List ℕ) (ws : List (List ℕ)) → AreWords bs (w ∷ ws) → BeginsTight bs → starts_word bs ≡ true
word_starts bs w ws (blanks, others, is, word, blank, some, tight, more) (inl none) =
    let n : 0 ≡ length w + (length blanks + length others) = sym (ap length none) ∙ ap length is ∙ length-append w (blanks ++ others) ∙ ap (λ k. length w + k) (length-append blanks others) in
    absurd (omega arith)
word_starts bs w ws h (inr (first, others, e, mark)) = ap starts_word e ∙ ap not mark

words_spaced : (first : List ℕ) (others : List (List ℕ)) (bs : List ℕ) → AreWords bs (first ∷ others) → spaced bs ≡ separated (32 ∷ []) first others
words_spaced first [] bs (blanks, rest, is, word, blank, some, tight, none) =
    ap spaced (is ∙ ap (λ x. first ++ (blanks ++ x)) none ∙ ap (λ x. first ++ x) (append-nil blanks))
    ∙ word_spaced first blanks word ∙ ap (λ x. first ++ x) (last_blanks blanks blank) ∙ append-nil first
words_spaced first (w ∷ ws) bs (blanks, rest, is, word, blank, some, tight, more) =
    ap spaced is ∙ word_spaced first (blanks ++ rest) word
    ∙ ap (λ x. first ++ x) (gap blanks blank some ∙ ap (λ x. 32 ∷ x) (words_spaced w ws rest more)) where
      gap : (blanks : List ℕ) → AreBlanks blanks → 0 < length blanks → spaced (blanks ++ rest) ≡ 32 ∷ spaced rest
      gap [] h some = absurd (omega arith)
      gap (b ∷ bs) h some = blanks_spaced b bs rest h (word_starts rest w ws more tight)

-- each text that ends with a blank is words, each with its blanks

abbrev is_ended : List ℕ → Bool
is_ended [] = false
is_ended (b ∷ []) = is_blank b
is_ended (b ∷ c ∷ cs) = is_ended (c ∷ cs)

ended : (front : List ℕ) (last : ℕ) → is_blank last ≡ true → is_ended (front ++ last ∷ []) ≡ true
ended [] last h = h
ended (x ∷ []) last h = h
ended (x ∷ y ∷ ys) last h = ended (y ∷ ys) last h

record HasWords (bs : List ℕ) : Type 0 where
  first : List ℕ
  others : List (List ℕ)
  words : AreWords bs (first ∷ others)

word_before : (b : ℕ) (bs : List ℕ) → is_blank b ≡ false → HasWords bs → HasWords (b ∷ bs)
word_before b bs e h =
    let (blanks, rest, is, word, blank, some, tight, more) = h.words in
    record {
      first = b ∷ h.first;
      others = h.others;
      words = (blanks, rest, ap (λ x. b ∷ x) is, and_from (not (is_blank b)) (list_all (λ b. not (is_blank b)) h.first) (ap not e) word, blank, some, tight, more);
    }

gap_before : (b : ℕ) (bs first : List ℕ) (others : List (List ℕ)) → is_blank b ≡ true → AreWords bs (first ∷ others) → HasWords (b ∷ bs)
gap_before b bs [] others e (blanks, rest, is, word, blank, some, tight, more) = record {
  first = [];
  others = others;
  words = (b ∷ blanks, rest, ap (λ x. b ∷ x) is, refl, and_from (is_blank b) (list_all is_blank blanks) e blank, omega arith, tight, more);
}
gap_before b bs (f ∷ fs) others e (blanks, rest, is, word, blank, some, tight, more) = record {
  first = [];
  others = (f ∷ fs) ∷ others;
  words = (
    b ∷ [],
    bs,
    refl,
    refl,
    and_from (is_blank b) true e refl,
    omega arith,
    inr (f, fs ++ (blanks ++ rest), is, not_mark (is_blank f) (and_parts (not (is_blank f)) (list_all (λ b. not (is_blank b)) fs) word).0),
    (blanks, rest, is, word, blank, some, tight, more),
  );
}

words_of : (bs : List ℕ) → is_ended bs ≡ true → HasWords bs
words_of [] h = let never : ⊥ = cc in absurd never
words_of (b ∷ []) h = record { first = []; others = []; words = (b ∷ [], [], refl, refl, and_from (is_blank b) true h refl, omega arith, inl refl, refl) }
words_of (b ∷ c ∷ cs) h = by_head (words_of (c ∷ cs) h) (is_blank b) refl where
  by_head : HasWords (c ∷ cs) → (t : Bool) → is_blank b ≡ t → HasWords (b ∷ c ∷ cs)
  by_head w false e = word_before b (c ∷ cs) e w
  by_head w true e = gap_before b (c ∷ cs) w.first w.others e w.words

-- and words end with a blank
abbrev EndsInBlank : List ℕ → Type 0
EndsInBlank bs = (front : List ℕ) × (last : ℕ) × (bs ≡ front ++ last ∷ []) × (is_blank last ≡ true)

blanks_end : (b : ℕ) (bs : List ℕ) → AreBlanks (b ∷ bs) → EndsInBlank (b ∷ bs)
blanks_end b [] h = ([], b, refl, (and_parts (is_blank b) true h).0)
blanks_end b (c ∷ cs) h =
    let (front, last, e, blank) = blanks_end c cs (and_parts (is_blank b) (list_all is_blank (c ∷ cs)) h).1 in (b ∷ front, last, ap (λ x. b ∷ x) e, blank)

end_after : (xs ys : List ℕ) → EndsInBlank ys → EndsInBlank (xs ++ ys)
end_after xs ys (front, last, e, blank) = (xs ++ front, last, ap (λ y. xs ++ y) e ∙ sym (append_assoc xs front (last ∷ [])), blank)

words_end : (first : List ℕ) (others : List (List ℕ)) (bs : List ℕ) → AreWords bs (first ∷ others) → EndsInBlank bs
words_end first [] bs (blanks, rest, is, word, blank, some, tight, none) =
    subst EndsInBlank (sym (is ∙ ap (λ x. first ++ (blanks ++ x)) none ∙ ap (λ x. first ++ x) (append-nil blanks))) (end_after first blanks (end blanks blank some)) where
      end : (blanks : List ℕ) → AreBlanks blanks → 0 < length blanks → EndsInBlank blanks
      end [] h some = absurd (omega arith)
      end (b ∷ bs) h some = blanks_end b bs h
words_end first (w ∷ ws) bs (blanks, rest, is, word, blank, some, tight, more) =
    subst EndsInBlank (sym is) (end_after first (blanks ++ rest) (end_after blanks rest (words_end w ws rest more)))

-- the first word with a colon

any_mid : (p : ℕ → Bool) (xs : List ℕ) (y : ℕ) (ys : List ℕ) → p y ≡ true → list_any p (xs ++ y ∷ ys) ≡ true
any_mid p [] y ys e = rw e refl
any_mid p (x ∷ xs) y ys e = rw (any_mid p xs y ys e) (by_head (p x)) where
  by_head : (t : Bool) → (t || true) ≡ true
  by_head true = refl
  by_head false = refl

any_rest : (p : ℕ → Bool) (xs : List ℕ) → list_any p xs ≡ true → 0 < length (drop (position_or_len p xs) xs)
any_rest p [] h = let never : ⊥ = cc in absurd never
any_rest p (x ∷ xs) h = by_head (any_rest p xs) (p x) refl where
  by_head : (list_any p xs ≡ true → 0 < length (drop (position_or_len p xs) xs)) → (t : Bool) → p x ≡ t → 0 < length (drop (position_or_len p (x ∷ xs)) (x ∷ xs))
  by_head later true e = rw e (omega arith)
  by_head later false e = rw (e, one-add) (later (rw e at h))

fronted : (s : List ℕ) → list_any (λ b. b == 58) s ≡ true → before_times s ≡ without_end (λ b. not (is_blank b)) (before_first (λ b. b == 58) s)
unfolding before_times
fronted s h = rw h refl

bare : (s : List ℕ) → list_any (λ b. b == 58) s ≡ false → before_times s ≡ []
unfolding before_times
bare s h = rw h refl

-- a line with times has a colon
has_colon : (s : List ℕ) (d : Directive) → HasTimes s d → list_any (λ b. b == 58) s ≡ true
has_colon s d h = ap (list_any (λ b. b == 58)) (h.parts ∙ sym (append_assoc h.front h.start (58 ∷ h.after))) ∙ any_mid (λ b. b == 58) (h.front ++ h.start) 58 h.after refl

front_found : (s : List ℕ) (d : Directive) (h : HasTimes s d) → before_times s ≡ h.front
front_found s d h =
    let whole : s ≡ (h.front ++ h.start) ++ 58 ∷ h.after = h.parts ∙ sym (append_assoc h.front h.start (58 ∷ h.after)) in
    let (f, last, e, blank) = words_end h.first h.others h.front h.words in
    fronted s (has_colon s d h)
    ∙ ap (λ x. without_end (λ b. not (is_blank b)) (before_first (λ b. b == 58) x)) whole
    ∙ ap (without_end (λ b. not (is_blank b))) (ap (λ n. take n ((h.front ++ h.start) ++ 58 ∷ h.after)) (stops (λ b. b == 58) (h.front ++ h.start) 58 h.after h.no_colon refl)
    ∙ take-append_seam (h.front ++ h.start) (58 ∷ h.after))
    ∙ end_dropped (λ b. not (is_blank b)) h.front h.start (inr (f, last, e, ap not blank)) h.no_blank

-- the first of words is the first word of what begins with them
words_first : (first : List ℕ) (others : List (List ℕ)) (bs rest : List ℕ) → AreWords bs (first ∷ others) → first_word (bs ++ rest) ≡ first
words_first first others bs rest (blanks, left, is, word, blank, some, tight, more) =
    let b = blanks_begin blanks blank some in
    let whole : bs ++ rest ≡ first ++ b.first ∷ (b.others ++ (left ++ rest)) =
    ap (λ x. x ++ rest) is ∙ append_assoc first (blanks ++ left) rest ∙ ap (λ x. first ++ x) (append_assoc blanks left rest ∙ ap (λ x. x ++ (left ++ rest)) b.is) in
    ap first_word whole ∙ word_first first b.first (b.others ++ (left ++ rest)) word b.passes

-- a blank more at the end

first_mark : (b : ℕ) (bs : List ℕ) → is_blank b ≡ false → first_word (b ∷ bs) ≡ b ∷ first_word bs
first_mark b bs e = rw (e, one-add) refl

first_ended : (s : List ℕ) → first_word (s ++ 32 ∷ []) ≡ first_word s
first_ended [] = refl
first_ended (b ∷ bs) = by_head (first_ended bs) (is_blank b) refl where
  by_head : first_word (bs ++ 32 ∷ []) ≡ first_word bs → (t : Bool) → is_blank b ≡ t → first_word (b ∷ (bs ++ 32 ∷ [])) ≡ first_word (b ∷ bs)
  by_head more true e = rw e refl
  by_head more false e = first_mark b (bs ++ 32 ∷ []) e ∙ ap (λ x. b ∷ x) more ∙ sym (first_mark b bs e)

starts_ended : (bs : List ℕ) → starts_word (bs ++ 32 ∷ []) ≡ starts_word bs
starts_ended [] = refl
starts_ended (b ∷ bs) = refl

spaced_ended : (s : List ℕ) → spaced (s ++ 32 ∷ []) ≡ spaced s
unfolding spaced
spaced_ended [] = refl
spaced_ended (b ∷ bs) = by_head (spaced_ended bs) (is_blank b) refl (starts_word bs) refl where
  by_head : spaced (bs ++ 32 ∷ []) ≡ spaced bs → (t : Bool) → is_blank b ≡ t → (u : Bool) → starts_word bs ≡ u → spaced (b ∷ (bs ++ 32 ∷ [])) ≡ spaced (b ∷ bs)
  by_head more false e u f = mark_spaced b (bs ++ 32 ∷ []) e ∙ ap (λ x. b ∷ x) more ∙ sym (mark_spaced b bs e)
  by_head more true e true f = gap_spaced b (bs ++ 32 ∷ []) e (starts_ended bs ∙ f) ∙ ap (λ x. 32 ∷ x) more ∙ sym (gap_spaced b bs e f)
  by_head more true e false f = blank_spaced b (bs ++ 32 ∷ []) e (starts_ended bs ∙ f) ∙ more ∙ sym (blank_spaced b bs e f)

-- of two words or more something stands after the first
words_after : (first second : List ℕ) (others : List (List ℕ)) (s : List ℕ) → AreWords (s ++ 32 ∷ []) (first ∷ second ∷ others) → 0 < length (after_word s)
words_after first second others s h = by_after (none_or_some (after_word s)) where
  front : first_word s ≡ first
  front = sym (first_ended s) ∙ sym (ap first_word (append-nil (s ++ 32 ∷ []))) ∙ words_first first (second ∷ others) (s ++ 32 ∷ []) [] h

  -- where nothing stands there, all that follows the first word is blank, and so the second word isn't there
  all_blank : after_word s ≡ [] → AreBlanks (drop (length first) s)
  all_blank none =
      let tail : List ℕ = drop (length (first_word s)) s in
      let is : tail ≡ before_first (λ b. not (is_blank b)) tail = trimmed_parts tail ∙ ap (λ x. before_first (λ b. not (is_blank b)) tail ++ x) none ∙ append-nil (before_first (λ b. not (is_blank b)) tail) in
      subst (λ w. AreBlanks (drop (length w) s)) front
      (subst AreBlanks (sym is) (blanks_from (before_first (λ b. not (is_blank b)) tail) (before_fails (λ b. not (is_blank b)) tail)))

  by_after : (after_word s ≡ []) ⊎ (0 < length (after_word s)) → 0 < length (after_word s)
  by_after (inr some) = some
  by_after (inl none) =
      let (blanks, left, is, word, blank, some, tight, more) = h in
      let starts = word_starts left second others more tight in
      let left_some : 0 < length left = begun left starts in
      let long : length s + 1 ≡ length first + (length blanks + length left) =
      omega (arith, length-append s (32 ∷ []), ap length is, length-append first (blanks ++ left), length-append blanks left) in
      let rest : drop (length first) s ++ 32 ∷ [] ≡ blanks ++ left =
      sym (drop-append-le (length first) s (32 ∷ []) (omega (arith, long, some, left_some))) ∙ ap (drop (length first)) is ∙ drop-append_seam first (blanks ++ left) in
      let blank_left = (all_parts is_blank blanks left (subst AreBlanks rest (all_append is_blank (drop (length first) s) (32 ∷ []) (all_blank none) refl))).1 in
      absurd (no_mark left blank_left starts) where
        begun : (bs : List ℕ) → starts_word bs ≡ true → 0 < length bs
        begun [] e = let never : ⊥ = cc in absurd never
        begun (b ∷ bs) e = omega arith

        no_mark : (bs : List ℕ) → AreBlanks bs → starts_word bs ≡ true → ⊥
        no_mark [] h e = cc
        no_mark (b ∷ bs) h e = let yes = (and_parts (is_blank b) (list_all is_blank bs) h).0 in let never : false ≡ true = sym (ap not yes) ∙ e in cc

-- the words in front are found

front_first : (s : List ℕ) (d : Directive) (h : HasTimes s d) → first_word s ≡ h.first
front_first s d h = ap first_word h.parts ∙ words_first h.first h.others h.front (h.start ++ 58 ∷ h.after) h.words

bare_first : (s : List ℕ) (d : Directive) (h : HasNoTimes s d) → first_word s ≡ h.first
bare_first s d h = sym (first_ended s) ∙ sym (ap first_word (append-nil (s ++ 32 ∷ []))) ∙ words_first h.first (h.second ∷ h.others) (s ++ 32 ∷ []) [] h.words

in_times : (s : List ℕ) → begins_day (first_word s) ≡ true → list_any (λ b. b == 58) s ≡ true → day_front s ≡ before_times s
unfolding day_front
in_times s begins colon = rw (begins, colon) refl

in_none : (s : List ℕ) → begins_day (first_word s) ≡ true → list_any (λ b. b == 58) s ≡ false → (length (after_word s) == 0) ≡ false → day_front s ≡ s
unfolding day_front
in_none s begins colon after = rw (begins, colon, after) refl

in_single : (s : List ℕ) → begins_day (first_word s) ≡ true → list_any (λ b. b == 58) s ≡ false → (length (after_word s) == 0) ≡ true → day_front s ≡ []
unfolding day_front
in_single s begins colon after = rw (begins, colon, after) refl

in_other : (s : List ℕ) → begins_day (first_word s) ≡ false → day_front s ≡ []
unfolding day_front
in_other s begins = rw begins refl

no_colons : (s : List ℕ) → list_all (λ b. not (b == 58)) s ≡ true → list_any (λ b. b == 58) s ≡ false
no_colons [] h = refl
no_colons (b ∷ bs) h =
    let parts = and_parts (not (b == 58)) (list_all (λ b. not (b == 58)) bs) h in
    rw (not_mark (b == 58) parts.0) (no_colons bs parts.1)

all_colonless : (s : List ℕ) → list_any (λ b. b == 58) s ≡ false → list_all (λ b. not (b == 58)) s ≡ true
all_colonless [] h = refl
all_colonless (b ∷ bs) h = by_head (all_colonless bs) (b == 58) refl where
  by_head : (list_any (λ b. b == 58) bs ≡ false → list_all (λ b. not (b == 58)) bs ≡ true) → (t : Bool) → (b == 58) ≡ t → list_all (λ b. not (b == 58)) (b ∷ bs) ≡ true
  by_head more true e = let never : true ≡ false = sym (ap (λ t. t || list_any (λ b. b == 58) bs) e) ∙ h in let no : ⊥ = cc in absurd no
  by_head more false e = rw e (more (rw e at h))

some_after : (s : List ℕ) → 0 < length (after_word s) → (length (after_word s) == 0) ≡ false
some_after s some = grind (arith, tests)

times_front : (s : List ℕ) (d : Directive) (h : HasTimes s d) → day_front s ≡ h.front
times_front s d h = in_times s (ap begins_day (front_first s d h) ∙ h.begins) (has_colon s d h) ∙ front_found s d h

none_front : (s : List ℕ) (d : Directive) (h : HasNoTimes s d) → day_front s ≡ s
none_front s d h =
    in_none s (ap begins_day (bare_first s d h) ∙ h.begins) (no_colons s h.no_colon) (some_after s (words_after h.first h.second h.others s h.words))

-- a day line's words are in front of it
pub day_some : (s : List ℕ) (d : Directive) → IsDayLine s d → 0 < length (day_front s)
day_some s d (inl h) =
    let (f, last, e, blank) = words_end h.first h.others h.front h.words in
    omega (arith, ap length (times_front s d h), ap length e, length-append f (last ∷ []))
day_some s d (inr h) =
    let (blanks, left, is, word, blank, some, tight, more) = h.words in
    let (blanks', left', is', word', blank', some', tight', more') = more in
    omega (arith, ap length (none_front s d h), length-append s (32 ∷ []), ap length is, length-append h.first (blanks ++ left), length-append blanks left, ap length is', length-append h.second (blanks' ++ left'), length-append blanks' left', some, some')

-- what is written is found
named : (s : List ℕ) (d : Directive) → spaced (day_front s) ≡ d.name → without_blanks (drop (length (day_front s)) s) ≡ d.value → day_line s (day_front s) ≡ d
named s d name value =
    ap (λ (n : List ℕ). let made : Directive = record { name = n; value = without_blanks (drop (length (day_front s)) s) } in made) name
    ∙ ap (λ (v : List ℕ). let made : Directive = record { name = d.name; value = v } in made) value

pub day_found : (s : List ℕ) (d : Directive) → IsDayLine s d → day_line s (day_front s) ≡ d
day_found s d (inl h) =
    let front = times_front s d h in
    let rest : drop (length (day_front s)) s ≡ h.start ++ 58 ∷ h.after =
    ap (λ f. drop (length f) s) front ∙ ap (drop (length h.front)) h.parts ∙ drop-append_seam h.front (h.start ++ 58 ∷ h.after) in
    named s d (ap spaced front ∙ words_spaced h.first h.others h.front h.words ∙ sym h.name) (ap without_blanks rest ∙ sym h.value)
day_found s d (inr h) =
    let front = none_front s d h in
    named s d (ap spaced front ∙ sym (spaced_ended s) ∙ words_spaced h.first (h.second ∷ h.others) (s ++ 32 ∷ []) h.words ∙ sym h.name)
    (ap (λ f. without_blanks (drop (length f) s)) front ∙ ap without_blanks (drop-length s) ∙ sym h.value)

-- and what is found is written so

-- a line with a colon: the words in front, what begins the word with the colon, and what comes after it
record IsParted (s : List ℕ) : Type 0 where
  front : List ℕ
  start : List ℕ
  after : List ℕ
  is : before_times s ≡ front
  parts : s ≡ front ++ (start ++ 58 ∷ after)
  no_blank : HasNoBlank start
  no_colon : list_all (λ b. not (b == 58)) (front ++ start) ≡ true
  ends : EndsTight (λ b. not (is_blank b)) front

parted : (s : List ℕ) → list_any (λ b. b == 58) s ≡ true → IsParted s
parted s e =
    let before : List ℕ = before_first (λ b. b == 58) s in
    let rest = rest_begins (λ b. b == 58) s (any_rest (λ b. b == 58) s e) in
    let colon : (rest.first == 58) ≡ true = rest.passes in
    let is : rest.first ≡ 58 = grind (arith, tests) in
    let h = split_end (λ b. not (is_blank b)) before in
    record {
      front = h.front;
      start = h.after;
      after = rest.others;
      is = fronted s e ∙ ap (without_end (λ b. not (is_blank b))) h.is ∙ end_dropped (λ b. not (is_blank b)) h.front h.after h.ends h.pass;
      parts = sym (take-append-drop (position_or_len (λ b. b == 58) s) s) ∙ ap (λ x. before ++ x) (rest.is ∙ ap (λ c. c ∷ rest.others) is)
          ∙ ap (λ x. x ++ 58 ∷ rest.others) h.is ∙ append_assoc h.front h.after (58 ∷ rest.others);
      no_blank = h.pass;
      no_colon = subst (λ x. list_all (λ b. not (b == 58)) x ≡ true) h.is (before_fails (λ b. b == 58) s);
      ends = h.ends;
    }

-- words in front end with a blank
front_ended : (front : List ℕ) → 0 < length front → EndsTight (λ b. not (is_blank b)) front → is_ended front ≡ true
front_ended front some (inl none) = absurd (omega (arith, ap length none))
front_ended front some (inr (f, last, e, blank)) = ap is_ended e ∙ ended f last (twice (is_blank last) blank) where
  twice : (t : Bool) → not t ≡ false → t ≡ true
  twice true h = refl
  twice false h = sym h

times_written : (s : List ℕ) → begins_day (first_word s) ≡ true → list_any (λ b. b == 58) s ≡ true → 0 < length (before_times s) → HasTimes s (day_line s (before_times s))
times_written s begins e some =
    let h = parted s e in
    let w = words_of h.front (front_ended h.front (subst (λ x. 0 < length x) h.is some) h.ends) in
    subst (λ x. HasTimes s (day_line s x)) (sym h.is) (record {
      front = h.front;
      first = w.first;
      others = w.others;
      start = h.start;
      after = h.after;
      parts = h.parts;
      words = w.words;
      begins = sym (ap begins_day (ap first_word h.parts ∙ words_first w.first w.others h.front (h.start ++ 58 ∷ h.after) w.words)) ∙ begins;
      no_blank = h.no_blank;
      no_colon = h.no_colon;
      name = words_spaced w.first w.others h.front w.words;
      value = ap without_blanks (ap (drop (length h.front)) h.parts ∙ drop-append_seam h.front (h.start ++ 58 ∷ h.after));
    })

none_written : (s : List ℕ) → begins_day (first_word s) ≡ true → list_any (λ b. b == 58) s ≡ false → 0 < length (after_word s) → HasNoTimes s (day_line s s)
none_written s begins e some =
    let a = apart s some in
    let w = words_of (after_word s ++ 32 ∷ []) (ended (after_word s) 32 refl) in
    let tight : BeginsTight (after_word s ++ 32 ∷ []) = inr (a.first, a.others ++ 32 ∷ [], ap (λ x. x ++ 32 ∷ []) a.rest, a.begins) in
    let parts : s ++ 32 ∷ [] ≡ first_word s ++ (a.between ++ (after_word s ++ 32 ∷ [])) =
    ap (λ x. x ++ 32 ∷ []) a.parts ∙ append_assoc (first_word s) (a.between ++ after_word s) (32 ∷ []) ∙ ap (λ x. first_word s ++ x) (append_assoc a.between (after_word s) (32 ∷ [])) in
    let words : AreWords (s ++ 32 ∷ []) (first_word s ∷ w.first ∷ w.others) = (a.between, after_word s ++ 32 ∷ [], parts, a.word, a.blank, a.some_blank, tight, w.words) in
    record {
      first = first_word s;
      second = w.first;
      others = w.others;
      words = words;
      begins = begins;
      no_colon = all_colonless s e;
      name = sym (spaced_ended s) ∙ words_spaced (first_word s) (w.first ∷ w.others) (s ++ 32 ∷ []) words;
      value = ap without_blanks (drop-length s);
    }

pub day_written : (s : List ℕ) → 0 < length (day_front s) → IsDayLine s (day_line s (day_front s))
day_written s some = by_first (begins_day (first_word s)) refl where
  by_after : begins_day (first_word s) ≡ true → list_any (λ b. b == 58) s ≡ false → (t : Bool) → (length (after_word s) == 0) ≡ t → IsDayLine s (day_line s (day_front s))
  by_after begins colon true e = absurd (omega (arith, ap length (in_single s begins colon e), some))
  by_after begins colon false e =
      let after : 0 < length (after_word s) = grind (arith, tests) in
      subst (λ x. IsDayLine s (day_line s x)) (sym (in_none s begins colon e)) (inr (none_written s begins colon after))

  by_colon : begins_day (first_word s) ≡ true → (t : Bool) → list_any (λ b. b == 58) s ≡ t → IsDayLine s (day_line s (day_front s))
  by_colon begins true e =
      let front = in_times s begins e in
      subst (λ x. IsDayLine s (day_line s x)) (sym front) (inl (times_written s begins e (subst (λ x. 0 < length x) front some)))
  by_colon begins false e = by_after begins e (length (after_word s) == 0) refl

  by_first : (t : Bool) → begins_day (first_word s) ≡ t → IsDayLine s (day_line s (day_front s))
  by_first false e = absurd (omega (arith, ap length (in_other s e), some))
  by_first true e = by_colon e (list_any (λ b. b == 58) s) refl

-- the loop over words
module _ (whole so_far left : List ℕ) (some : 0 < length left) (done : spaced whole ≡ so_far ++ spaced left) where
  next_byte : spaced whole ≡ so_far ++ spaced (get_or left 0 0 ∷ take (length left - 1) (drop 1 left))
  next_byte = done ∙ ap (λ x. so_far ++ spaced x) (tail_is left some)

  pub mark_pushed : is_blank (get_or left 0 0) ≡ false → spaced whole ≡ (so_far ++ get_or left 0 0 ∷ []) ++ spaced (take (length left - 1) (drop 1 left))
  mark_pushed e =
      next_byte ∙ ap (λ x. so_far ++ x) (mark_spaced (get_or left 0 0) (take (length left - 1) (drop 1 left)) e)
      ∙ sym (append_assoc so_far (get_or left 0 0 ∷ []) (spaced (take (length left - 1) (drop 1 left))))

  pub space_pushed : is_blank (get_or left 0 0) ≡ true → starts_word (take (length left - 1) (drop 1 left)) ≡ true
      → spaced whole ≡ (so_far ++ 32 ∷ []) ++ spaced (take (length left - 1) (drop 1 left))
  space_pushed e s =
      next_byte ∙ ap (λ x. so_far ++ x) (gap_spaced (get_or left 0 0) (take (length left - 1) (drop 1 left)) e s)
      ∙ sym (append_assoc so_far (32 ∷ []) (spaced (take (length left - 1) (drop 1 left))))

  pub blank_dropped : is_blank (get_or left 0 0) ≡ true → starts_word (take (length left - 1) (drop 1 left)) ≡ false
      → spaced whole ≡ so_far ++ spaced (take (length left - 1) (drop 1 left))
  blank_dropped e s = next_byte ∙ ap (λ x. so_far ++ x) (blank_spaced (get_or left 0 0) (take (length left - 1) (drop 1 left)) e s)

pub all_spaced : (whole so_far left : List ℕ) → spaced whole ≡ so_far ++ spaced left → length left ≡ 0 → spaced whole ≡ so_far
unfolding spaced
all_spaced whole so_far left done e = done ∙ ap (λ x. so_far ++ spaced x) (nil_from_length left e) ∙ append-nil so_far

times_le : (s : List ℕ) → length (before_times s) ≤ length s
times_le s = by_colon (list_any (λ b. b == 58) s) refl where
  by_colon : (t : Bool) → list_any (λ b. b == 58) s ≡ t → length (before_times s) ≤ length s
  by_colon false e = omega (arith, ap length (bare s e))
  by_colon true e = let h = parted s e in omega (arith, ap length h.is, ap length h.parts, length-append h.front (h.start ++ 58 ∷ h.after))

pub day_front_le : (s : List ℕ) → length (day_front s) ≤ length s
day_front_le s = by_first (begins_day (first_word s)) refl where
  by_after : begins_day (first_word s) ≡ true → list_any (λ b. b == 58) s ≡ false → (t : Bool) → (length (after_word s) == 0) ≡ t → length (day_front s) ≤ length s
  by_after begins colon true e = omega (arith, ap length (in_single s begins colon e))
  by_after begins colon false e = omega (arith, ap length (in_none s begins colon e))

  by_colon : begins_day (first_word s) ≡ true → (t : Bool) → list_any (λ b. b == 58) s ≡ t → length (day_front s) ≤ length s
  by_colon begins true e = omega (arith, ap length (in_times s begins e), times_le s)
  by_colon begins false e = by_after begins e (length (after_word s) == 0) refl

  by_first : (t : Bool) → begins_day (first_word s) ≡ t → length (day_front s) ≤ length s
  by_first false e = omega (arith, ap length (in_other s e))
  by_first true e = by_colon e (list_any (λ b. b == 58) s) refl
