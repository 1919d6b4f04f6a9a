-- The first word of a statement, and what stands after it.
use Rattle.std.proofs.Common.{◌≡◌, ℕ, ◌<◌, Bool, true, false, not, List, [], ◌∷◌, ◌++◌, length, take, drop, refl, sym, ap, subst, ◌∙◌, arith, one-add, length-append}
use Rattle.std.proofs.lemmas.Bool.{and_parts}
use Rattle.std.proofs.lemmas.List.{take-append-drop}
use Rattle.std.proofs.lemmas.List.Folds.{length-prefix_len}
use Rattle.std.proofs.Math.Seq.{drop-append_seam, take-append_seam}
use Rattle.std.specs.List.{position_or_len, before_first, list_all}
use Rattle.object_reader.specs.claims.Blanks.{is_blank, trim_start, AreBlanks}
use Rattle.object_reader.specs.claims.Statements.{first_word}
use Rattle.object_reader.specs.Statements.{after_word}
use Rattle.object_reader.proofs.Trimming.{stops, before_fails, BeginsWith, rest_begins, blanks_from, blanks_dropped, not_mark}

-- the part before the first element that passes, and the rest
pub front_and_rest : (p : ℕ → Bool) (xs : List ℕ) → xs ≡ before_first p xs ++ drop (length (before_first p xs)) xs
front_and_rest p xs = rw (length-prefix_len (λ b. not (p b)) xs) (sym (take-append-drop (position_or_len p xs) xs))

-- a word, and blanks after it
pub word_first : (word : List ℕ) (y : ℕ) (ys : List ℕ) → list_all (λ b. not (is_blank b)) word ≡ true → is_blank y ≡ true → first_word (word ++ y ∷ ys) ≡ word
word_first word y ys h e = rw (stops is_blank word y ys h e) (take-append_seam word (y ∷ ys))

-- blanks that aren't empty begin with one
pub blanks_begin : (blanks : List ℕ) → AreBlanks blanks → 0 < length blanks → BeginsWith is_blank blanks
blanks_begin [] h some = absurd (omega arith)
blanks_begin (y ∷ ys) h some = record { first = y; others = ys; is = refl; passes = (and_parts (is_blank y) (list_all is_blank ys) h).0 }

-- what stands after a word, blanks and what begins with a mark
pub after_first_word : (word blanks : List ℕ) (z : ℕ) (zs : List ℕ) → list_all (λ b. not (is_blank b)) word ≡ true → AreBlanks blanks → 0 < length blanks → is_blank z ≡ false
    → (first_word (word ++ (blanks ++ z ∷ zs)) ≡ word) × (after_word (word ++ (blanks ++ z ∷ zs)) ≡ z ∷ zs)
after_first_word word blanks z zs h blank some mark =
    let b = blanks_begin blanks blank some in
    let w : first_word (word ++ (blanks ++ z ∷ zs)) ≡ word = ap (λ bs. first_word (word ++ (bs ++ z ∷ zs))) b.is ∙ word_first word b.first (b.others ++ z ∷ zs) h b.passes in
    (w, ap (λ f. trim_start (drop (length f) (word ++ (blanks ++ z ∷ zs)))) w ∙ ap trim_start (drop-append_seam word (blanks ++ z ∷ zs)) ∙ blanks_dropped blanks z zs blank mark)

-- a blank is taken with those before the first mark
blank_taken : (y : ℕ) (ys : List ℕ) → is_blank y ≡ true → 0 < length (before_first (λ b. not (is_blank b)) (y ∷ ys))
blank_taken y ys e = rw (e, one-add) (omega arith)

-- a statement with something after its first word: the word, blanks, and what begins with a mark
pub record IsApart (s : List ℕ) : Type 0 where
  pub between : List ℕ
  pub first : ℕ
  pub others : List ℕ
  pub parts : s ≡ first_word s ++ (between ++ after_word s)
  pub word : list_all (λ b. not (is_blank b)) (first_word s) ≡ true
  pub blank : AreBlanks between
  pub some_blank : 0 < length between
  pub rest : after_word s ≡ first ∷ others
  pub begins : is_blank first ≡ false

pub apart : (s : List ℕ) → 0 < length (after_word s) → IsApart s
apart s some =
    let mark : ℕ → Bool = λ b. not (is_blank b) in
    let tail : List ℕ = drop (length (first_word s)) s in
    let same : tail ≡ drop (position_or_len is_blank s) s = ap (λ n. drop n s) (length-prefix_len (λ b. not (is_blank b)) s) in
    let begins = rest_begins mark tail some in
    let tail_some : 0 < length tail = omega (arith, ap length (take-append-drop (position_or_len mark tail) tail), length-append (take (position_or_len mark tail) tail) (drop (position_or_len mark tail) tail)) in
    let blank = rest_begins is_blank s (subst (λ t. 0 < length t) same tail_some) in
    record {
      between = before_first mark tail;
      first = begins.first;
      others = begins.others;
      parts = front_and_rest is_blank s ∙ ap (λ t. first_word s ++ t) (sym (take-append-drop (position_or_len mark tail) tail));
      word = before_fails is_blank s;
      blank = blanks_from (before_first mark tail) (before_fails mark tail);
      some_blank = subst (λ t. 0 < length (before_first mark t)) (sym (same ∙ blank.is)) (blank_taken blank.first blank.others blank.passes);
      rest = begins.is;
      begins = not_mark (is_blank begins.first) begins.passes;
    }
