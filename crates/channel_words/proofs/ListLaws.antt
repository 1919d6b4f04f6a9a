-- Lists of words.
use Rattle.std.proofs.Common.{◌≡◌, ◌≢◌, ℕ, ◌+◌, ◌<◌, ◌≤◌, All, false, eqb, List, [], ◌∷◌, ◌++◌, length, take, get_or, map, filter, refl, sym, ap, ap₂, subst, ◌∙◌, append_assoc}
use Rattle.std.proofs.lemmas.Bool.{ne_eqb}
use Rattle.std.proofs.lemmas.List.{map_push, take-map, take_all, take_more}
use Rattle.std.proofs.lemmas.List.Elements.{All-from_get_or, All-map, All-push, All-same, All-weaker, filter-append}
use Rattle.std.proofs.lemmas.List.Splits.{slice_split_first, slice_split_none}
use Rattle.std.proofs.lemmas.Option.{slice_get-get_or, slice_get-map}
use Rattle.std.specs.Option.{option_map}
use Rattle.std.specs.List.{after_first, before_first, position_or_len, slice_split}
use Rattle.channel_words.specs.declared.word.ChannelWord.{ChannelWord}
use Rattle.channel_words.specs.Words.{AreRead, IsFirst, IsWhole, IsWord, Lacks, is_word, word_text, words_in}

-- ---- the words between spaces

-- the words of a line whose first space parts it
pub words_parted : (line word after : List ℕ) → position_or_len (λ b. eqb b 32) line < length line → word ≡ before_first (λ b. eqb b 32) line → after ≡ after_first (λ b. eqb b 32) line
    → words_in line ≡ filter is_word (word ∷ []) ++ words_in after
words_parted line word after within w a =
    ap (filter is_word) (slice_split_first (λ b. eqb b 32) line 0 within ∙ ap₂ (λ (x : List ℕ) (y : List ℕ). x ∷ slice_split (λ b. eqb b 32) y) (sym w) (sym a))
    ∙ filter-append is_word (word ∷ []) (slice_split (λ b. eqb b 32) after)

-- those of one word more
pub words_more : (line rest word after : List ℕ) (olds news : List (List ℕ)) → (position_or_len (λ b. eqb b 32) rest < length rest) × (word ≡ before_first (λ b. eqb b 32) rest) × (after ≡ after_first (λ b. eqb b 32) rest)
    → news ≡ olds ++ filter is_word (word ∷ []) → olds ++ words_in rest ≡ words_in line → news ++ words_in after ≡ words_in line
words_more line rest word after olds news (within, w, a) more so =
    ap (λ (xs : List (List ℕ)). xs ++ words_in after) more
    ∙ append_assoc olds (filter is_word (word ∷ [])) (words_in after)
    ∙ ap (λ (xs : List (List ℕ)). olds ++ xs) (sym (words_parted rest word after within w a))
    ∙ so

-- and those of the last
pub words_last : (line rest : List ℕ) (olds news : List (List ℕ)) → Lacks 32 rest → news ≡ olds ++ filter is_word (rest ∷ []) → olds ++ words_in rest ≡ words_in line → news ≡ words_in line
words_last line rest olds news lacks more so =
    let none : All (λ b. eqb b 32 ≡ false) rest = All-from_get_or (λ b. eqb b 32 ≡ false) rest 0 (λ k h. ne_eqb (get_or rest k 0) 32 (lacks k h)) in
    more ∙ ap (λ (xs : List (List ℕ)). olds ++ filter is_word xs) (sym (slice_split_none (λ b. eqb b 32) rest none)) ∙ so

-- ---- a list that is gone through

module _ {X Y : Type 0} (f : X → Y) (xs : List X) (i : ℕ) (d : X) (within : i < length xs) where
  -- one element more
  pub map_more : map f (take (i + 1) xs) ≡ map f (take i xs) ++ f (get_or xs i d) ∷ []
  map_more = ap (map f) (take_more xs i d within) ∙ map_push f (take i xs) (get_or xs i d)

  pub all_more : (P : Y → Type 0) → All P (map f (take i xs)) → P (f (get_or xs i d)) → All P (map f (take (i + 1) xs))
  all_more P all here = All-same P (map f (take (i + 1) xs)) (map f (take i xs) ++ f (get_or xs i d) ∷ []) map_more (All-push P (map f (take i xs)) (f (get_or xs i d)) all here)

  -- it is the first of which p holds
  pub is_first : (p : Y → Type 0) → All (λ y. ¬ p y) (map f (take i xs)) → p (f (get_or xs i d)) → IsFirst p (f (get_or xs i d)) (map f xs)
  is_first p none here = record {
    place = i;
    here = slice_get-map f xs i ∙ ap (option_map f) (slice_get-get_or xs i d within);
    holds = here;
    earlier = All-same (λ y. ¬ p y) (take i (map f xs)) (map f (take i xs)) (take-map f i xs) none;
  }

-- ---- the words that were read

-- those of the first texts, and one more
pub read_more : {X : Type 0} (now : X → List ℕ) (texts : List X) (i : ℕ) (words : List ChannelWord) (d : X) → i < length texts → AreRead (map now (take i texts)) words
    → (word : ChannelWord) → IsWhole word × (now (get_or texts i d) ≡ word_text word) → AreRead (map now (take (i + 1) texts)) (words ++ word ∷ [])
read_more now texts i words d within so word (whole, is) = record {
  texts_are = map_more now texts i d within ∙ ap₂ (λ (xs : List (List ℕ)) (x : List ℕ). xs ++ x ∷ []) so.texts_are is ∙ sym (map_push word_text words word);
  whole = All-push IsWhole words word so.whole whole;
}

pub read_all : {X : Type 0} (now : X → List ℕ) (texts : List X) (i : ℕ) (words : List ChannelWord) → length texts ≤ i → AreRead (map now (take i texts)) words → AreRead (map now texts) words
read_all {X} now texts i words h so = subst (λ (ts : List X). AreRead (map now ts) words) (take_all i texts h) so

-- the texts so far say channels
are_words : (texts : List (List ℕ)) (words : List ChannelWord) → AreRead texts words → All (λ text. ¬ (¬ IsWord text)) texts
are_words texts words so =
    All-same (λ text. ¬ (¬ IsWord text)) texts (map word_text words) so.texts_are
    (All-map (λ text. ¬ (¬ IsWord text)) word_text words (All-weaker IsWhole (λ word. ¬ (¬ IsWord (word_text word))) (λ word whole none. none (word, whole, refl)) words so.whole))

-- and the next says none
pub bad_first : {X : Type 0} (now : X → List ℕ) (texts : List X) (i : ℕ) (words : List ChannelWord) (d : X) → i < length texts → AreRead (map now (take i texts)) words
    → ((word : ChannelWord) → IsWhole word → now (get_or texts i d) ≢ word_text word) → IsFirst (λ text. ¬ IsWord text) (now (get_or texts i d)) (map now texts)
bad_first now texts i words d within so none =
    is_first now texts i d within (λ text. ¬ IsWord text) (are_words (map now (take i texts)) words so) (λ is. none is.0 is.1 is.2)
