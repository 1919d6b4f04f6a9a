-- Lists up to the first element that passes, and blanks at their ends.
use Rattle.std.proofs.Common.{◌≡◌, ℕ, suc, ◌+◌, ◌-◌, ◌<◌, ◌≤◌, ◌⊎◌, inl, inr, Option, None, Some, nat_lt, nat_le, ◌==◌, Bool, true, false, not, List, [], ◌∷◌, ◌++◌, length, take, drop, get_or, reverse, refl, sym, ap, subst, ◌∙◌, arith, tests, one-add, append_assoc, length-append}
use Rattle.std.proofs.lemmas.Bool.{and_parts, and_from}
use Rattle.std.proofs.lemmas.List.{take-append-drop, reverse-append, length-reverse, append-nil}
use Rattle.std.proofs.Math.Seq.{drop-append_seam, take-append_seam, drop-length, take-length}
use Rattle.std.proofs.lemmas.List.Sums.{prefix_len-le-length, position_or_len_is, fails_before_first}
use Rattle.std.specs.Option.{unwrap_or}
use Rattle.std.specs.List.{position, position_or_len, prefix_len, suffix_len, before_first, list_all}
use Rattle.object_reader.specs.claims.Blanks.{is_blank, trim_start, without_end, AreBlanks, BeginsTight}

pub stops : (p : ℕ → Bool) (xs : List ℕ) (y : ℕ) (ys : List ℕ) → list_all (λ b. not (p b)) xs ≡ true → p y ≡ true → position_or_len p (xs ++ y ∷ ys) ≡ length xs
stops p [] y ys h e = rw e refl
stops p (x ∷ xs) y ys h e =
    let parts = and_parts (not (p x)) (list_all (λ b. not (p b)) xs) h in
    let none : not (p x) ≡ true = parts.0 in
    let more : position_or_len p (xs ++ y ∷ ys) ≡ length xs = stops p xs y ys parts.1 e in
    rw (none, one-add) (ap suc more)

-- what stands before it doesn't pass
pub before_fails : (p : ℕ → Bool) (xs : List ℕ) → list_all (λ b. not (p b)) (before_first p xs) ≡ true
before_fails p [] = refl
before_fails p (x ∷ xs) = at_head (before_fails p xs) (p x) refl where
  at_head : list_all (λ b. not (p b)) (before_first p xs) ≡ true → (t : Bool) → p x ≡ t → list_all (λ b. not (p b)) (before_first p (x ∷ xs)) ≡ true
  at_head h true e = rw e refl
  at_head h false e = rw (e, one-add) (rw e h)

-- the rest begins with an element that passes
pub record BeginsWith (p : ℕ → Bool) (xs : List ℕ) : Type 0 where
  pub first : ℕ
  pub others : List ℕ
  pub is : xs ≡ first ∷ others
  pub passes : p first ≡ true

pub rest_begins : (p : ℕ → Bool) (xs : List ℕ) → 0 < length (drop (position_or_len p xs) xs) → BeginsWith p (drop (position_or_len p xs) xs)
rest_begins p [] h = absurd (omega arith)
rest_begins p (x ∷ xs) h = at_head (rest_begins p xs) (p x) refl where
  at_head : (0 < length (drop (position_or_len p xs) xs) → BeginsWith p (drop (position_or_len p xs) xs)) → (t : Bool) → p x ≡ t
      → BeginsWith p (drop (position_or_len p (x ∷ xs)) (x ∷ xs))
  at_head later true e = rw e (record { first = x; others = xs; is = refl; passes = e })
  at_head later false e = rw (e, one-add) (later (rw (e, one-add) at h))

pub none_or_some : (xs : List ℕ) → (xs ≡ []) ⊎ (0 < length xs)
none_or_some [] = inl refl
none_or_some (x ∷ xs) = inr (omega arith)

pub not_mark : (t : Bool) → not t ≡ true → t ≡ false
not_mark true e = sym e
not_mark false e = refl

-- the longest front that passes

pub prefix_all : (p : ℕ → Bool) (xs : List ℕ) → list_all p xs ≡ true → prefix_len p xs ≡ length xs
prefix_all p [] h = refl
prefix_all p (x ∷ xs) h =
    let parts = and_parts (p x) (list_all p xs) h in
    let yes : p x ≡ true = parts.0 in
    rw (yes, one-add) (ap suc (prefix_all p xs parts.1))

prefix_stops : (p : ℕ → Bool) (xs : List ℕ) (y : ℕ) (ys : List ℕ) → list_all p xs ≡ true → p y ≡ false → prefix_len p (xs ++ y ∷ ys) ≡ length xs
prefix_stops p [] y ys h e = rw e refl
prefix_stops p (x ∷ xs) y ys h e =
    let parts = and_parts (p x) (list_all p xs) h in
    let yes : p x ≡ true = parts.0 in
    rw (yes, one-add) (ap suc (prefix_stops p xs y ys parts.1 e))

pub all_append : (p : ℕ → Bool) (xs ys : List ℕ) → list_all p xs ≡ true → list_all p ys ≡ true → list_all p (xs ++ ys) ≡ true
all_append p [] ys h k = k
all_append p (x ∷ xs) ys h k = let parts = and_parts (p x) (list_all p xs) h in and_from (p x) (list_all p (xs ++ ys)) parts.0 (all_append p xs ys parts.1 k)

pub all_parts : (p : ℕ → Bool) (xs ys : List ℕ) → list_all p (xs ++ ys) ≡ true → (list_all p xs ≡ true) × (list_all p ys ≡ true)
all_parts p [] ys h = (refl, h)
all_parts p (x ∷ xs) ys h =
    let parts = and_parts (p x) (list_all p (xs ++ ys)) h in
    let more = all_parts p xs ys parts.1 in
    (and_from (p x) (list_all p xs) parts.0 more.0, more.1)

all_reverse : (p : ℕ → Bool) (xs : List ℕ) → list_all p xs ≡ true → list_all p (reverse xs) ≡ true
all_reverse p [] h = refl
all_reverse p (x ∷ xs) h =
    let parts = and_parts (p x) (list_all p xs) h in
    subst (λ l. list_all p l ≡ true) (sym (reverse-append (x ∷ []) xs)) (all_append p (reverse xs) (x ∷ []) (all_reverse p xs parts.1) (and_from (p x) true parts.0 refl))

-- a list without the elements at its end that pass

end_at : (p : ℕ → Bool) (s after : List ℕ) → suffix_len p (s ++ after) ≡ length after → without_end p (s ++ after) ≡ s
end_at p s after e =
    let n : length (s ++ after) - suffix_len p (s ++ after) ≡ length s = omega (arith, length-append s after, e) in
    ap (λ k. take k (s ++ after)) n ∙ take-append_seam s after

-- a list that is empty, or whose last element doesn't pass
abbrev pub EndsTight : (ℕ → Bool) → List ℕ → Type 0
EndsTight p s = (s ≡ []) ⊎ ((front : List ℕ) × (last : ℕ) × (s ≡ front ++ last ∷ []) × (p last ≡ false))

pub end_dropped : (p : ℕ → Bool) (s after : List ℕ) → EndsTight p s → list_all p after ≡ true → without_end p (s ++ after) ≡ s
end_dropped p s after (inl none) pass =
    end_at p s after (ap (λ x. suffix_len p (x ++ after)) none ∙ prefix_all p (reverse after) (all_reverse p after pass) ∙ length-reverse after)
end_dropped p s after (inr (front, last, e, fails)) pass =
    let turned : reverse (s ++ after) ≡ reverse after ++ last ∷ reverse front = reverse-append s after ∙ ap (λ x. reverse after ++ x) (ap reverse e ∙ reverse-append front (last ∷ [])) in
    end_at p s after (ap (prefix_len p) turned ∙ prefix_stops p (reverse after) last (reverse front) (all_reverse p after pass) fails ∙ length-reverse after)

-- each list is one that ends so, and elements that pass
pub record IsSplit (p : ℕ → Bool) (t : List ℕ) : Type 0 where
  pub front : List ℕ
  pub after : List ℕ
  pub is : t ≡ front ++ after
  pub pass : list_all p after ≡ true
  pub ends : EndsTight p front

pub split_end : (p : ℕ → Bool) (t : List ℕ) → IsSplit p t
split_end p [] = record { front = []; after = []; is = refl; pass = refl; ends = inl refl }
split_end p (b ∷ bs) = more (split_end p bs) where
  more : IsSplit p bs → IsSplit p (b ∷ bs)
  more h = by_end h.ends where
    by_end : EndsTight p h.front → IsSplit p (b ∷ bs)
    by_end (inl none) = by_head (p b) refl where
      by_head : (t : Bool) → p b ≡ t → IsSplit p (b ∷ bs)
      by_head true e = record { front = []; after = b ∷ h.after; is = ap (λ x. b ∷ x) (h.is ∙ ap (λ x. x ++ h.after) none); pass = and_from (p b) (list_all p h.after) e h.pass; ends = inl refl }
      by_head false e = record { front = b ∷ []; after = h.after; is = ap (λ x. b ∷ x) (h.is ∙ ap (λ x. x ++ h.after) none); pass = h.pass; ends = inr ([], b, refl, e) }
    by_end (inr (front, last, e, fails)) = record { front = b ∷ h.front; after = h.after; is = ap (λ x. b ∷ x) h.is; pass = h.pass; ends = inr (b ∷ front, last, ap (λ x. b ∷ x) e, fails) }

-- blanks

-- bytes of which none is a mark are blanks
pub blanks_from : (xs : List ℕ) → list_all (λ b. not (not (is_blank b))) xs ≡ true → AreBlanks xs
blanks_from [] h = refl
blanks_from (x ∷ xs) h =
    let parts = and_parts (not (not (is_blank x))) (list_all (λ b. not (not (is_blank b))) xs) h in
    and_from (is_blank x) (list_all is_blank xs) (double (is_blank x) parts.0) (blanks_from xs parts.1) where
      double : (t : Bool) → not (not t) ≡ true → t ≡ true
      double true e = refl
      double false e = e

blanks_to : (xs : List ℕ) → AreBlanks xs → list_all (λ b. not (not (is_blank b))) xs ≡ true
blanks_to [] h = refl
blanks_to (x ∷ xs) h =
    let parts = and_parts (is_blank x) (list_all is_blank xs) h in
    let blank : is_blank x ≡ true = parts.0 in
    rw (blank, blanks_to xs parts.1) refl

-- blanks before a mark are trimmed
pub blanks_dropped : (blanks : List ℕ) (y : ℕ) (ys : List ℕ) → AreBlanks blanks → is_blank y ≡ false → trim_start (blanks ++ y ∷ ys) ≡ y ∷ ys
blanks_dropped blanks y ys h e =
    let mark : not (is_blank y) ≡ true = rw e refl in
    rw (stops (λ b. not (is_blank b)) blanks y ys (blanks_to blanks h) mark) (drop-append_seam blanks (y ∷ ys))

-- blanks alone
pub all_trimmed : (bs : List ℕ) → AreBlanks bs → trim_start bs ≡ []
all_trimmed bs h = rw (prefix_all (λ b. not (not (is_blank b))) bs (blanks_to bs h)) (drop-length bs)

-- blanks before what begins with a mark, or is nothing
pub blanks_trimmed : (blanks left : List ℕ) → AreBlanks blanks → BeginsTight left → trim_start (blanks ++ left) ≡ left
blanks_trimmed blanks left h (inl none) = ap (λ x. trim_start (blanks ++ x)) none ∙ ap trim_start (append-nil blanks) ∙ all_trimmed blanks h ∙ sym none
blanks_trimmed blanks left h (inr (first, others, e, mark)) = ap (λ x. trim_start (blanks ++ x)) e ∙ blanks_dropped blanks first others h mark ∙ sym e

-- what is left begins with a mark, or is nothing
pub left_tight : (bs : List ℕ) → BeginsTight (trim_start bs)
left_tight bs = by_length (none_or_some (trim_start bs)) where
  by_length : (trim_start bs ≡ []) ⊎ (0 < length (trim_start bs)) → BeginsTight (trim_start bs)
  by_length (inl e) = inl e
  by_length (inr some) = let h = rest_begins (λ b. not (is_blank b)) bs some in inr (h.first, h.others, h.is, not_mark (is_blank h.first) h.passes)

pub trimmed_parts : (bs : List ℕ) → bs ≡ before_first (λ b. not (is_blank b)) bs ++ trim_start bs
trimmed_parts bs = sym (take-append-drop (position_or_len (λ b. not (is_blank b)) bs) bs)

-- trimming twice, and across two parts
trim_blank : (b : ℕ) (bs : List ℕ) → is_blank b ≡ true → trim_start (b ∷ bs) ≡ trim_start bs
trim_blank b bs e = rw (e, one-add) refl

trim_mark : (b : ℕ) (bs : List ℕ) → is_blank b ≡ false → trim_start (b ∷ bs) ≡ b ∷ bs
trim_mark b bs e = rw e refl

trim_twice : (bs : List ℕ) → trim_start (trim_start bs) ≡ trim_start bs
trim_twice bs = blanks_trimmed [] (trim_start bs) refl (left_tight bs)

pub trim_across : (xs ys : List ℕ) → trim_start (xs ++ trim_start ys) ≡ trim_start xs ++ trim_start ys
trim_across [] ys = trim_twice ys
trim_across (x ∷ xs) ys = by_head (trim_across xs ys) (is_blank x) refl where
  by_head : trim_start (xs ++ trim_start ys) ≡ trim_start xs ++ trim_start ys → (t : Bool) → is_blank x ≡ t → trim_start (x ∷ (xs ++ trim_start ys)) ≡ trim_start (x ∷ xs) ++ trim_start ys
  by_head same true e = trim_blank x (xs ++ trim_start ys) e ∙ same ∙ ap (λ z. z ++ trim_start ys) (sym (trim_blank x xs e))
  by_head same false e = trim_mark x (xs ++ trim_start ys) e ∙ ap (λ z. z ++ trim_start ys) (sym (trim_mark x xs e))

-- a list that isn't empty, by its first element and the rest
pub tail_is : (bs : List ℕ) → 0 < length bs → bs ≡ get_or bs 0 0 ∷ take (length bs - 1) (drop 1 bs)
tail_is [] h = absurd (omega arith)
tail_is (b ∷ bs) h = let n : length (b ∷ bs) - 1 ≡ length bs = omega arith in ap (λ x. b ∷ x) (sym (ap (λ k. take k bs) n ∙ take-length bs))

-- where the first place is looked for, and the end is taken where there is none
pub first_place : (p : ℕ → Bool) (xs : List ℕ) (place : ℕ) (found : Option ℕ) → found ≡ position p xs → place ≡ unwrap_or found (length xs)
    → (place ≤ length xs) × (place ≡ position_or_len p xs)
first_place p xs place found here is = by_place (nat_lt (position_or_len p xs) (length xs)) refl where
  within : position_or_len p xs ≤ length xs
  within = prefix_len-le-length (λ x. not (p x)) xs

  by_place : (t : Bool) → nat_lt (position_or_len p xs) (length xs) ≡ t → (place ≤ length xs) × (place ≡ position_or_len p xs)
  by_place true e =
      let at : found ≡ Some (position_or_len p xs) = here ∙ rw e refl in
      let same : place ≡ position_or_len p xs = is ∙ ap (λ o. unwrap_or o (length xs)) at in
      (omega (arith, same, within), same)
  by_place false e =
      let none : found ≡ None = here ∙ rw e refl in
      let last : place ≡ length xs = is ∙ ap (λ o. unwrap_or o (length xs)) none in
      let beyond : length xs ≤ position_or_len p xs = search (arith, tests) in
      (omega (arith, last), omega (arith, last, beyond, within))

-- the first place by a test that more elements pass

place_of : (p : ℕ → Bool) (xs : List ℕ) (place : ℕ) → position p xs ≡ Some place → (position_or_len p xs ≡ place) × (place < length xs)
place_of p xs place is = by_test (nat_lt (position_or_len p xs) (length xs)) refl where
  by_test : (t : Bool) → nat_lt (position_or_len p xs) (length xs) ≡ t → (position_or_len p xs ≡ place) × (place < length xs)
  by_test true e =
      let found : Some (position_or_len p xs) ≡ Some place = rw e at is in
      let same : position_or_len p xs ≡ place = cc in
      let below : position_or_len p xs < length xs = search (arith, tests) in
      (same, omega (arith, same, below))
  by_test false e = let none : None ≡ Some place = rw e at is in let never : ⊥ = cc in absurd never

blank_low : (b : ℕ) → nat_le b 32 ≡ false → is_blank b ≡ false
blank_low b h = by_space (b == 32) refl where
  by_tab : (t : Bool) → (b == 9) ≡ t → (b == 9) ≡ false
  by_tab false e = e
  by_tab true e = let is : b ≡ 9 = grind (arith, tests) in let low : nat_le b 32 ≡ true = rw is refl in let never : ⊥ = cc in absurd never

  by_space : (t : Bool) → (b == 32) ≡ t → is_blank b ≡ false
  by_space false e = rw e (by_tab (b == 9) refl)
  by_space true e = let is : b ≡ 32 = grind (arith, tests) in let low : nat_le b 32 ≡ true = rw is refl in let never : ⊥ = cc in absurd never

pub blank_found : (bs : List ℕ) (place : ℕ) (found : Option ℕ) → found ≡ position (λ b. nat_le b 32) bs → found ≡ Some place → is_blank (get_or bs place 0) ≡ true
    → Some place ≡ position is_blank bs
blank_found bs place found here is blank =
    let at = place_of (λ b. nat_le b 32) bs place (sym here ∙ is) in
    let first : position_or_len is_blank bs ≡ place =
    position_or_len_is is_blank bs place 0 (omega (arith, at.1))
    (λ k below. blank_low (get_or bs k 0) (fails_before_first (λ b. nat_le b 32) bs k 0 (omega (arith, below, at.0)))) (λ within. blank) in
    let below : nat_lt place (length bs) ≡ true = search (arith, tests, at.1) in
    rw (first, below) refl

pub no_blank : (bs : List ℕ) (found : Option ℕ) → found ≡ position (λ b. nat_le b 32) bs → found ≡ None → None ≡ position is_blank bs
no_blank bs found here is = by_test (nat_lt (position_or_len (λ b. nat_le b 32) bs) (length bs)) refl where
  none : position (λ b. nat_le b 32) bs ≡ None
  none = sym here ∙ is

  by_test : (t : Bool) → nat_lt (position_or_len (λ b. nat_le b 32) bs) (length bs) ≡ t → None ≡ position is_blank bs
  by_test true e = let some : Some (position_or_len (λ b. nat_le b 32) bs) ≡ None = rw e at none in let never : ⊥ = cc in absurd never
  by_test false e =
      let last : length bs ≤ position_or_len (λ b. nat_le b 32) bs = search (arith, tests) in
      let first : position_or_len is_blank bs ≡ length bs =
      position_or_len_is is_blank bs (length bs) 0 (omega arith)
      (λ k below. blank_low (get_or bs k 0) (fails_before_first (λ b. nat_le b 32) bs k 0 (omega (arith, below, last)))) (λ within. absurd (omega (arith, within))) in
      let beyond : nat_lt (length bs) (length bs) ≡ false = search (arith, tests) in
      rw (first, beyond) refl
