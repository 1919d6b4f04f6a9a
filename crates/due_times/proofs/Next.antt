-- The first place from one on that is due, and what is left once all that is due was taken out.
use Rattle.std.proofs.Common.{◌≡◌, ◌≢◌, ℕ, zero, suc, ◌+◌, ◌-◌, ◌*◌, ◌/◌, ◌%◌, ◌^◌, ◌<◌, ◌≤◌, ◌⊎◌, inl, inr, Bool, true, false, cond, List, [], ◌∷◌, length, Option, Some, None, nat_lt, nat_le, refl, sym, ap, subst, ◌∙◌, arith, filter, get_or}
use Rattle.std.proofs.lemmas.Bool.{cases_eq, cases_lt, false≢true}
use Rattle.std.proofs.lemmas.List.{get_or_default}
use Rattle.std.proofs.Math.Nat.{add_comm, add-mod-mod, mod-eq_of_lt, mod-lt}
use Rattle.std.specs.Prelude.{IfNone, IfSome}
use Rattle.std.proofs.lemmas.Grind.{common_steps}
use Rattle.due_model.specs.claims.Rules.{has_come}
use Rattle.due_times.specs.claims.Index.{at}
use Rattle.due_times.specs.Index.{IsNextDue, NoneIsDueFrom, NothingIsDue, Sets, due_count, earlier, left_at}
use Rattle.due_times.specs.Levels.{ArePaired, IsAbove, level}
use Rattle.due_times.proofs.Moments.{halves}
use Rattle.due_times.proofs.Climbing.{entry_within}

-- ---- pairs

by_test : (t b a : ℕ) (e : Bool) → nat_lt b a ≡ e → has_come (Some a) t ≡ false → has_come (Some b) t ≡ false → has_come (cond e (Some b) (Some a)) t ≡ false
by_test t b a true e first second = second
by_test t b a false e first second = first

-- the earlier of two that aren't due isn't
pub earlier_not_due : (t : ℕ) (a b : Option ℕ) → has_come a t ≡ false → has_come b t ≡ false → has_come (earlier a b) t ≡ false
earlier_not_due t None None first second = refl
earlier_not_due t None (Some b) first second = second
earlier_not_due t (Some a) None first second = first
earlier_not_due t (Some a) (Some b) first second = by_test t b a (nat_lt b a) refl first second

-- where the earlier of two isn't due, neither is
pub neither_due : (t : ℕ) (a b : Option ℕ) → has_come (earlier a b) t ≡ false → (has_come a t ≡ false) × (has_come b t ≡ false)
neither_due t None None h = (refl, refl)
neither_due t None (Some b) h = (refl, h)
neither_due t (Some a) None h = (h, refl)
neither_due t (Some a) (Some b) h = by (nat_lt b a) refl h
  where
    by : (e : Bool) → nat_lt b a ≡ e → has_come (cond e (Some b) (Some a)) t ≡ false → (nat_le a t ≡ false) × (nat_le b t ≡ false)
    by true e later = (grind (arith, common_steps), later)
    by false e later = (later, grind (arith, common_steps))

-- ---- the first that is due, from one level to the one below

module _ (below above : List (Option ℕ)) (from t : ℕ) (is : IsAbove below above) (waits : has_come (at below from) t ≡ false) where
  -- what isn't due above the places from one on isn't there
  rest_waits : (p h : ℕ) → from ≤ p → (p ≡ 2 * h) ⊎ (p ≡ 2 * h + 1) → ((from + 1) / 2 ≤ h → has_come (at above h) t ≡ false) → has_come (at below p) t ≡ false
  rest_waits p h more is_half quiet = by_place (cases_eq p from)
    where
      enough : p ≢ from → (from + 1) / 2 ≤ h
      enough ne = elim is_half [ inl e ↦ omega (arith, more, e, ne) | inr e ↦ omega (arith, more, e, ne) ]

      both : p ≢ from → (has_come (at below (2 * h)) t ≡ false) × (has_come (at below (2 * h + 1)) t ≡ false)
      both ne = neither_due t (at below (2 * h)) (at below (2 * h + 1)) (rw (← is.pairs h) (quiet (enough ne)))

      by_place : (p ≡ from) ⊎ (p ≢ from) → has_come (at below p) t ≡ false
      by_place (inl e) = rw e waits
      by_place (inr ne) = elim is_half [ inl e ↦ rw e ((both ne).0) | inr e ↦ rw e ((both ne).1) ]

  pub none_below : NoneIsDueFrom above ((from + 1) / 2) t → NoneIsDueFrom below from t
  none_below none p more = let h = halves p in rest_waits p h.0 more h.1 (λ far. none h.0 far)

  -- the place that is due first lies below the one above it
  module _ (q : ℕ) (next : IsNextDue above ((from + 1) / 2) t q) where
    pub due_place : ℕ
    due_place = cond (has_come (at below (2 * q)) t) (2 * q) (2 * q + 1)

    second_due : has_come (at below (2 * q)) t ≡ false → has_come (at below (2 * q + 1)) t ≡ true
    second_due first = by_second (has_come (at below (2 * q + 1)) t) refl
      where
        by_second : (b : Bool) → has_come (at below (2 * q + 1)) t ≡ b → b ≡ true
        by_second true e = refl
        by_second false e = absurd (false≢true (sym (rw (is.pairs q) (earlier_not_due t (at below (2 * q)) (at below (2 * q + 1)) first e)) ∙ next.due))

    before_pair : (p : ℕ) → from ≤ p → p < 2 * q → has_come (at below p) t ≡ false
    before_pair p more less = let h = halves p in rest_waits p h.0 more h.1 (λ far. next.before h.0 far (elim h.1 [ inl e ↦ omega (arith, less, e) | inr e ↦ omega (arith, less, e) ]))

    place_is : (b : Bool) → has_come (at below (2 * q)) t ≡ b → IsNextDue below from t (cond b (2 * q) (2 * q + 1))
    place_is true e = record {
      reached = omega (arith, next.reached);
      due = e;
      before = λ p more less. before_pair p more less;
    }
    place_is false e = record {
      reached = omega (arith, next.reached);
      due = second_due e;
      before = λ p more less. elim (cases_eq p (2 * q)) [
        | inl same ↦ rw same e
        | inr ne ↦ before_pair p more (omega (arith, less, ne))
      ];
    }

    pub next_below : IsNextDue below from t (cond (has_come (at below (2 * q)) t) (2 * q) (2 * q + 1))
    next_below = place_is (has_come (at below (2 * q)) t) refl

-- ---- a level among others

-- a moment that has come is within its level
pub due_within : (moments : List (Option ℕ)) (p t : ℕ) → has_come (at moments p) t ≡ true → p < length moments
due_within moments p t due = by_entry (at moments p) refl
  where
    by_entry : (found : Option ℕ) → at moments p ≡ found → p < length moments
    by_entry None e = absurd (false≢true (sym (ap (λ (x : Option ℕ). has_come x t) e) ∙ due))
    by_entry (Some m) e = entry_within moments p m e

-- nothing is beyond the last place
pub beyond : (moments : List (Option ℕ)) (from t : ℕ) → length moments ≤ from → NoneIsDueFrom moments from t
beyond moments from t far p more = by_test (has_come (at moments p) t) refl
  where
    by_test : (b : Bool) → has_come (at moments p) t ≡ b → b ≡ false
    by_test false e = refl
    by_test true e = absurd (omega (arith, due_within moments p t e, far, more))

-- a level beyond the last has nothing
pub none_past : (levels : List (List (Option ℕ))) (number from t : ℕ) → length levels ≤ number → NoneIsDueFrom (level levels number) from t
none_past levels number from t far = let empty : level levels number ≡ [] = grind (arith, common_steps) in λ p more. rw empty refl

-- a level that was read
pub level_read : (levels : List (List (Option ℕ))) (k : ℕ) (it : List (Option ℕ)) → k < length levels → it ≡ get_or levels k it → it ≡ level levels k
level_read levels k it h e = e ∙ get_or_default levels k it [] h

module _ (levels : List (List (Option ℕ))) (number from t : ℕ) (paired : ArePaired levels) (there : number < length levels) where
  abbrev here : List (Option ℕ)
  here = level levels number

  -- a level with one place or none
  alone : length here ≤ 1 → from < length here → has_come (at here from) t ≡ false → NoneIsDueFrom here from t
  alone few within waits q more = elim (cases_eq q from) [
    | inl e ↦ rw e waits
    | inr ne ↦ beyond here (from + 1) t (omega (arith, few)) q (omega (arith, more, ne))
  ]

  -- where nothing is due in the level above, nothing is here
  pub none_here : from < length here → has_come (at here from) t ≡ false → NoneIsDueFrom (level levels (number + 1)) ((from + 1) / 2) t → NoneIsDueFrom here from t
  none_here within waits none = elim (cases_lt (number + 1) (length levels)) [
    | inl more ↦ none_below here (level levels (number + 1)) from t (paired.above number (omega (arith, more))) waits none
    | inr last ↦ let is : length levels - 1 ≡ number = omega (arith, there, last) in
        alone (subst (λ (n : ℕ). length (level levels n) ≤ 1) is paired.top) within waits
  ]

  -- the place that is due first there has its two places here
  module _ (q : ℕ) (next : IsNextDue (level levels (number + 1)) ((from + 1) / 2) t q) where
    is_above : IsAbove here (level levels (number + 1))
    is_above = elim (cases_lt (number + 1) (length levels)) [
      | inl more ↦ paired.above number (omega (arith, more))
      | inr last ↦ absurd (false≢true (sym (none_past levels (number + 1) q t (omega (arith, last)) q (omega arith)) ∙ next.due))
    ]

    pub place_within : 2 * q + 1 ≤ length here
    place_within = omega (arith, is_above.few, due_within (level levels (number + 1)) q t next.due)

    pub next_here : has_come (at here from) t ≡ false → IsNextDue here from t (cond (has_come (at here (2 * q)) t) (2 * q) (2 * q + 1))
    next_here waits = next_below here (level levels (number + 1)) from t is_above waits q next

-- ---- entries that are taken out

count_first : (t : ℕ) (a : Option ℕ) (moments : List (Option ℕ)) → due_count t (a ∷ moments) ≡ due_count t (a ∷ []) + due_count t moments
count_first t a moments = by_test (has_come a t)
  where
    by_test : (b : Bool) → length (cond b (a ∷ filter (λ moment. has_come moment t) moments) (filter (λ moment. has_come moment t) moments))
        ≡ length (cond b (a ∷ []) []) + due_count t moments
    by_test true = omega arith
    by_test false = omega arith

count_one : (t : ℕ) (a : Option ℕ) (b : Bool) → has_come a t ≡ b → due_count t (a ∷ []) ≡ cond b 1 0
count_one t a true due = ap (λ (b : Bool). length (cond b (a ∷ []) [])) due
count_one t a false due = ap (λ (b : Bool). length (cond b (a ∷ []) [])) due

count_same : (t : ℕ) (old new : List (Option ℕ)) → length new ≡ length old → ((p : ℕ) → at new p ≡ at old p) → due_count t new ≡ due_count t old
count_same t [] [] long same = refl
count_same t [] (b ∷ new) long same = absurd (omega (arith, long))
count_same t (a ∷ old) [] long same = absurd (omega (arith, long))
count_same t (a ∷ old) (b ∷ new) long same =
    let first : due_count t (b ∷ []) ≡ due_count t (a ∷ []) = ap (λ (x : Option ℕ). due_count t (x ∷ [])) (same 0) in
    let rest = count_same t old new (omega (arith, long)) (λ p. same (suc p)) in
    omega (arith, first, rest, count_first t a old, count_first t b new)

-- one entry whose moment has come is no longer there
pub count_removed : (t : ℕ) (old new : List (Option ℕ)) (o : ℕ) → length new ≡ length old → has_come (at old o) t ≡ true → Sets old new o None
    → due_count t old ≡ due_count t new + 1
count_removed t [] new o long due sets = absurd (false≢true due)
count_removed t (a ∷ old) [] o long due sets = absurd (omega (arith, long))
count_removed t (a ∷ old) (b ∷ new) zero long due sets =
    let was = count_one t a true due in
    let is : due_count t (b ∷ []) ≡ 0 = ap (λ (x : Option ℕ). due_count t (x ∷ [])) sets.set in
    let rest = count_same t old new (omega (arith, long)) (λ p. sets.others (suc p) (λ e. absurd (omega (arith, e)))) in
    omega (arith, was, is, rest, count_first t a old, count_first t b new)
count_removed t (a ∷ old) (b ∷ new) (suc o) long due sets =
    let same : due_count t (b ∷ []) ≡ due_count t (a ∷ []) = ap (λ (x : Option ℕ). due_count t (x ∷ [])) (sets.others 0 (λ e. absurd (omega (arith, e)))) in
    let rest = count_removed t old new o (omega (arith, long)) due (record { set = sets.set; others = λ p ne. sets.others (suc p) (λ e. ne (omega (arith, e))) }) in
    omega (arith, same, rest, count_first t a old, count_first t b new)

-- what isn't due stays
pub not_due : (moments : List (Option ℕ)) (t : ℕ) → NothingIsDue moments t → (o : ℕ) → has_come (at moments o) t ≡ false
not_due moments t nothing o = by_entry (at moments o) refl
  where
    by_entry : (found : Option ℕ) → at moments o ≡ found → has_come found t ≡ false
    by_entry None e = refl
    by_entry (Some m) e = let later = nothing o m e in grind (arith, common_steps)

-- nor is anything due where the least moment hasn't come
pub nothing_by_first : (found : Option ℕ) (moments : List (Option ℕ)) (t : ℕ) → IfSome found (λ moment. (u : ℕ) → u < moment → NothingIsDue moments u)
    → IfNone found ((u : ℕ) → NothingIsDue moments u) → has_come found t ≡ false → NothingIsDue moments t
nothing_by_first None moments t some none later = none t
nothing_by_first (Some m) moments t some none later = let after : t < m = grind (arith, common_steps) in some t after

pub count_none : (moments : List (Option ℕ)) (t : ℕ) → NothingIsDue moments t → due_count t moments ≡ 0
count_none [] t nothing = refl
count_none (a ∷ moments) t nothing =
    omega (arith, count_first t a moments, count_one t a false (not_due (a ∷ moments) t nothing 0), count_none moments t (λ o m here. nothing (suc o) m here))

-- what is left of an entry, once one that was due was taken out
pub left_same : (t : ℕ) (old new : List (Option ℕ)) (o : ℕ) → has_come (at old o) t ≡ true → Sets old new o None → (p : ℕ) → left_at t (at new p) ≡ left_at t (at old p)
left_same t old new o due sets p = elim (cases_eq p o) [
  | inl e ↦ rw e (ap (left_at t) sets.set ∙ sym (ap (λ (b : Bool). cond b None (at old o)) due))
  | inr ne ↦ ap (left_at t) (sets.others p ne)
]

-- the least entry that is due has come
pub first_come : (moments : List (Option ℕ)) (o m t : ℕ) → at moments o ≡ Some m → m ≤ t → has_come (at moments o) t ≡ true
first_come moments o m t here less = ap (λ (x : Option ℕ). has_come x t) here ∙ grind (arith, common_steps)

-- one entry more is counted as handed out, modulo 2^64
pub counted_more : (was is before after : ℕ) → is ≡ (was + 1) % 2 ^ 64 → before ≡ after + 1 → (is + after) % 2 ^ 64 ≡ (was + before) % 2 ^ 64
counted_more was is before after counted less =
    let sum : (was + 1) + after ≡ was + before = omega (arith, less) in
    ap (λ (n : ℕ). n % 2 ^ 64) (add_comm is after) ∙ ap (λ (n : ℕ). (after + n) % 2 ^ 64) counted
    ∙ add-mod-mod after (was + 1) (2 ^ 64) ∙ ap (λ (n : ℕ). n % 2 ^ 64) (add_comm after (was + 1) ∙ sum)

pub counted_small : (was is : ℕ) → is ≡ (was + 1) % 2 ^ 64 → is < 2 ^ 64
counted_small was is counted = omega (arith, counted, mod-lt (was + 1) {m = 2 ^ 64} (omega arith))

-- and none is left to count
pub counted_all : (is left total : ℕ) → is < 2 ^ 64 → left ≡ 0 → (is + left) % 2 ^ 64 ≡ total % 2 ^ 64 → is ≡ total % 2 ^ 64
counted_all is left total small none same =
    let sum : is + left ≡ is = omega (arith, none) in
    sym (mod-eq_of_lt small) ∙ ap (λ (n : ℕ). n % 2 ^ 64) (sym sum) ∙ same
