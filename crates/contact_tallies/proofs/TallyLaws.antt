-- What one mark more does to the tallies.
use Rattle.std.proofs.Common.{◌≡◌, ◌≢◌, ℕ, ◌+◌, ◌<◌, ◌≤◌, nat_le, nat_lt, min, max, Bool, true, false, not, cond, ◌&&◌, ◌==◌, List, [], ◌∷◌, ◌++◌, filter, find, length, map, reverse, take, get_or, slice_get, slice_index_or, slice_set, Option, Some, None, replicate, zero, suc, add-one, refl, sym, ap, ap₂, subst, ◌∙◌, eqb, eqb-true, eq-eqb, arith, inl, inr, append_assoc}
use Rattle.std.specs.Option.{option_map}
use Rattle.std.proofs.lemmas.Bool.{false≢true, lt-ltb, le-ltb, ne_eqb}
use Rattle.std.proofs.lemmas.Bool.Decides.{eqb_tells}
use Rattle.std.proofs.lemmas.Grind.{get_or-set_at}
use Rattle.std.proofs.lemmas.List.{get_or-replicate, get_or-set_same, get_or-set_other, length-replicate, length-set, map-append, reverse-append, take_all, take_more}
use Rattle.lemmas.proofs.Numbers.{below_more}
use Rattle.std.specs.List.{range_with_len}
use Rattle.std.proofs.lemmas.Option.{slice_get-get_or, get_or_from_slice_get, slice_get_past}
use Rattle.due_model.specs.declared.config.ContactId.{ContactId}
use Rattle.due_model.specs.declared.config.ObjectId.{ObjectId}
use Rattle.due_model.specs.declared.notice.Notice.{Notice}
use Rattle.due_model.specs.declared.zone.Zone.{Zone}
use Rattle.due_model.specs.claims.Limits.{last_moment}
use Rattle.contact_tallies.specs.declared.heard.Told.{Told}
use Rattle.contact_tallies.specs.declared.tallies.Tallies.{Tallies}
use Rattle.contact_tallies.specs.declared.tallies.Tally.{Tally}
use Rattle.contact_tallies.specs.Heard.{heard, no_problems, told_after, told_of, without}
use Rattle.contact_tallies.specs.Marks.{Ends, Given, Mark, counted, is_about, is_night, is_night_page, is_of_problem, is_page, last_told, longest, marks_on, silence_before, since}
use Rattle.contact_tallies.specs.Tallies.{AreTallies, counted_in, no_tally, one_more, silence_in, tallies_of, tally_of, told_by, with_notice}

-- ---- who was told

-- two that are the same number test alike
alike : (a b k : ℕ) → eqb a b ≡ true → eqb a k ≡ eqb b k
alike a b k e = ap (λ (n : ℕ). eqb n k) (eqb-true a b e)

-- by the tests of the first that was told: whether it is the contact that is told now, and whether it is contact k; and whether the one that is told now is k
first-told : (p q r : Bool) (ts : List Told) (t one : Told) (k : ℕ) → eqb t.contact.0 one.contact.0 ≡ p → eqb t.contact.0 k ≡ q → eqb one.contact.0 k ≡ r
    → heard (told_after ts one) k ≡ cond r (Some one.moment) (heard ts k)
    → heard (cond (not p) (t ∷ without ts one.contact.0) (without ts one.contact.0) ++ one ∷ []) k ≡ cond r (Some one.moment) (option_map (λ (told : Told). told.moment) (cond q (Some t) (find (λ (told : Told). eqb told.contact.0 k) ts)))
first-told true q true ts t one k a b c ih = ih
first-told true true false ts t one k a b c ih = absurd (false≢true (sym c ∙ sym (alike t.contact.0 one.contact.0 k a) ∙ b))
first-told true false false ts t one k a b c ih = ih
first-told false true true ts t one k a b c ih =
    absurd (false≢true (sym a ∙ eq-eqb t.contact.0 one.contact.0 (eqb-true t.contact.0 k b ∙ sym (eqb-true one.contact.0 k c))))
first-told false true false ts t one k a b c ih = ap (λ (x : Bool). option_map (λ (told : Told). told.moment) (cond x (Some t) (find (λ (told : Told). eqb told.contact.0 k) (told_after ts one)))) b
first-told false false r ts t one k a b c ih = ap (λ (x : Bool). option_map (λ (told : Told). told.moment) (cond x (Some t) (find (λ (told : Told). eqb told.contact.0 k) (told_after ts one)))) b ∙ ih

last-alone : (r : Bool) (one : Told) → option_map (λ (told : Told). told.moment) (cond r (Some one) None) ≡ cond r (Some one.moment) None
last-alone true one = refl
last-alone false one = refl

-- when contact k was told, once another one is told
pub heard_after : (told : List Told) (one : Told) (k : ℕ) → heard (told_after told one) k ≡ cond (eqb one.contact.0 k) (Some one.moment) (heard told k)
heard_after [] one k = last-alone (eqb one.contact.0 k) one
heard_after (t ∷ ts) one k = first-told (eqb t.contact.0 one.contact.0) (eqb t.contact.0 k) (eqb one.contact.0 k) ts t one k refl refl refl (heard_after ts one k)

-- ---- counts

capped : (n m : ℕ) → min (n + 1) m ≡ min (min n m + 1) m
capped n m = omega arith

one_longer : (b : Bool) (m : Mark) (rest : List Mark) (most : ℕ) → min (length (cond b (m ∷ rest) rest)) most ≡ cond b (min (min (length rest) most + 1) most) (min (length rest) most)
one_longer true m rest most = sym (ap (λ (n : ℕ). min n most) (add-one (length rest))) ∙ capped (length rest) most
one_longer false m rest most = refl

-- one mark more
counted_more : (is : Mark → Bool) (m : Mark) (past : List Mark) → counted is (m ∷ past) ≡ cond (is m) (one_more (counted is past)) (counted is past)
counted_more is m past = one_longer (is m) m (filter is past) 18446744073709551615

abbrev made : (pages at_night silence : ℕ) → Tally
made pages at_night silence = record { pages = pages; at_night = at_night; silence = silence }

same_tally : (p p' a a' s s' : ℕ) → p ≡ p' → a ≡ a' → s ≡ s' → made p a s ≡ made p' a' s'
same_tally p p' a a' s s' e f g = ap (λ (x : ℕ). made x a s) e ∙ ap (λ (x : ℕ). made p' x s) f ∙ ap (λ (x : ℕ). made p' a' x) g

-- the tally of the contact of a notice
tally_more : (zone : Zone) (n : Notice) (past : List Mark) (k : ℕ) → eqb n.contact.0 k ≡ true → with_notice zone n (silence_before past n) (tally_of zone past k) ≡ tally_of zone (Given n ∷ past) k
tally_more zone n past k e =
    let night : Bool = nat_le n.moment last_moment && is_night zone n.moment in
    same_tally _ _ _ _ _ _
    (sym (counted_more (is_page k) (Given n) past ∙ ap (λ (x : Bool). cond x (one_more (counted (is_page k) past)) (counted (is_page k) past)) e))
    (sym (counted_more (is_night_page zone k) (Given n) past ∙ ap (λ (x : Bool). cond (x && night) (one_more (counted (is_night_page zone k) past)) (counted (is_night_page zone k) past)) e))
    (sym (ap (λ (x : Bool). cond x (max (longest past k) (silence_before past n)) (longest past k)) e))

-- that of another contact
tally_same : (zone : Zone) (n : Notice) (past : List Mark) (k : ℕ) → eqb n.contact.0 k ≡ false → tally_of zone (Given n ∷ past) k ≡ tally_of zone past k
tally_same zone n past k e =
    let night : Bool = nat_le n.moment last_moment && is_night zone n.moment in
    same_tally _ _ _ _ _ _
    (counted_more (is_page k) (Given n) past ∙ ap (λ (x : Bool). cond x (one_more (counted (is_page k) past)) (counted (is_page k) past)) e)
    (counted_more (is_night_page zone k) (Given n) past ∙ ap (λ (x : Bool). cond (x && night) (one_more (counted (is_night_page zone k) past)) (counted (is_night_page zone k) past)) e)
    (ap (λ (x : Bool). cond x (max (longest past k) (silence_before past n)) (longest past k)) e)

-- ---- the contacts

set_same : {X : Type 0} (xs : List X) (i : ℕ) (x : X) → i < length xs → slice_get (slice_set xs i x) i ≡ Some x
set_same {X} xs i x within =
    slice_get-get_or (slice_set xs i x) i x (let l = length-set xs i x in omega (arith, l, within))
    ∙ ap (λ (y : X). Some y) (get_or-set_same xs i x x within)

set_other : {X : Type 0} (xs : List X) (i j : ℕ) (x : X) → j ≢ i → slice_get (slice_set xs i x) j ≡ slice_get xs j
set_other [] i j x apart = refl
set_other (y ∷ ys) zero zero x apart = absurd (apart refl)
set_other (y ∷ ys) zero (suc j) x apart = refl
set_other (y ∷ ys) (suc i) zero x apart = refl
set_other (y ∷ ys) (suc i) (suc j) x apart = set_other ys i j x (λ e. apart (ap suc e))

set-length : {X : Type 0} (b : Bool) (xs : List X) (i : ℕ) (x : X) → length (cond b (slice_set xs i x) xs) ≡ length xs
set-length true xs i x = length-set xs i x
set-length false xs i x = refl

set-there : {X : Type 0} (b : Bool) (xs : List X) (i j : ℕ) (x : X) → j ≢ i → slice_get (cond b (slice_set xs i x) xs) j ≡ slice_get xs j
set-there true xs i j x apart = set_other xs i j x apart
set-there false xs i j x apart = refl

counted-here : (zone : Zone) (n : Notice) (silence : ℕ) (tallies : List Tally) (k : ℕ) → n.contact.0 ≡ k → k < length tallies
    → slice_get (counted_in zone n silence tallies) k ≡ Some (with_notice zone n silence (slice_index_or tallies k no_tally))
counted-here zone n silence tallies k same within =
    let here : n.contact.0 < length tallies = omega (arith, same, within) in
    let x : Tally = with_notice zone n silence (slice_index_or tallies n.contact.0 no_tally) in
    subst (λ (j : ℕ). slice_get (counted_in zone n silence tallies) j ≡ Some (with_notice zone n silence (slice_index_or tallies j no_tally))) same
    (ap (λ (b : Bool). slice_get (cond b (slice_set tallies n.contact.0 x) tallies) n.contact.0) (lt-ltb n.contact.0 (length tallies) here) ∙ set_same tallies n.contact.0 x here)

counted_each : (zone : Zone) (n : Notice) (silence : ℕ) (tallies : List Tally) (count : ℕ) (past : List Mark) → length tallies ≡ count
    → ((k : ℕ) → k < count → slice_get tallies k ≡ Some (tally_of zone past k)) → silence ≡ silence_before past n
    → (k : ℕ) → k < count → slice_get (counted_in zone n silence tallies) k ≡ Some (tally_of zone (Given n ∷ past) k)
counted_each zone n silence tallies count past long each is k h = elim (eqb_tells n.contact.0 k) [
  | inl t ↦ counted-here zone n silence tallies k t.1 (omega (arith, long, h))
      ∙ ap (λ (x : ℕ). Some (with_notice zone n x (slice_index_or tallies k no_tally))) is
      ∙ ap (λ (x : Tally). Some (with_notice zone n (silence_before past n) x)) (get_or_from_slice_get tallies k (tally_of zone past k) no_tally (each k h))
      ∙ ap (λ (x : Tally). Some x) (tally_more zone n past k t.0)
  | inr t ↦ set-there (nat_lt n.contact.0 (length tallies)) tallies n.contact.0 k (with_notice zone n silence (slice_index_or tallies n.contact.0 no_tally)) (λ e. t.1 (sym e))
      ∙ each k h ∙ ap (λ (x : Tally). Some x) (sym (tally_same zone n past k t.0))
]

-- ---- the problems

told-each : (b : Bool) (problems : List (List Told)) (p : ℕ) (one : Told) (past : List Mark) → length problems ≡ 65536 → p < 65536
    → ((o k : ℕ) → o < 65536 → heard (told_of problems o) k ≡ last_told past o k) → (o k : ℕ) → o < 65536
    → heard (told_of (cond b (slice_set problems p (told_after (told_of problems p) one)) problems) o) k
    ≡ cond (b && (eqb p o && eqb one.contact.0 k)) (Some one.moment) (last_told past o k)
told-each false problems p one past long within each o k h = each o k h
told-each true problems p one past long within each o k h = elim (eqb_tells p o) [
  | inl t ↦ ap (λ (xs : List Told). heard xs k) (get_or-set_at problems p o (told_after (told_of problems p) one) [] (sym t.1) (omega (arith, long, within)))
      ∙ heard_after (told_of problems p) one k
      ∙ ap (λ (x : Option ℕ). cond (eqb one.contact.0 k) (Some one.moment) x) (each p k within ∙ ap (λ (q : ℕ). last_told past q k) t.1)
      ∙ sym (ap (λ (x : Bool). cond (x && eqb one.contact.0 k) (Some one.moment) (last_told past o k)) t.0)
  | inr t ↦ ap (λ (xs : List Told). heard xs k) (get_or-set_other problems p o (told_after (told_of problems p) one) [] (λ e. t.1 (sym e)))
      ∙ each o k h ∙ sym (ap (λ (x : Bool). cond (x && eqb one.contact.0 k) (Some one.moment) (last_told past o k)) t.0)
]

ends-each : (problems : List (List Told)) (p : ℕ) (past : List Mark) → length problems ≡ 65536 → p < 65536
    → ((o k : ℕ) → o < 65536 → heard (told_of problems o) k ≡ last_told past o k) → (o k : ℕ) → o < 65536
    → heard (told_of (slice_set problems p []) o) k ≡ cond (eqb p o) None (last_told past o k)
ends-each problems p past long within each o k h = elim (eqb_tells p o) [
  | inl t ↦ ap (λ (xs : List Told). heard xs k) (get_or-set_at problems p o [] [] (sym t.1) (omega (arith, long, within)))
      ∙ sym (ap (λ (x : Bool). cond x None (last_told past o k)) t.0)
  | inr t ↦ ap (λ (xs : List Told). heard xs k) (get_or-set_other problems p o [] [] (λ e. t.1 (sym e)))
      ∙ each o k h ∙ sym (ap (λ (x : Bool). cond x None (last_told past o k)) t.0)
]

-- ---- the tallies

pub none_given : (zone : Zone) (count : ℕ) (tallies : Tallies) → tallies.contacts.items ≡ replicate count no_tally → tallies.problems ≡ no_problems → AreTallies zone count [] tallies
unfolding no_problems
none_given zone count tallies contacts problems = record {
  contacts = ap (λ (ts : List Tally). length ts) contacts ∙ length-replicate count no_tally;
  each = λ k h. ap (λ (ts : List Tally). slice_get ts k) contacts ∙ get_replicate count k h;
  places = ap (λ (ps : List (List Told)). length ps) problems ∙ length-replicate {A = List Told} 65536 [];
  told = λ o k h. ap (λ (ps : List (List Told)). heard (told_of ps o) k) problems ∙ ap (λ (xs : List Told). heard xs k) (get_or-replicate 65536 o [] [] h);
}
  where
    get_replicate : (n k : ℕ) → k < n → slice_get (replicate n no_tally) k ≡ Some no_tally
    get_replicate n k h = slice_get-get_or (replicate n no_tally) k no_tally (let l = length-replicate n no_tally in omega (arith, l, h)) ∙ ap (λ (t : Tally). Some t) (get_or-replicate n k no_tally no_tally h)

pub notice_given : (zone : Zone) (count : ℕ) (past : List Mark) (n : Notice) (silence : ℕ) (before after : Tallies) → AreTallies zone count past before → n.object.0 < 65536
    → silence ≡ silence_in before.problems n → after.contacts.items ≡ counted_in zone n silence before.contacts.items → after.problems ≡ told_by before.problems n
    → AreTallies zone count (Given n ∷ past) after
notice_given zone count past n silence before after are within is contacts problems =
    let one : Told = record { contact = n.contact; moment = n.moment } in
    let told : silence ≡ silence_before past n = is ∙ ap (λ (x : Option ℕ). cond (is_of_problem n.kind) (since n.moment x) 0) (are.told n.object.0 n.contact.0 within) in
    record {
      contacts = ap (λ (ts : List Tally). length ts) contacts
          ∙ set-length (nat_lt n.contact.0 (length before.contacts.items)) before.contacts.items n.contact.0 (with_notice zone n silence (slice_index_or before.contacts.items n.contact.0 no_tally)) ∙ are.contacts;
      each = λ k h. ap (λ (ts : List Tally). slice_get ts k) contacts ∙ counted_each zone n silence before.contacts.items count past are.contacts are.each told k h;
      places = ap (λ (ps : List (List Told)). length ps) problems
          ∙ set-length (is_of_problem n.kind) before.problems n.object.0 (told_after (told_of before.problems n.object.0) one) ∙ are.places;
      told = λ o k h. ap (λ (ps : List (List Told)). heard (told_of ps o) k) problems ∙ told-each (is_of_problem n.kind) before.problems n.object.0 one past are.places within are.told o k h;
    }

pub problem_ends : (zone : Zone) (count : ℕ) (past : List Mark) (p : ℕ) (before after : Tallies) → AreTallies zone count past before → p < 65536
    → after.contacts.items ≡ before.contacts.items → after.problems ≡ slice_set before.problems p [] → AreTallies zone count (Ends p ∷ past) after
problem_ends zone count past p before after are within contacts problems = record {
  contacts = ap (λ (ts : List Tally). length ts) contacts ∙ are.contacts;
  each = λ k h. ap (λ (ts : List Tally). slice_get ts k) contacts ∙ are.each k h;
  places = ap (λ (ps : List (List Told)). length ps) problems ∙ length-set before.problems p [] ∙ are.places;
  told = λ o k h. ap (λ (ps : List (List Told)). heard (told_of ps o) k) problems ∙ ends-each before.problems p past are.places within are.told o k h;
}

-- one notice more of a line
pub marks_more : (past : List Mark) (notices : List Notice) (i : ℕ) (d : Notice) → i < length notices → marks_on past (take (i + 1) notices) ≡ Given (get_or notices i d) ∷ marks_on past (take i notices)
marks_more past notices i d within =
    ap (λ (ns : List Notice). marks_on past ns) (take_more notices i d within)
    ∙ ap (λ (ms : List Mark). reverse ms ++ past) (map-append Given (take i notices) (get_or notices i d ∷ []))
    ∙ ap (λ (ms : List Mark). ms ++ past) (reverse-append (map Given (take i notices)) (Given (get_or notices i d) ∷ []))

-- ---- all of them

tallies-front : (tallies : List Tally) (f : ℕ → Tally) (m : ℕ) → ((k : ℕ) → k < m → slice_get tallies k ≡ Some (f k)) → m ≡ length tallies → (n : ℕ) → n ≤ m → take n tallies ≡ map f (range_with_len 0 n)
tallies-front tallies f m each e zero h = refl
tallies-front tallies f m each e (suc n) h =
    subst (λ (j : ℕ). take j tallies ≡ map f (range_with_len 0 j)) (add-one n)
    (take_more tallies n (f n) (omega (arith, h, e))
    ∙ ap₂ (λ (ts : List Tally) (t : Tally). ts ++ t ∷ []) (tallies-front tallies f m each e n (omega (arith, h))) (get_or_from_slice_get tallies n (f n) (f n) (each n (omega (arith, h))))
    ∙ sym (ap (λ (ks : List ℕ). map f ks) (below_more n) ∙ map-append f (range_with_len 0 n) (n ∷ [])))

pub all_tallies : (zone : Zone) (count : ℕ) (past : List Mark) (tallies : Tallies) → AreTallies zone count past tallies → tallies.contacts.items ≡ tallies_of zone past count
all_tallies zone count past tallies are =
    sym (take_all count tallies.contacts.items (omega (arith, are.contacts)))
    ∙ tallies-front tallies.contacts.items (tally_of zone past) count are.each (sym are.contacts) count (omega arith)
