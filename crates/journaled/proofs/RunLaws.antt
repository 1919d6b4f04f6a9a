-- Laws of several runs.
use Rattle.std.proofs.Common.{◌≡◌, ℕ, ◌==◌, List, [], ◌∷◌, ◌++◌, Bool, true, false, not, cond, ◌&&◌, ◌||◌, nat_le, nat_lt, arith, refl, sym, ap, ◌∙◌, subst, filter, eqb, eqb-true, eq-eqb, append_assoc}
use Rattle.std.specs.List.{list_any, AllByRecursion}
use mathlib.Core.List.{IsPrefix}
use Rattle.std.proofs.lemmas.List.{append-nil}
use Rattle.std.proofs.lemmas.List.Elements.{filter-append}
use Rattle.std.proofs.lemmas.List.Folds.{list_any-append}
use Rattle.std.proofs.lemmas.Bool.{true≢false, cond-true, cond-false, or_left, or_right, or_from, and_from, and_left, le-leb}
use Rattle.due_model.specs.declared.notice.Notice.{Notice}
use Rattle.journaled.specs.Claims.{Past, settles, is_settled, is_new, new_of}
use Rattle.journaled.specs.Runs.{of_object, since, IsInOrder, IsOnceOfEach}

-- ---- over one list of what was settled

abbrev among : List Notice → Notice → Bool
among a n = list_any (settles n) a

abbrev fresh : List Notice → List Notice → List Notice
fresh a ns = filter (λ n. not (among a n)) ns

-- a notice settles itself
settles_itself : (n : Notice) → settles n n ≡ true
settles_itself n =
    and_from (n.object.0 == n.object.0) (nat_lt n.event n.event || (n.event == n.event && nat_le n.contact.0 n.contact.0))
    (eq-eqb n.object.0 n.object.0 refl)
    (or_right (nat_lt n.event n.event) (n.event == n.event && nat_le n.contact.0 n.contact.0)
    (and_from (n.event == n.event) (nat_le n.contact.0 n.contact.0) (eq-eqb n.event n.event refl) (le-leb n.contact.0 n.contact.0 (omega arith))))

settled_within : (before : List Notice) (n : Notice) (after : List Notice) → among (before ++ n ∷ after) n ≡ true
settled_within before n after =
    list_any-append (settles n) before (n ∷ after)
    ∙ or_right (list_any (settles n) before) (list_any (settles n) (n ∷ after))
    (or_left (settles n n) (list_any (settles n) after) (settles_itself n))

-- what earlier runs settled isn't new
none_new : (before xs : List Notice) → fresh (before ++ xs) xs ≡ []
none_new before [] = refl
none_new before (n ∷ ns) =
    cond-false (not (among (before ++ n ∷ ns) n)) (n ∷ fresh (before ++ n ∷ ns) ns) (fresh (before ++ n ∷ ns) ns)
    (ap not (settled_within before n ns))
    ∙ subst (λ (x : List Notice). fresh x ns ≡ []) (append_assoc before (n ∷ []) ns) (none_new (before ++ n ∷ []) ns)

-- what is due after what earlier runs settled is new
each_trivial : (rest : List Notice) → AllByRecursion (λ later. among [] later ≡ false) rest
each_trivial [] = tt
each_trivial (n ∷ ns) = (refl, each_trivial ns)

each_second : (P : Notice → Type 0) (a rest : List Notice) → AllByRecursion P (a ++ rest) → AllByRecursion P rest
each_second P [] rest h = h
each_second P (n ∷ a) rest h = each_second P a rest h.1

each_or : (n : Notice) (a rest : List Notice) → AllByRecursion (λ later. settles later n ≡ false) rest
    → AllByRecursion (λ later. among a later ≡ false) rest
    → AllByRecursion (λ later. among (n ∷ a) later ≡ false) rest
each_or n a [] h k = tt
each_or n a (x ∷ rest) h k = (or_from (settles x n) (among a x) h.0 k.0, each_or n a rest h.1 k.1)

each_new : (a rest : List Notice) → IsInOrder (a ++ rest) → AllByRecursion (λ later. among a later ≡ false) rest
each_new [] rest h = each_trivial rest
each_new (n ∷ a) rest h = each_or n a rest (each_second (λ later. settles later n ≡ false) a rest h.0) (each_new a rest h.1)

all_new : (a rest : List Notice) → AllByRecursion (λ later. among a later ≡ false) rest → fresh a rest ≡ rest
all_new a [] h = refl
all_new a (n ∷ rest) h =
    cond-true (not (among a n)) (n ∷ fresh a rest) (fresh a rest) (ap not h.0) ∙ ap (λ x. n ∷ x) (all_new a rest h.1)

-- of what is due the new is what comes after what earlier runs settled
new_is_rest : (a rest : List Notice) → IsInOrder (a ++ rest) → fresh a (a ++ rest) ≡ rest
new_is_rest a rest h =
    filter-append (λ n. not (among a n)) a rest ∙ ap (λ x. x ++ fresh a rest) (none_new [] a) ∙ all_new a rest (each_new a rest h)

once : (a taken left due : List Notice) → IsInOrder due → IsPrefix a due → taken ++ left ≡ due
    → a ++ fresh a taken ++ fresh a left ≡ due
once a taken left due order front whole =
    append_assoc a (fresh a taken) (fresh a left)
    ∙ ap (λ x. a ++ x) (sym (filter-append (λ n. not (among a n)) taken left) ∙ ap (fresh a) (whole ∙ sym front.1)
    ∙ new_is_rest a front.0 (subst IsInOrder (sym front.1) order))
    ∙ front.1

-- ---- from an event on, of an object

-- a part of what stands in order does
each_kept : (P : Notice → Type 0) (p : Notice → Bool) (ns : List Notice) → AllByRecursion P ns → AllByRecursion P (filter p ns)
each_kept P p [] h = tt
each_kept P p (n ∷ ns) h = by_test (p n) (each_kept P p ns h.1)
  where
    by_test : (b : Bool) → AllByRecursion P (filter p ns) → AllByRecursion P (cond b (n ∷ filter p ns) (filter p ns))
    by_test true rest = (h.0, rest)
    by_test false rest = rest

order_kept : (p : Notice → Bool) (ns : List Notice) → IsInOrder ns → IsInOrder (filter p ns)
order_kept p [] h = tt
order_kept p (n ∷ ns) h = by_test (p n) (order_kept p ns h.1)
  where
    by_test : (b : Bool) → IsInOrder (filter p ns) → IsInOrder (cond b (n ∷ filter p ns) (filter p ns))
    by_test true rest = (each_kept (λ later. settles later n ≡ false) p ns h.0, rest)
    by_test false rest = rest

-- only what is of its object settles a notice
module _ (o : ℕ) where
  settled_one : (n r : Notice) → n.object.0 ≡ o → (b : Bool) → (r.object.0 == o) ≡ b → (rest : List Notice)
      → list_any (settles n) (cond b (r ∷ rest) rest) ≡ (settles n r || list_any (settles n) rest)
  settled_one n r is true same rest = refl
  settled_one n r is false other rest =
      ap (λ x. x || list_any (settles n) rest)
      (sym (and_left (r.object.0 == n.object.0) (nat_lt n.event r.event || (r.event == n.event && nat_le n.contact.0 r.contact.0))
      (subst (λ (x : ℕ). (r.object.0 == x) ≡ false) (sym is) other)))

  settled_same : (n : Notice) → n.object.0 ≡ o → (a : List Notice) → among (of_object o a) n ≡ among a n
  settled_same n is [] = refl
  settled_same n is (r ∷ a) =
      settled_one n r is (r.object.0 == o) refl (of_object o a) ∙ ap (λ x. settles n r || x) (settled_same n is a)

  -- of an object, in one test or the other
  new_true : (a : List Notice) (n : Notice) → (n.object.0 == o) ≡ true → (xs ys : List Notice) → of_object o xs ≡ ys
      → (p q : Bool) → q ≡ p → of_object o (cond p (n ∷ xs) xs) ≡ cond q (n ∷ ys) ys
  new_true a n is xs ys so true true e = cond-true (n.object.0 == o) (n ∷ of_object o xs) (of_object o xs) is ∙ ap (λ x. n ∷ x) so
  new_true a n is xs ys so false false e = so
  new_true a n is xs ys so true false e = absurd (true≢false (sym e))
  new_true a n is xs ys so false true e = absurd (true≢false e)

  new_false : (n : Notice) → (n.object.0 == o) ≡ false → (xs ys : List Notice) → of_object o xs ≡ ys
      → (p : Bool) → of_object o (cond p (n ∷ xs) xs) ≡ ys
  new_false n is xs ys so true = cond-false (n.object.0 == o) (n ∷ of_object o xs) (of_object o xs) is ∙ so
  new_false n is xs ys so false = so

  new_one : (a : List Notice) (n : Notice) (xs ys : List Notice) → of_object o xs ≡ fresh (of_object o a) ys
      → (b : Bool) → (n.object.0 == o) ≡ b
      → of_object o (cond (not (among a n)) (n ∷ xs) xs) ≡ fresh (of_object o a) (cond b (n ∷ ys) ys)
  new_one a n xs ys so true is =
      new_true a n is xs (fresh (of_object o a) ys) so (not (among a n)) (not (among (of_object o a) n))
      (ap not (settled_same n (eqb-true n.object.0 o is) a))
  new_one a n xs ys so false is = new_false n is xs (fresh (of_object o a) ys) so (not (among a n))

  fresh_of_object : (a xs : List Notice) → of_object o (fresh a xs) ≡ fresh (of_object o a) (of_object o xs)
  fresh_of_object a [] = refl
  fresh_of_object a (n ∷ xs) = new_one a n (fresh a xs) (of_object o xs) (fresh_of_object a xs) (n.object.0 == o) refl

-- ---- two filters

module _ (p q : Notice → Bool) where
  both_one : (n : Notice) (ys zs : List Notice) → zs ≡ filter (λ x. not (q x)) ys → (b c : Bool) → q n ≡ c
      → cond (not (b || c)) (n ∷ zs) zs ≡ filter (λ x. not (q x)) (cond (not b) (n ∷ ys) ys)
  both_one n ys zs e true c is = e
  both_one n ys zs e false true is = e ∙ sym (cond-false (not (q n)) (n ∷ filter (λ x. not (q x)) ys) (filter (λ x. not (q x)) ys) (ap not is))
  both_one n ys zs e false false is =
      ap (λ x. n ∷ x) e ∙ sym (cond-true (not (q n)) (n ∷ filter (λ x. not (q x)) ys) (filter (λ x. not (q x)) ys) (ap not is))

  neither : (xs : List Notice) → filter (λ x. not (p x || q x)) xs ≡ filter (λ x. not (q x)) (filter (λ x. not (p x)) xs)
  neither [] = refl
  neither (n ∷ xs) = both_one n (filter (λ x. not (p x)) xs) (filter (λ x. not (p x || q x)) xs) (neither xs) (p n) (q n) refl

  swap_one : (n : Notice) (xs : List Notice) → filter p (filter q xs) ≡ filter q (filter p xs) → (b c : Bool) → p n ≡ b → q n ≡ c
      → filter p (cond c (n ∷ filter q xs) (filter q xs)) ≡ filter q (cond b (n ∷ filter p xs) (filter p xs))
  swap_one n xs e true true is so =
      cond-true (p n) (n ∷ filter p (filter q xs)) (filter p (filter q xs)) is ∙ ap (λ x. n ∷ x) e
      ∙ sym (cond-true (q n) (n ∷ filter q (filter p xs)) (filter q (filter p xs)) so)
  swap_one n xs e true false is so = e ∙ sym (cond-false (q n) (n ∷ filter q (filter p xs)) (filter q (filter p xs)) so)
  swap_one n xs e false true is so = cond-false (p n) (n ∷ filter p (filter q xs)) (filter p (filter q xs)) is ∙ e
  swap_one n xs e false false is so = e

  swapped : (xs : List Notice) → filter p (filter q xs) ≡ filter q (filter p xs)
  swapped [] = refl
  swapped (n ∷ xs) = swap_one n xs (swapped xs) (p n) (q n) refl refl

-- what is new of an object
new_of_object : (o : ℕ) (past : Past) (xs : List Notice)
    → of_object o (new_of past xs) ≡ fresh (of_object o past.settled) (since past.from (of_object o xs))
new_of_object o past xs =
    ap (of_object o) (neither (λ n. nat_lt n.event past.from) (among past.settled) xs)
    ∙ fresh_of_object o past.settled (since past.from xs)
    ∙ ap (fresh (of_object o past.settled)) (swapped (λ n. n.object.0 == o) (λ n. not (nat_lt n.event past.from)) xs)

pub once_of_each : IsOnceOfEach
once_of_each o past taken left due order front whole =
    ap (λ x. of_object o past.settled ++ x ++ of_object o (new_of past left)) (new_of_object o past taken)
    ∙ ap (λ x. of_object o past.settled ++ fresh (of_object o past.settled) (since past.from (of_object o taken)) ++ x) (new_of_object o past left)
    ∙ once (of_object o past.settled) (since past.from (of_object o taken)) (since past.from (of_object o left)) (since past.from (of_object o due))
    (order_kept (λ n. not (nat_lt n.event past.from)) (of_object o due) order) front
    (sym (filter-append (λ n. not (nat_lt n.event past.from)) (of_object o taken) (of_object o left)) ∙ ap (since past.from) whole)
