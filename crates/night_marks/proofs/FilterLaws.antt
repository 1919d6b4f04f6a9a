-- Laws of lists of which some is left out.
use Rattle.std.proofs.Common.{◌≡◌, ℕ, zero, suc, ◌<◌, ◌≤◌, Bool, true, false, cond, ◌&&◌, All, List, [], ◌∷◌, ◌++◌, filter, length, map, slice_get, Option, Some, refl, sym, ap, unwrap_or, ◌∙◌, arith}
use Rattle.std.proofs.lemmas.Bool.{true≢false}
use Rattle.std.proofs.lemmas.Option.{none-some}
use Rattle.std.proofs.lemmas.List.Elements.{All-cons, All-head, All-nil, All-tail, All-weaker}
use Rattle.due_model.specs.declared.config.ObjectId.{ObjectId}
use Rattle.night_marks.specs.Counts.{is_less_busy, least_of, less_busy}

module _ {A : Type 0} where
  -- ---- what passes one test and then another

  one_filtered : (q : A → Bool) (b c : Bool) (x : A) (ys zs : List A) → q x ≡ c → filter q ys ≡ zs → filter q (cond b (x ∷ ys) ys) ≡ cond (b && c) (x ∷ zs) zs
  one_filtered q true true x ys zs e h = ap (λ (t : Bool). cond t (x ∷ filter q ys) (filter q ys)) e ∙ ap (λ (rest : List A). x ∷ rest) h
  one_filtered q true false x ys zs e h = ap (λ (t : Bool). cond t (x ∷ filter q ys) (filter q ys)) e ∙ h
  one_filtered q false c x ys zs e h = h

  pub filter_both : (p q r : A → Bool) → ((x : A) → r x ≡ (p x && q x)) → (xs : List A) → filter q (filter p xs) ≡ filter r xs
  filter_both p q r same [] = refl
  filter_both p q r same (x ∷ xs) =
      one_filtered q (p x) (q x) x (filter p xs) (filter r xs) refl (filter_both p q r same xs)
      ∙ sym (ap (λ (t : Bool). cond t (x ∷ filter r xs) (filter r xs)) (same x))

  -- ---- how many are left

  one_shorter : (b : Bool) (x : A) (ys xs : List A) → length ys ≤ length xs → length (cond b (x ∷ ys) ys) ≤ length (x ∷ xs)
  one_shorter true x ys xs h = omega (arith, h)
  one_shorter false x ys xs h = omega (arith, h)

  pub filter_shorter : (q : A → Bool) (xs : List A) → length (filter q xs) ≤ length xs
  filter_shorter q [] = omega arith
  filter_shorter q (x ∷ xs) = one_shorter (q x) x (filter q xs) xs (filter_shorter q xs)

  dropped : (b : Bool) (x : A) (ys xs : List A) → b ≡ false → length ys ≤ length xs → length (cond b (x ∷ ys) ys) < length (x ∷ xs)
  dropped true x ys xs e h = absurd (true≢false e)
  dropped false x ys xs e h = omega (arith, h)

  one_dropped : (b : Bool) (x : A) (ys xs : List A) → length ys < length xs → length (cond b (x ∷ ys) ys) < length (x ∷ xs)
  one_dropped true x ys xs h = omega (arith, h)
  one_dropped false x ys xs h = omega (arith, h)

  some_same : (x y : A) → Some x ≡ Some y → x ≡ y
  some_same x y e = ap (λ (found : Option A). unwrap_or found x) e

  -- fewer, where one doesn't pass
  pub filter_fewer : (q : A → Bool) (xs : List A) (i : ℕ) (x : A) → slice_get xs i ≡ Some x → q x ≡ false → length (filter q xs) < length xs
  filter_fewer q [] i x e f = absurd (none-some x e)
  filter_fewer q (y ∷ ys) zero x e f = dropped (q y) y (filter q ys) ys (ap q (some_same y x e) ∙ f) (filter_shorter q ys)
  filter_fewer q (y ∷ ys) (suc i) x e f = one_dropped (q y) y (filter q ys) ys (filter_fewer q ys i x e f)

  -- ---- where elements are

  pub some_at : (xs : List A) (i : ℕ) → i < length xs → (x : A) × (slice_get xs i ≡ Some x)
  some_at [] i h = absurd (omega (arith, h))
  some_at (x ∷ xs) zero h = (x, refl)
  some_at (x ∷ xs) (suc i) h = some_at xs i (omega (arith, h))

  -- an element with this object stands somewhere
  pub record Stands (object : A → ObjectId) (xs : List A) (o : ObjectId) : Type 0 where
    pub i : ℕ
    pub x : A
    pub at : slice_get xs i ≡ Some x
    pub same : object x ≡ o

  pub stands_first : (object : A → ObjectId) (xs : List A) (x : A) → slice_get xs 0 ≡ Some x → Stands object xs (object x)
  stands_first object xs x e = record { i = 0; x = x; at = e; same = refl }

  one_on : (object : A → ObjectId) (x : A) (xs : List A) (o : ObjectId) → Stands object xs o → Stands object (x ∷ xs) o
  one_on object x xs o h = record { i = suc h.i; x = h.x; at = h.at; same = h.same }

  pub all_stand : (object : A → ObjectId) (xs : List A) → All (Stands object xs) (map object xs)
  all_stand object [] = All-nil (Stands object [])
  all_stand object (x ∷ xs) =
      All-cons (Stands object (x ∷ xs)) (object x) (map object xs) (record { i = 0; x = x; at = refl; same = refl })
      (All-weaker (Stands object xs) (Stands object (x ∷ xs)) (one_on object x xs) (map object xs) (all_stand object xs))

-- ---- the least busy one of some is one of them

picked : (P : ObjectId → Type 0) (b : Bool) (o p : ObjectId) → P o → P p → P (cond b o p)
picked P true o p h k = h
picked P false o p h k = k

pub least_is : (P : ObjectId → Type 0) (counts : List ℕ) (first : ObjectId) (objects : List ObjectId) → P first → All P objects → P (least_of counts first objects)
least_is P counts first [] h all = h
least_is P counts first (o ∷ objects) h all =
    least_is P counts (less_busy counts o first) objects (picked P (is_less_busy counts o.0 first.0) o first (All-head P o objects all) h) (All-tail P o objects all)
