-- What runs of the same events leave is alike.
use Rattle.std.proofs.Common.{◌≡◌, ℕ, suc, ◌<◌, ◌≤◌, ◌==◌, All, Bool, true, false, cond, List, [], ◌∷◌, drop, filter, length, refl, sym, ap, ap₂, ◌∙◌, ⊎_elim, arith}
use Rattle.std.specs.List.{AllPairs}
use Rattle.std.proofs.lemmas.Bool.{cases_lt, eq-eqb, ne_eqb}
use Rattle.std.proofs.lemmas.List.Elements.{All-cons, All-filter, All-head, All-same, All-tail, All-weaker}
use Rattle.due_model.specs.declared.notice.Notice.{Notice}
use Rattle.due_model.specs.declared.notice.Suppression.{Suppression}
use Rattle.lemmas.proofs.Lists.{AllPairs-tail}
use Rattle.decider_thread.specs.claims.Order.{place}
use Rattle.engine_threads.specs.claims.Run.{IsNamed}
use Rattle.engine.specs.Alike.{RunsAreAlike}
use Rattle.engine.specs.claims.Lanes.{joined}

-- ---- lists in order that agree on each key

module _ {X : Type 0} (key place : X → ℕ) (R : X → Type 0) (apart : (x y : X) → R x → R y → place x ≡ place y → key x ≡ key y) where
  abbrev of : ℕ → List X → List X
  of o xs = filter (λ x. key x == o) xs

  abbrev InOrder : List X → Type 0
  InOrder xs = AllPairs (λ a b. place a ≤ place b) xs

  -- the first of its key stands first
  kept : (x : X) (xs : List X) (o : ℕ) → key x ≡ o → of o (x ∷ xs) ≡ x ∷ of o xs
  kept x xs o is = ap (λ b. cond b (x ∷ of o xs) (of o xs)) (eq-eqb (key x) o is)

  -- none stands before the first
  least : (y : X) (ys : List X) → InOrder (y ∷ ys) → All (λ z. place y ≤ place z) (y ∷ ys)
  least y ys order = All-cons (λ z. place y ≤ place z) y ys (omega arith) (λ k d within. order 0 (suc k) d (omega arith) (omega arith))

  first_le : (x y : X) (xs ys : List X) → of (key x) (x ∷ xs) ≡ of (key x) (y ∷ ys) → InOrder (y ∷ ys) → place y ≤ place x
  first_le x y xs ys same order =
      let front : x ∷ of (key x) xs ≡ of (key x) (y ∷ ys) = sym (kept x xs (key x) refl) ∙ same in
      All-head (λ z. place y ≤ place z) x (of (key x) xs)
      (All-same (λ z. place y ≤ place z) (x ∷ of (key x) xs) (of (key x) (y ∷ ys)) front
      (All-filter (λ z. key z == key x) (λ z. place y ≤ place z) (y ∷ ys) (least y ys order)))

  rest : (b : Bool) (x y : X) (xs ys : List X) → cond b (x ∷ xs) xs ≡ cond b (y ∷ ys) ys → xs ≡ ys
  rest true x y xs ys same = ap (drop 1) same
  rest false x y xs ys same = same

  pub one_order : (xs ys : List X) → InOrder xs → InOrder ys → All R xs → All R ys → ((o : ℕ) → of o xs ≡ of o ys) → xs ≡ ys
  one_order [] [] i j r s h = refl
  one_order [] (y ∷ ys) i j r s h = let none : [] ≡ y ∷ of (key y) ys = h (key y) ∙ kept y ys (key y) refl in absurd cc
  one_order (x ∷ xs) [] i j r s h = let none : x ∷ of (key x) xs ≡ [] = sym (kept x xs (key x) refl) ∙ h (key x) in absurd cc
  one_order (x ∷ xs) (y ∷ ys) i j r s h =
      let le : place y ≤ place x = first_le x y xs ys (h (key x)) j in
      let ge : place x ≤ place y = first_le y x ys xs (sym (h (key y))) i in
      let key_is : key y ≡ key x = apart y x (All-head R y ys s) (All-head R x xs r) (omega (arith, le, ge)) in
      let both : x ∷ of (key x) xs ≡ y ∷ of (key x) ys = sym (kept x xs (key x) refl) ∙ h (key x) ∙ kept y ys (key x) key_is in
      let first : x ≡ y = cc in
      let more : xs ≡ ys = one_order xs ys (AllPairs-tail (λ a b. place a ≤ place b) x xs i) (AllPairs-tail (λ a b. place a ≤ place b) y ys j) (All-tail R x xs r) (All-tail R y ys s)
      (λ o. rest (key x == o) x y (of o xs) (of o ys) (h o ∙ ap (λ k. cond (k == o) (y ∷ of o ys) (of o ys)) key_is)) in
      ap₂ (λ z zs. z ∷ zs) first more

-- ---- what is of no object below a number

module _ {X : Type 0} (key : X → ℕ) (n o : ℕ) (above : n ≤ o) where
  none_of : (xs : List X) → All (λ x. key x < n) xs → filter (λ x. key x == o) xs ≡ []
  none_of [] below = refl
  none_of (x ∷ xs) below =
      let lt = All-head (λ y. key y < n) x xs below in
      ap (λ b. cond b (x ∷ filter (λ y. key y == o) xs) (filter (λ y. key y == o) xs)) (ne_eqb (key x) o (λ is. omega (arith, lt, is, above)))
      ∙ none_of xs (All-tail (λ y. key y < n) x xs below)

-- two lists of such keys that agree on each key below the number
alike_of : {X : Type 0} (key : X → ℕ) (n : ℕ) (xs ys : List X) → All (λ x. key x < n) xs → All (λ x. key x < n) ys
    → ((o : ℕ) → o < n → filter (λ x. key x == o) xs ≡ filter (λ x. key x == o) ys) → (o : ℕ) → filter (λ x. key x == o) xs ≡ filter (λ x. key x == o) ys
alike_of key n xs ys below_xs below_ys same o = ⊎_elim
    (λ (lt : o < n). same o lt)
    (λ (ge : n ≤ o). none_of key n o ge xs below_xs ∙ sym (none_of key n o ge ys below_ys))
    (cases_lt o n)

-- ---- runs

pub alike : RunsAreAlike
alike c zone past lanes others log other accepted due due' is is' = (
  record {
    count = due.count ∙ sym due'.count;
    each = λ l a b at_a at_b.
        let one = due.each l a at_a in
        let two = due'.each l b at_b in
        alike_of (λ (n : Notice). n.object.0) (length c.objects) (joined a) (joined b)
        (All-weaker (IsNamed c l) (λ n. n.object.0 < length c.objects) (λ n h. h.0) (joined a) one.named)
        (All-weaker (IsNamed c l) (λ n. n.object.0 < length c.objects) (λ n h. h.0) (joined b) two.named)
        (λ o within. one.due o within ∙ sym (two.due o within));
  },
  one_order (λ (s : Suppression). s.object.0) place (λ s. s.object.0 < length c.objects)
      (λ x y lt_x lt_y same. let few : length c.objects ≤ 65_535 = accepted.few_objects in omega (arith, few, lt_x, lt_y, same))
      log other is.order is'.order is.named is'.named
      (alike_of (λ (s : Suppression). s.object.0) (length c.objects) log other is.named is'.named (λ o within. is.each o within ∙ sym (is'.each o within))),
)
