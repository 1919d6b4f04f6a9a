-- What is added for many objects one after another, restricted to one of them.
use Rattle.std.proofs.Common.{◌≡◌, ◌≢◌, ℕ, zero, suc, ◌+◌, ◌<◌, ◌≤◌, Bool, true, false, cond, ◌==◌, List, [], ◌∷◌, ◌++◌, filter, flat_map, All, refl, sym, ap, ◌∙◌, arith, eq-eqb, inl, inr}
use Rattle.std.specs.List.{AllPairs, range_with_len}
use Rattle.std.proofs.lemmas.Bool.{ne_eqb, cases_eq}
use Rattle.std.proofs.lemmas.List.{append-nil}
use Rattle.std.proofs.lemmas.List.Elements.{All-head, All-tail, All-weaker, All-nil, All-append, All-cons, filter-append}
use Rattle.lemmas.proofs.Lists.{AllPairs-append, AllPairs-head, AllPairs-nil, AllPairs-tail, All-flat_map}

-- those elements that are of o
abbrev pub of_key : {X : Type 0} → (key : X → ℕ) → (o : ℕ) → List X → List X
of_key {X} key o xs = filter (λ x. key x == o) xs

-- all of them are
pub all_of_key : {X : Type 0} (key : X → ℕ) (o : ℕ) (xs : List X) → All (λ x. key x ≡ o) xs → of_key key o xs ≡ xs
all_of_key key o [] h = refl
all_of_key {X} key o (x ∷ xs) h =
    ap (λ b. cond b (x ∷ of_key key o xs) (of_key key o xs)) (eq-eqb (key x) o (All-head (λ y. key y ≡ o) x xs h))
    ∙ ap (λ (rest : List X). x ∷ rest) (all_of_key key o xs (All-tail (λ y. key y ≡ o) x xs h))

-- none of them is
none_of_key : {X : Type 0} (key : X → ℕ) (o : ℕ) (xs : List X) → All (λ x. key x ≢ o) xs → of_key key o xs ≡ []
none_of_key key o [] h = refl
none_of_key {X} key o (x ∷ xs) h =
    ap (λ b. cond b (x ∷ of_key key o xs) (of_key key o xs)) (ne_eqb (key x) o (All-head (λ y. key y ≢ o) x xs h))
    ∙ none_of_key key o xs (All-tail (λ y. key y ≢ o) x xs h)

module _ {X : Type 0} (key : X → ℕ) (g : ℕ → List X) (each : (k : ℕ) → All (λ x. key x ≡ k) (g k)) (p : ℕ → Bool) (o : ℕ) where
  abbrev found : List ℕ → List X
  found ks = of_key key o (flat_map g (filter p ks))

  other : (k : ℕ) → k ≢ o → of_key key o (g k) ≡ []
  other k ne = none_of_key key o (g k) (All-weaker (λ x. key x ≡ k) (λ x. key x ≢ o) (λ x e f. ne (sym e ∙ f)) (g k) (each k))

  skip_other : (k : ℕ) (ks : List ℕ) → k ≢ o → found (k ∷ ks) ≡ found ks
  skip_other k ks ne = by_test (p k)
    where
      by_test : (b : Bool) → of_key key o (flat_map g (cond b (k ∷ filter p ks) (filter p ks))) ≡ found ks
      by_test true = filter-append (λ x. key x == o) (g k) (flat_map g (filter p ks)) ∙ ap (λ (front : List X). front ++ found ks) (other k ne)
      by_test false = refl

  none_below : (a n : ℕ) → o < a → found (range_with_len a n) ≡ []
  none_below a zero h = refl
  none_below a (suc n) h = skip_other a (range_with_len (a + 1) n) (λ e. absurd (omega arith)) ∙ none_below (a + 1) n (omega arith)

  -- where o doesn't pass, nothing is added for it
  pub none_owned : p o ≡ false → (ks : List ℕ) → found ks ≡ []
  none_owned foreign [] = refl
  none_owned foreign (k ∷ ks) = elim (cases_eq k o) [
    | inl e ↦ ap (λ b. of_key key o (flat_map g (cond b (k ∷ filter p ks) (filter p ks)))) (ap p e ∙ foreign) ∙ none_owned foreign ks
    | inr ne ↦ skip_other k ks ne ∙ none_owned foreign ks
  ]

  -- where it does, what is added for it is
  pub one_owned : p o ≡ true → (a n : ℕ) → a ≤ o → o < a + n → found (range_with_len a n) ≡ g o
  one_owned mine a zero low high = absurd (omega arith)
  one_owned mine a (suc n) low high = elim (cases_eq a o) [
    | inl e ↦
        ap (λ b. of_key key o (flat_map g (cond b (a ∷ filter p (range_with_len (a + 1) n)) (filter p (range_with_len (a + 1) n))))) (ap p e ∙ mine)
        ∙ filter-append (λ x. key x == o) (g a) (flat_map g (filter p (range_with_len (a + 1) n)))
        ∙ ap (λ (rest : List X). of_key key o (g a) ++ rest) (none_below (a + 1) n (omega arith))
        ∙ append-nil (of_key key o (g a))
        ∙ ap (λ (k : ℕ). of_key key o (g k)) e
        ∙ all_of_key key o (g o) (each o)
    | inr ne ↦ skip_other a (range_with_len (a + 1) n) ne ∙ one_owned mine (a + 1) n (omega arith) (omega arith)
  ]

-- what stands at one place each, for growing places, is in order
module _ {X : Type 0} (place : X → ℕ) (g : ℕ → List X) (at : ℕ → ℕ) (each : (k : ℕ) → All (λ x. place x ≡ at k) (g k)) (grows : (j k : ℕ) → j < k → at j ≤ at k) where
  abbrev IsLater : X → X → Type 0
  IsLater a b = place a ≤ place b

  -- those of one place
  one_place : (m : ℕ) (xs : List X) → All (λ x. place x ≡ m) xs → AllPairs IsLater xs
  one_place m xs h = λ i j d before within. let a = h i d (omega (arith, before, within)) in let b = h j d within in omega (arith, a, b)

  pub in_order : (ks : List ℕ) → AllPairs (λ j k. j < k) ks → AllPairs IsLater (flat_map g ks)
  in_order [] h = AllPairs-nil IsLater
  in_order (k ∷ ks) h =
      AllPairs-append IsLater (g k) (flat_map g ks) (one_place (at k) (g k) (each k)) (in_order ks (AllPairs-tail (λ a b. a < b) k ks h))
      (All-weaker (λ x. place x ≡ at k) (λ x. All (IsLater x) (flat_map g ks)) (λ x here. All-flat_map (IsLater x) g ks
      (All-weaker (λ j. k < j) (λ j. All (IsLater x) (g j)) (λ j lt. All-weaker (λ y. place y ≡ at j) (IsLater x) (λ y there. let le = grows k j lt in omega (arith, here, there, le)) (g j) (each j)) ks (AllPairs-head (λ a b. a < b) k ks h))) (g k) (each k))
