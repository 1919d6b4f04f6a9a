-- Lists over the numbers below a bound that pass a test.
use Rattle.std.proofs.Common.{◌≡◌, ◌≢◌, ℕ, zero, suc, ◌+◌, ◌<◌, Bool, true, false, cond, List, [], ◌∷◌, ◌++◌, filter, flat_map, refl, sym, ap, subst, ◌∙◌, arith, map-id, inl, inr, length, ◌≤◌, take, get_or}
use Rattle.std.specs.List.{range_with_len, sum_by}
use Rattle.std.proofs.lemmas.List.{append-nil, length-append, take_all, take_more}
use Rattle.std.proofs.lemmas.List.Elements.{filter-append}
use Rattle.std.proofs.lemmas.List.FromFn.{map-range_with_len_more}
use Rattle.std.proofs.lemmas.Grind.{flat_map-append}
use Rattle.std.proofs.lemmas.Bool.{cases_eq}
use Rattle.std.proofs.lemmas.List.Sums.{sum_by-append, sum_by-cons}
use Rattle.std.specs.Prelude.{slice_index_or}

-- the numbers from a on, and one number more
pub range_more : (a n : ℕ) → range_with_len a (n + 1) ≡ range_with_len a n ++ (a + n) ∷ []
range_more a n =
    sym (map-id (range_with_len a (n + 1))) ∙ map-range_with_len_more (λ k. k) a n (a + n) refl
    ∙ ap (λ xs. xs ++ (a + n) ∷ []) (map-id (range_with_len a n))

-- the numbers below n, and one number more
pub below_more : (n : ℕ) → range_with_len 0 (n + 1) ≡ range_with_len 0 n ++ n ∷ []
below_more n =
    let sum : 0 + n ≡ n = omega arith in
    range_more 0 n ∙ ap (λ m. range_with_len 0 n ++ m ∷ []) sum

-- what f gives of them
pub flat_range_more : {A : Type 0} (f : ℕ → List A) (n : ℕ)
    → flat_map f (range_with_len 0 (n + 1)) ≡ flat_map f (range_with_len 0 n) ++ f n
flat_range_more f n =
    ap (flat_map f) (below_more n) ∙ flat_map-append f (range_with_len 0 n) (n ∷ [])
    ∙ ap (λ ys. flat_map f (range_with_len 0 n) ++ ys) (append-nil (f n))

module _ {A : Type 0} (f : ℕ → List A) (p : ℕ → Bool) where
  -- what f gives of the numbers below n that pass
  abbrev pub flat_below : ℕ → List A
  flat_below n = flat_map f (filter p (range_with_len 0 n))

  -- one number more
  pub flat_more : (n : ℕ) → flat_below (suc n) ≡ flat_below n ++ cond (p n) (f n) []
  flat_more n =
      ap flat_below (one n)
      ∙ ap (λ xs. flat_map f (filter p xs)) (below_more n)
      ∙ ap (flat_map f) (filter-append p (range_with_len 0 n) (n ∷ []))
      ∙ flat_map-append f (filter p (range_with_len 0 n)) (filter p (n ∷ []))
      ∙ ap (λ ys. flat_below n ++ ys) (last n (p n) refl)
    where
      one : (n : ℕ) → suc n ≡ n + 1
      one n = omega arith

      last : (n : ℕ) (b : Bool) → p n ≡ b → flat_map f (filter p (n ∷ [])) ≡ cond (p n) (f n) []
      last n true e = rw e (append-nil (f n))
      last n false e = rw e refl

  -- none of them gives anything
  pub flat_none : (n : ℕ) → ((k : ℕ) → k < n → f k ≡ []) → flat_below n ≡ []
  flat_none zero none = refl
  flat_none (suc n) none =
      flat_more n ∙ ap (λ xs. xs ++ cond (p n) (f n) []) (flat_none n (λ k h. none k (omega arith)))
      ∙ ap (λ xs. cond (p n) xs []) (none n (omega arith)) ∙ same (p n)
    where
      same : (b : Bool) → cond {A = List A} b [] [] ≡ []
      same true = refl
      same false = refl

  -- one alone gives something
  pub flat_one : (n o : ℕ) → o < n → ((k : ℕ) → k < n → k ≢ o → f k ≡ []) → flat_below n ≡ cond (p o) (f o) []
  flat_one zero o h others = absurd (omega arith)
  flat_one (suc n) o h others = elim (cases_eq o n) [
    | inl e ↦ flat_more n ∙ ap (λ xs. xs ++ cond (p n) (f n) []) (flat_none n (λ k below. others k (omega arith) (omega arith)))
        ∙ subst (λ (m : ℕ). cond (p m) (f m) [] ≡ cond (p o) (f o) []) e refl
    | inr ne ↦ flat_more n ∙ ap (λ xs. xs ++ cond (p n) (f n) []) (flat_one n o (omega arith) (λ k below. others k (omega arith)))
        ∙ ap (λ xs. cond (p o) (f o) [] ++ cond (p n) xs []) (others n (omega arith) (λ e. ne (sym e))) ∙ end (p n)
  ]
    where
      end : (b : Bool) → cond (p o) (f o) [] ++ cond {A = List A} b [] [] ≡ cond (p o) (f o) []
      end true = append-nil _
      end false = append-nil _

-- two alone give something, the lesser number first
module _ {A : Type 0} (f : ℕ → List A) (p : ℕ → Bool) where
  pub flat_two : (n a b : ℕ) → a < b → b < n → ((k : ℕ) → k < n → k ≢ a → k ≢ b → f k ≡ []) → flat_below f p n ≡ cond (p a) (f a) [] ++ cond (p b) (f b) []
  flat_two zero a b order h others = absurd (omega arith)
  flat_two (suc n) a b order h others = elim (cases_eq b n) [
    | inl e ↦ flat_more f p n
        ∙ ap (λ xs. xs ++ cond (p n) (f n) []) (flat_one f p n a (omega (arith, order, e)) (λ k below ne. others k (omega arith) ne (omega arith)))
        ∙ subst (λ (m : ℕ). cond (p a) (f a) [] ++ cond (p m) (f m) [] ≡ cond (p a) (f a) [] ++ cond (p b) (f b) []) e refl
    | inr ne ↦ flat_more f p n
        ∙ ap (λ xs. xs ++ cond (p n) (f n) []) (flat_two n a b order (omega arith) (λ k below. others k (omega arith)))
        ∙ ap (λ xs. (cond (p a) (f a) [] ++ cond (p b) (f b) []) ++ cond (p n) xs []) (others n (omega arith) (omega (arith, order, h)) (λ e. ne (sym e)))
        ∙ end (p n)
  ]
    where
      end : (b' : Bool) → (cond (p a) (f a) [] ++ cond (p b) (f b) []) ++ cond {A = List A} b' [] [] ≡ cond (p a) (f a) [] ++ cond (p b) (f b) []
      end true = append-nil _
      end false = append-nil _

-- lists that are alike for each number that passes
pub flat_same : {A : Type 0} (f g : ℕ → List A) (p : ℕ → Bool) (n : ℕ) → ((k : ℕ) → k < n → p k ≡ true → f k ≡ g k) → flat_below f p n ≡ flat_below g p n
flat_same f g p zero alike = refl
flat_same {A} f g p (suc n) alike =
    flat_more f p n ∙ ap (λ xs. xs ++ cond (p n) (f n) []) (flat_same f g p n (λ k h. alike k (omega arith)))
    ∙ ap (λ xs. flat_below g p n ++ xs) (last (p n) refl) ∙ sym (flat_more g p n)
  where
    last : (b : Bool) → p n ≡ b → cond b (f n) [] ≡ cond b (g n) []
    last true e = alike n (omega arith) e
    last false e = refl

-- one flat list of lists after another
pub flat_flat : {X A B : Type 0} (f : X → List A) (g : A → List B) (xs : List X) → flat_map g (flat_map f xs) ≡ flat_map (λ x. flat_map g (f x)) xs
flat_flat f g [] = refl
flat_flat f g (x ∷ xs) = flat_map-append g (f x) (flat_map f xs) ∙ ap (λ ys. flat_map g (f x) ++ ys) (flat_flat f g xs)

-- flat lists of functions that agree
pub flat_alike : {X A : Type 0} (f g : X → List A) → ((x : X) → f x ≡ g x) → (xs : List X) → flat_map f xs ≡ flat_map g xs
flat_alike f g alike [] = refl
flat_alike f g alike (x ∷ xs) = ap (λ ys. ys ++ flat_map f xs) (alike x) ∙ ap (λ ys. g x ++ ys) (flat_alike f g alike xs)

-- and of one that gives nothing
pub flat_nothing : {X A : Type 0} (f : X → List A) → ((x : X) → f x ≡ []) → (xs : List X) → flat_map f xs ≡ []
flat_nothing f none [] = refl
flat_nothing f none (x ∷ xs) = ap (λ ys. ys ++ flat_map f xs) (none x) ∙ flat_nothing f none xs

-- how many elements lists have together, with one list more
pub sum-more : {X : Type 0} (lists : List (List X)) (last : List X) → sum_by length (lists ++ last ∷ []) ≡ sum_by length lists + length last
sum-more lists last =
    let all = sum_by-append length lists (last ∷ []) in
    let one = sum_by-cons length last [] in
    omega (arith, all, one)

-- lists in a row, one for each place and as long as the one that stands there
pub flat-count : {A B : Type 0} (f : ℕ → List A) (lists : List (List B)) → ((n : ℕ) → length (f n) ≡ length (slice_index_or lists n [])) → (k : ℕ) → k ≤ length lists
    → length (flat_map f (range_with_len 0 k)) ≡ sum_by length (take k lists)
flat-count f lists each zero low = refl
flat-count f lists each (suc k) low =
    let same : suc k ≡ k + 1 = omega arith in
    let before = flat-count f lists each k (omega (arith, low)) in
    let more = ap length (flat_range_more f k) ∙ length-append (flat_map f (range_with_len 0 k)) (f k) in
    let own = each k in
    let taken = ap (sum_by length) (take_more lists k [] (omega (arith, low))) ∙ sum_by-append length (take k lists) (get_or lists k [] ∷ []) in
    let one = sum_by-cons length (get_or lists k []) [] in
    subst (λ (n : ℕ). length (flat_map f (range_with_len 0 n)) ≡ sum_by length (take n lists)) (sym same)
    (omega (arith, before, more, own, taken, one))

pub all-count : {A B : Type 0} (f : ℕ → List A) (lists : List (List B)) → ((n : ℕ) → length (f n) ≡ length (slice_index_or lists n []))
    → length (flat_map f (range_with_len 0 (length lists))) ≡ sum_by length lists
all-count f lists each = flat-count f lists each (length lists) (omega arith) ∙ ap (sum_by length) (take_all (length lists) lists (omega arith))
