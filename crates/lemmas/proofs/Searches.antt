-- Searches in lists: where the first element that passes stands, whether some element passes, and what is found; each with
-- one element more, or for one that stands at a place. Some are of the texts of borrowed bytes.
use Rattle.std.proofs.Common.{◌≡◌, ℕ, zero, suc, ◌+◌, ◌<◌, ◌≤◌, nat_lt, Bool, true, false, not, cond, ◌||◌, List, [], ◌∷◌, ◌++◌, length, map, take, get_or, Option, Some, None, refl, sym, ap, eqb, eqb-true, eq-eqb, ⊎_elim, ◌∙◌, Bor, arith}
use Rattle.std.specs.Prelude.{All, filter_map, is_some}
use Rattle.std.specs.List.{cons_option, list_any, position, position_or_len}
use Rattle.std.specs.Option.{IfSome, option_or, option_to_list}
use Rattle.std.proofs.lemmas.Bool.{false≢true, cases_lt, lt-ltb, le-ltb, ltb-true}
use Rattle.std.proofs.lemmas.List.{map-append, take_more}
use Rattle.std.proofs.lemmas.List.Elements.{All-nil, All-cons}
use Rattle.std.proofs.lemmas.List.Folds.{list_any-append, position_or_len_push}
use Rattle.std.proofs.lemmas.List.Sums.{prefix_len-le-length}

-- ---- where a search ends

found-within : (b : Bool) (a n : ℕ) → nat_lt a n ≡ b → IfSome (cond b (Some a) None) (λ k. k < n)
found-within true a n is = ltb-true a n is
found-within false a n is = tt

pub position-within : {X : Type 0} (p : X → Bool) (xs : List X) → IfSome (position p xs) (λ k. k < length xs)
position-within p xs = found-within _ (position_or_len p xs) (length xs) refl

-- by where the first that passes stands among `l`, and whether one more passes
seam : (b : Bool) (n l : ℕ) → n ≤ l
    → cond (nat_lt (cond (eqb n l) (l + cond b 0 1) n) (l + 1)) (Some (cond (eqb n l) (l + cond b 0 1) n)) None
    ≡ option_or (cond (nat_lt n l) (Some n) None) (cond b (Some l) None)
seam b n l few = ⊎_elim
    (λ (low : n < l). let other : eqb n l ≡ false = differs (eqb n l) refl low in
    rw (other, lt-ltb n l low, lt-ltb n (l + 1) (omega arith)) refl)
    (λ (past : l ≤ n). let same : n ≡ l = omega arith in
    rw (eq-eqb n l same, le-ltb n l past) (at_end b))
    (cases_lt n l)
  where
    differs : (c : Bool) → eqb n l ≡ c → n < l → c ≡ false
    differs false is low = refl
    differs true is low = absurd (let same : n ≡ l = eqb-true n l is in omega arith)

    at_end : (c : Bool) → cond (nat_lt (l + cond c 0 1) (l + 1)) (Some (l + cond c 0 1)) None ≡ cond c (Some l) None
    at_end true = rw (lt-ltb (l + 0) (l + 1) (omega arith)) (ap (λ (k : ℕ). Some k) (omega arith))
    at_end false = rw (le-ltb (l + 1) (l + 1) (omega arith)) refl

pub position-snoc : {X : Type 0} (p : X → Bool) (xs : List X) (x : X)
    → position p (xs ++ x ∷ []) ≡ option_or (position p xs) (cond (p x) (Some (length xs)) None)
position-snoc p xs x =
    rw (position_or_len_push p xs x, length_snoc xs x)
    (seam (p x) (position_or_len p xs) (length xs) (prefix_len-le-length (λ y. not (p y)) xs))
  where
    length_snoc : {Y : Type 0} (ys : List Y) (y : Y) → length (ys ++ y ∷ []) ≡ length ys + 1
    length_snoc [] y = refl
    length_snoc (z ∷ ys) y = let more = length_snoc ys y in omega arith

-- ---- what is found, or what another search finds

pub or-none : {X : Type 0} (found : Option X) → option_or found None ≡ found
or-none None = refl
or-none (Some x) = refl

pub or-some : {X : Type 0} (found other : Option X) → is_some found ≡ true → option_or found other ≡ found
or-some None other is = absurd (false≢true is)
or-some (Some x) other is = refl

pub is_none-from : {X : Type 0} (found : Option X) → is_some found ≡ false → found ≡ None
is_none-from None is = refl
is_none-from (Some x) is = absurd (false≢true (sym is))

-- ---- what is found of each element

All-one : (P : ℕ → Type 0) (found : Option ℕ) (others : List ℕ) → IfSome found P → All P others → All P (cons_option found others)
All-one P None others here rest = rest
All-one P (Some k) others here rest = All-cons P k others here rest

pub All-found : (f : List ℕ → Option ℕ) (P : ℕ → Type 0) → ((name : List ℕ) → IfSome (f name) P) → (names : List (List ℕ)) → All P (filter_map f names)
All-found f P each [] = All-nil P
All-found f P each (name ∷ names) = All-one P (f name) (filter_map f names) (each name) (All-found f P each names)

pub found-one : (found : Option ℕ) → cons_option found [] ≡ option_to_list found
found-one None = refl
found-one (Some k) = refl

-- ---- one text more

abbrev pub texts : List (Bor (List ℕ)) → List (List ℕ)
texts borrowed = map (λ text. text.now) borrowed

pub any-at : (p : List ℕ → Bool) (xs : List (Bor (List ℕ))) (i : ℕ) (d : Bor (List ℕ)) → i < length xs → true ≡ p ((get_or xs i d).now) → true ≡ list_any p (texts xs)
any-at p [] i d within is = absurd (omega arith)
any-at p (x ∷ xs) zero d within is = rw (← is) refl
any-at p (x ∷ xs) (suc i) d within is =
    elim (p x.now) as (λ b. true ≡ (b || list_any p (texts xs))) [ true ↦ refl | false ↦ any-at p xs i d (omega arith) is ]

pub texts-more : (xs : List (Bor (List ℕ))) (i : ℕ) (d : Bor (List ℕ)) → i < length xs → texts (take (i + 1) xs) ≡ texts (take i xs) ++ (get_or xs i d).now ∷ []
texts-more xs i d within = ap texts (take_more xs i d within) ∙ map-append (λ text. text.now) (take i xs) (get_or xs i d ∷ [])

pub or-false : (a b : Bool) → (a || (b || false)) ≡ (a || b)
or-false a b = elim a as (λ x. (x || (b || false)) ≡ (x || b)) [ true ↦ refl | false ↦ elim b as (λ y. (y || false) ≡ y) [ true ↦ refl | false ↦ refl ] ]

pub any-more : (p : List ℕ → Bool) (xs : List (Bor (List ℕ))) (i : ℕ) (d : Bor (List ℕ)) → i < length xs
    → list_any p (texts (take (i + 1) xs)) ≡ (list_any p (texts (take i xs)) || p ((get_or xs i d).now))
any-more p xs i d within =
    ap (list_any p) (texts-more xs i d within) ∙ list_any-append p (texts (take i xs)) ((get_or xs i d).now ∷ []) ∙ or-false (list_any p (texts (take i xs))) (p ((get_or xs i d).now))

pub place-le : (p : List ℕ → Bool) (xs : List (List ℕ)) (i : ℕ) (d : List ℕ) → i < length xs → p (get_or xs i d) ≡ true → position_or_len p xs ≤ i
place-le p [] i d within is = absurd (omega (arith, within))
place-le p (x ∷ xs) zero d within is = let none = ap (λ (b : Bool). cond (not b) (1 + position_or_len p xs) 0) is in omega (arith, none)
place-le p (x ∷ xs) (suc i) d within is =
    elim (p x) as (λ b. cond (not b) (1 + position_or_len p xs) 0 ≤ suc i) [
      | true ↦ omega arith
      | false ↦ let few = place-le p xs i d (omega (arith, within)) is in omega (arith, few)
    ]

-- one entry more that is there
pub none-more : (p : List ℕ → Bool) (xs : List (Bor (List ℕ))) (i : ℕ) (d : Bor (List ℕ)) → i < length xs → list_any p (texts (take i xs)) ≡ false → p ((get_or xs i d).now) ≡ false
    → list_any p (texts (take (i + 1) xs)) ≡ false
none-more p xs i d within before here = any-more p xs i d within ∙ ap (λ (b : Bool). b || p ((get_or xs i d).now)) before ∙ here
