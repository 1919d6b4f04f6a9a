-- Lists: those in which each element is related to each later one, ranges of numbers, elements read at a place, and a list
-- taken from its front one element at a time.
use Rattle.std.proofs.Common.{◌≡◌, ℕ, zero, suc, ◌+◌, ◌<◌, ◌≤◌, Bool, true, false, cond, ◌||◌, List, [], ◌∷◌, ◌++◌, length, length-take, length-take-le, get_or, take, drop, reverse, map-id, filter, flat_map, All, Some, slice_get, Contains, refl, sym, ap, ap₂, ◌∙◌, arith, replicate}
use Rattle.std.specs.List.{AllPairs, list_any, range_with_len, slice_split, onto_first}
use Rattle.std.proofs.lemmas.List.{take_more, reverse-append, length-reverse, take_all, drop_all, drop-append-le, get_or_default}
use Rattle.std.proofs.lemmas.List.Folds.{list_any-append}
use Rattle.std.proofs.lemmas.Option.{get_or_from_slice_get}
use Rattle.std.proofs.lemmas.List.Elements.{All-nil, All-cons, All-head, All-tail, All-append, All-same}
use Rattle.std.proofs.lemmas.List.FromFn.{get_or-range_with_len, length-range_with_len, filter_of_map_range_with_len_more}
use Rattle.std.proofs.lemmas.List.Kept.{AllPairs-cons}
use Rattle.std.specs.Option.{option_map_or}
use Rattle.std.proofs.lemmas.Bool.{false≢true}

-- lists in which each element is related to each later one

pub AllPairs-nil : {X : Type 0} (R : X → X → Type 0) → AllPairs R []
AllPairs-nil R = λ i j d h k. absurd (omega arith)

pub AllPairs-head : {X : Type 0} (R : X → X → Type 0) (x : X) (xs : List X) → AllPairs R (x ∷ xs) → All (R x) xs
AllPairs-head R x xs h = λ k d within. h 0 (suc k) d (omega arith) (omega arith)

pub AllPairs-tail : {X : Type 0} (R : X → X → Type 0) (x : X) (xs : List X) → AllPairs R (x ∷ xs) → AllPairs R xs
AllPairs-tail R x xs h = λ i j d before within. h (suc i) (suc j) d (omega arith) (omega arith)

pub AllPairs-append : {X : Type 0} (R : X → X → Type 0) (xs ys : List X) → AllPairs R xs → AllPairs R ys → All (λ x. All (R x) ys) xs → AllPairs R (xs ++ ys)
AllPairs-append R [] ys h k across = k
AllPairs-append R (x ∷ xs) ys h k across =
    AllPairs-cons R x (xs ++ ys)
    (All-append (R x) xs ys (AllPairs-head R x xs h) (All-head (λ x. All (R x) ys) x xs across))
    (AllPairs-append R xs ys (AllPairs-tail R x xs h) k (All-tail (λ x. All (R x) ys) x xs across))

pub range_increases : (a n : ℕ) → AllPairs (λ x y. x < y) (range_with_len a n)
range_increases a n = λ i j d before within.
    let w : j < n = omega (arith, within, length-range_with_len a n) in
    omega (arith, get_or-range_with_len a n i d (omega arith), get_or-range_with_len a n j d w)

pub All-flat_map : {X A : Type 0} (Q : A → Type 0) (f : X → List A) (xs : List X) → All (λ x. All Q (f x)) xs → All Q (flat_map f xs)
All-flat_map Q f [] h = All-nil Q
All-flat_map Q f (x ∷ xs) h = All-append Q (f x) (flat_map f xs) (All-head (λ x. All Q (f x)) x xs h) (All-flat_map Q f xs (All-tail (λ x. All Q (f x)) x xs h))

-- what holds of each element

pub All-reverse : {X : Type 0} (P : X → Type 0) (xs : List X) → All P xs → All P (reverse xs)
All-reverse P [] h = h
All-reverse P (x ∷ xs) h =
    All-same P (reverse (x ∷ xs)) (reverse xs ++ x ∷ []) (reverse-append (x ∷ []) xs)
    (All-append P (reverse xs) (x ∷ []) (All-reverse P xs (All-tail P x xs h)) (All-cons P x [] (All-head P x xs h) (All-nil P)))

pub All-slice_get : {X : Type 0} (P : X → Type 0) (xs : List X) (i : ℕ) (x : X) → All P xs → slice_get xs i ≡ Some x → P x
All-slice_get P [] i x h e = cc
All-slice_get P (y ∷ ys) zero x h e = let same : y ≡ x = cc in rw (← same) (All-head P y ys h)
All-slice_get P (y ∷ ys) (suc i) x h e = All-slice_get P ys i x (All-tail P y ys h) e

-- what a read gives, as an element
pub slice_get_read : {X : Type 0} (xs : List X) (i : ℕ) (x : X) → i < length xs → x ≡ get_or xs i x → slice_get xs i ≡ Some x
slice_get_read [] i x h e = absurd (omega arith)
slice_get_read (y ∷ ys) zero x h e = ap Some (sym e)
slice_get_read (y ∷ ys) (suc i) x h e = slice_get_read ys i x (omega arith) e

-- the numbers below n + 1 that pass a test
pub filter_range_more : (p : ℕ → Bool) (n : ℕ) → filter p (range_with_len 0 (n + 1)) ≡ filter p (range_with_len 0 n) ++ cond (p n) (n ∷ []) []
filter_range_more p n =
    ap (filter p) (sym (map-id (range_with_len 0 (n + 1))))
    ∙ filter_of_map_range_with_len_more p (λ k. k) 0 n n (omega arith)
    ∙ ap (λ xs. filter p xs ++ cond (p n) (n ∷ []) []) (map-id (range_with_len 0 n))

-- a list taken from its front, read from its back

-- the past after the event at place i
pub past_more : {X : Type 0} (xs : List X) (i : ℕ) (d : X) → i < length xs → reverse (take (i + 1) xs) ≡ get_or xs i d ∷ reverse (take i xs)
past_more xs i d h = ap reverse (take_more xs i d h) ∙ reverse-append (take i xs) (get_or xs i d ∷ [])

pub past_all : {X : Type 0} (xs : List X) (i : ℕ) → length xs ≤ i → reverse (take i xs) ≡ reverse xs
past_all xs i h = ap reverse (take_all i xs h)

pub drop_none : {X : Type 0} (xs : List X) (i : ℕ) → drop i (take i xs) ≡ []
drop_none xs i = drop_all i (take i xs) (omega (arith, length-take i xs))

-- the elements from `start` on, read from the back, after one more
pub part_more : {X : Type 0} (xs : List X) (start i : ℕ) (d : X) → start ≤ i → i < length xs → reverse (drop start (take (i + 1) xs)) ≡ get_or xs i d ∷ reverse (drop start (take i xs))
part_more xs start i d low h =
    ap (λ ys. reverse (drop start ys)) (take_more xs i d h)
    ∙ ap reverse (drop-append-le start (take i xs) (get_or xs i d ∷ []) (omega (arith, length-take i xs)))
    ∙ reverse-append (drop start (take i xs)) (get_or xs i d ∷ [])

pub length_past : {X : Type 0} (xs : List X) (i : ℕ) → i < length xs → length (reverse (take i xs)) ≡ i
length_past xs i h = length-reverse (take i xs) ∙ length-take-le i xs (omega arith)

-- the parts of a list between the elements that pass a test

-- there is a first part
pub record HasFirst {X : Type 0} (parts : List (List X)) : Type 0 where
  pub first : List X
  pub others : List (List X)
  pub are : parts ≡ first ∷ others

onto_first-first : {X : Type 0} (x : X) (parts : List (List X)) → HasFirst (onto_first x parts)
onto_first-first x [] = record { first = x ∷ []; others = []; are = refl }
onto_first-first x (part ∷ parts) = record { first = x ∷ part; others = parts; are = refl }

pub slice_split-first : {X : Type 0} (p : X → Bool) (xs : List X) → HasFirst (slice_split p xs)
slice_split-first p [] = record { first = []; others = []; are = refl }
slice_split-first p (x ∷ xs) = elim (p x) as (λ b. HasFirst (cond b ([] ∷ slice_split p xs) (onto_first x (slice_split p xs)))) [
  | true ↦ record { first = []; others = slice_split p xs; are = refl }
  | false ↦ onto_first-first x (slice_split p xs)
]

-- two tests that agree at each element of a list
pub any_alike : {X : Type 0} (f g : X → Bool) (xs : List X) → ((x : X) → Contains xs x → f x ≡ g x) → list_any f xs ≡ list_any g xs
any_alike f g [] alike = refl
any_alike f g (x ∷ xs) alike =
    ap₂ (λ a b. a || b) (alike x (0, omega arith, refl)) (any_alike f g xs (λ y found. alike y (suc found.0, omega (arith, found.1), found.2)))

or_none : (b : Bool) → (b || false) ≡ b
or_none true = refl
or_none false = refl

-- whether one of a list passes, with one element more
pub any_more : {X : Type 0} (f : X → Bool) (xs : List X) (i : ℕ) (d : X) → i < length xs → list_any f (take (i + 1) xs) ≡ (list_any f (take i xs) || f (get_or xs i d))
any_more f xs i d low =
    ap (list_any f) (take_more xs i d low) ∙ list_any-append f (take i xs) (get_or xs i d ∷ [])
    ∙ ap (λ (b : Bool). list_any f (take i xs) || b) (or_none (f (get_or xs i d)))

-- what is read of a list at a place where an element stands
pub is_read : {X : Type 0} (xs ys : List X) (i k : ℕ) (d x : X) → ys ≡ xs → k ≡ i → slice_get xs i ≡ Some x → get_or ys k d ≡ x
is_read {X} xs ys i k d x same place at = ap (λ (zs : List X). get_or zs k d) same ∙ ap (λ (m : ℕ). get_or xs m d) place ∙ get_or_from_slice_get xs i x d at

pub some_at : {X : Type 0} (xs : List X) (i : ℕ) → i < length xs → (x : X) × (slice_get xs i ≡ Some x)
some_at [] i low = absurd (omega arith)
some_at (x ∷ xs) zero low = (x, refl)
some_at (x ∷ xs) (suc i) low = some_at xs i (omega arith)

pub range_below : (n : ℕ) → All (λ k. k < n) (range_with_len 0 n)
range_below n = λ i d within.
    let low : i < n = omega (arith, within, length-range_with_len 0 n) in
    omega (arith, low, get_or-range_with_len 0 n i d low)

pub none-marked : (n k : ℕ) → get_or (replicate n false) k false ≡ false
none-marked zero k = refl
none-marked (suc n) zero = refl
none-marked (suc n) (suc k) = none-marked n k

pub place-is : (items places : List ℕ) (i d e : ℕ) → items ≡ places → i < length places → get_or items i d ≡ get_or places i e
place-is items places i d e same within = ap (λ (xs : List ℕ). get_or xs i d) same ∙ get_or_default places i d e within

-- a place of which something is said
pub at-within : {X : Type 0} (q : X → Bool) (xs : List X) (place : ℕ) → option_map_or q (slice_get xs place) false ≡ true → place < length xs
at-within q [] place is = absurd (false≢true is)
at-within q (x ∷ xs) zero is = omega arith
at-within q (x ∷ xs) (suc place) is = let low = at-within q xs place is in omega (arith, low)
