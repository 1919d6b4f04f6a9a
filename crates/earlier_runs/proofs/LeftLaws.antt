-- One lane after another.
use Rattle.std.proofs.Common.{◌≡◌, ℕ, zero, suc, map, take, ◌+◌, ◌<◌, ◌≤◌, ◌⊎◌, inl, inr, List, [], ◌∷◌, ◌++◌, get_or, length, None, Some, sym, ap, ◌∙◌, subst, arith, length-append}
use Rattle.std.specs.Prelude.{All, Contains, slice_get}
use Rattle.std.proofs.lemmas.List.{get_or_append_left, get_or_push, map-append, take_all, take_more}
use Rattle.std.proofs.lemmas.List.Elements.{All-push}
use Rattle.std.proofs.lemmas.Bool.{cases_eq}
use Rattle.std.proofs.lemmas.Option.{slice_get_cases, slice_get-get_or}
use Rattle.due_model.specs.declared.config.LaneId.{LaneId}

-- one within a list
pub some_within : {X : Type 0} (xs : List X) (l : ℕ) (x : X) → slice_get xs l ≡ Some x → (l < length xs) × (get_or xs l x ≡ x)
some_within {X} xs l x at = by (slice_get_cases xs l).1
  where
    same : (y : X) → slice_get xs l ≡ Some y → y ≡ x
    same y e = cc

    none_some : (x : X) → None ≡ Some x → ⊥
    none_some x e = cc

    by : ((y : X) × (l < length xs) × (slice_get xs l ≡ Some y) × (get_or xs l y ≡ y)) ⊎ ((length xs ≤ l) × (slice_get xs l ≡ None))
        → (l < length xs) × (get_or xs l x ≡ x)
    by (inl h) = (h.1, subst (λ (y : X). get_or xs l y ≡ y) (same h.0 h.2) h.3)
    by (inr h) = absurd (none_some x (sym h.1 ∙ at))

-- of a list with one more: it is among those before, or is the last
pub push_cases : {X : Type 0} (xs : List X) (x : X) (l : ℕ) (y : X) → slice_get (xs ++ x ∷ []) l ≡ Some y
    → (slice_get xs l ≡ Some y) ⊎ ((l ≡ length xs) × (x ≡ y))
push_cases {X} xs x l y at = by (cases_eq l (length xs))
  where
    is : (l < length (xs ++ x ∷ [])) × (get_or (xs ++ x ∷ []) l y ≡ y)
    is = some_within (xs ++ x ∷ []) l y at

    by : (l ≡ length xs) ⊎ (l ≡ length xs → ⊥) → (slice_get xs l ≡ Some y) ⊎ ((l ≡ length xs) × (x ≡ y))
    by (inl e) = inr (e, sym (get_or_push xs x y l (sym e)) ∙ is.1)
    by (inr n) =
        let long : length (xs ++ x ∷ []) ≡ length xs + 1 = length-append xs (x ∷ []) in
        let lt : l < length (xs ++ x ∷ []) = is.0 in
        let inside : l < length xs = omega (arith, long, lt, n) in
        inl (slice_get-get_or xs l y inside ∙ ap Some (sym (get_or_append_left xs (x ∷ []) y l inside) ∙ is.1))

pub there : {X : Type 0} (xs : List X) (l : ℕ) → l < length xs → (x : X) × (slice_get xs l ≡ Some x)
there {X} xs l within = by (slice_get_cases xs l).1
  where
    by : ((y : X) × (l < length xs) × (slice_get xs l ≡ Some y) × (get_or xs l y ≡ y)) ⊎ ((length xs ≤ l) × (slice_get xs l ≡ None)) → (x : X) × (slice_get xs l ≡ Some x)
    by (inl h) = (h.0, h.2)
    by (inr h) = let past : length xs ≤ l = h.0 in absurd (omega (arith, within, past))

-- a lane is its number
pub same_lane : (lane : LaneId) (number : ℕ) → lane.0 ≡ number → lane ≡ record { 0 = number }
same_lane lane number is = ap (λ (n : ℕ). record { 0 = n }) is

-- ---- one lane more

pub none_there : {X : Type 0} (l : ℕ) (x : X) → slice_get [] l ≡ Some x → ⊥
none_there {X} l x at = let within : l < 0 = (some_within [] l x at).0 in omega (arith, within)

pub each_none : {X : Type 0} (P : LaneId → X → Type 0) (lane : LaneId) (x : X) → slice_get [] lane.0 ≡ Some x → P lane x
each_none P lane x at = absurd (none_there lane.0 x at)

pub each_more : {X : Type 0} (P : LaneId → X → Type 0) (xs new : List X) (x : X) (number : ℕ) → length xs ≡ number → new ≡ xs ++ x ∷ []
    → ((lane : LaneId) (y : X) → slice_get xs lane.0 ≡ Some y → P lane y) → P (record { 0 = number }) x
    → (lane : LaneId) (y : X) → slice_get new lane.0 ≡ Some y → P lane y
each_more {X} P xs new x number count grown before one lane y at =
    by (push_cases xs x lane.0 y (sym (ap (λ (ys : List X). slice_get ys lane.0) grown) ∙ at))
  where
    by : (slice_get xs lane.0 ≡ Some y) ⊎ ((lane.0 ≡ length xs) × (x ≡ y)) → P lane y
    by (inl here) = before lane y here
    by (inr last) = subst (λ (l : LaneId). P l y) (sym (same_lane lane number (last.0 ∙ count))) (subst (λ (z : X). P (record { 0 = number }) z) last.1 one)

pub longer : {X : Type 0} (xs new : List X) (x : X) (number : ℕ) → length xs ≡ number → new ≡ xs ++ x ∷ [] → length new ≡ number + 1
longer xs new x number count grown = ap length grown ∙ length-append xs (x ∷ []) ∙ ap (λ (n : ℕ). n + 1) count

-- of the lanes below a number, and that one
pub below_more : (P : LaneId → Type 0) (number : ℕ) → ((lane : LaneId) → lane.0 < number → P lane) → P (record { 0 = number })
    → (lane : LaneId) → lane.0 < number + 1 → P lane
below_more P number before one lane within = by (cases_eq lane.0 number)
  where
    by : (lane.0 ≡ number) ⊎ (lane.0 ≡ number → ⊥) → P lane
    by (inl is) = subst P (sym (same_lane lane number is)) one
    by (inr other) = before lane (omega (arith, within, other))

pub below_none : (P : LaneId → Type 0) (lane : LaneId) → lane.0 < 0 → P lane
below_none P lane within = absurd (omega (arith, within))

-- ---- of two lists at once

pub both_more : {X Y : Type 0} (P : LaneId → X → Y → Type 0) (xs xs' : List X) (ys ys' : List Y) (x : X) (y : Y) (number : ℕ) → length xs ≡ number → length ys ≡ number
    → xs' ≡ xs ++ x ∷ [] → ys' ≡ ys ++ y ∷ [] → ((lane : LaneId) (a : X) (b : Y) → slice_get xs lane.0 ≡ Some a → slice_get ys lane.0 ≡ Some b → P lane a b)
    → P (record { 0 = number }) x y → (lane : LaneId) (a : X) (b : Y) → slice_get xs' lane.0 ≡ Some a → slice_get ys' lane.0 ≡ Some b → P lane a b
both_more {X} {Y} P xs xs' ys ys' x y number many many' grown grown' before one lane a b at at' =
    by (push_cases xs x lane.0 a (sym (ap (λ (zs : List X). slice_get zs lane.0) grown) ∙ at))
    (push_cases ys y lane.0 b (sym (ap (λ (zs : List Y). slice_get zs lane.0) grown') ∙ at'))
  where
    by : (slice_get xs lane.0 ≡ Some a) ⊎ ((lane.0 ≡ length xs) × (x ≡ a)) → (slice_get ys lane.0 ≡ Some b) ⊎ ((lane.0 ≡ length ys) × (y ≡ b)) → P lane a b
    by (inl here) (inl there) = before lane a b here there
    by (inl here) (inr last) =
        let within : lane.0 < length xs = (some_within xs lane.0 a here).0 in
        let end : lane.0 ≡ length ys = last.0 in
        absurd (omega (arith, within, end, many, many'))
    by (inr last) (inl there) =
        let within : lane.0 < length ys = (some_within ys lane.0 b there).0 in
        let end : lane.0 ≡ length xs = last.0 in
        absurd (omega (arith, within, end, many, many'))
    by (inr last) (inr end) =
        subst (λ (l : LaneId). P l a b) (sym (same_lane lane number (last.0 ∙ many)))
        (subst (λ (z : X). P (record { 0 = number }) z b) last.1 (subst (λ (z : Y). P (record { 0 = number }) x z) end.1 one))

pub both_none : {X Y : Type 0} (P : LaneId → X → Y → Type 0) (lane : LaneId) (a : X) (b : Y) → slice_get [] lane.0 ≡ Some a → slice_get [] lane.0 ≡ Some b → P lane a b
both_none P lane a b at at' = absurd (none_there lane.0 a at)

-- none of those below a number, nor that one
pub none_more : (P : ℕ → Type 0) (number : ℕ) → ((l : ℕ) → l < number → P l → ⊥) → (P number → ⊥) → (l : ℕ) → l < number + 1 → P l → ⊥
none_more P number before one l within h = by (cases_eq l number)
  where
    by : (l ≡ number) ⊎ (l ≡ number → ⊥) → ⊥
    by (inl is) = one (subst P is h)
    by (inr other) = before l (omega (arith, within, other)) h

-- ---- of what is seen one after another

pub all_more : {X Y : Type 0} (P : Y → Type 0) (f : X → Y) (xs : List X) (i : ℕ) (d x : X) → i < length xs → x ≡ get_or xs i d → All P (map f (take i xs)) → P (f x)
    → All P (map f (take (i + 1) xs))
all_more {X} {Y} P f xs i d x within is h one =
    subst (λ (ys : List Y). All P ys)
    (sym (map-append f (take i xs) (x ∷ [])) ∙ ap (map f) (ap (λ (y : X). take i xs ++ y ∷ []) is ∙ sym (take_more xs i d within)))
    (All-push P (map f (take i xs)) (f x) h one)

pub all_of : {X Y : Type 0} (P : Y → Type 0) (f : X → Y) (xs : List X) (i : ℕ) → length xs ≤ i → All P (map f (take i xs)) → All P (map f xs)
all_of {X} {Y} P f xs i past h = subst (λ (zs : List X). All P (map f zs)) (take_all i xs past) h

pub one_of : {X Y : Type 0} (f : X → Y) (xs : List X) (i : ℕ) (x : X) → i < length xs → x ≡ get_or xs i x → Contains (map f xs) (f x)
one_of {X} {Y} f [] i x within is = absurd (omega (arith, within))
one_of {X} {Y} f (y ∷ xs) zero x within is = (0, omega arith, ap f (sym is))
one_of {X} {Y} f (y ∷ xs) (suc i) x within is =
    let rest = one_of f xs i x (omega (arith, within)) is in
    let inside : rest.0 < length (map f xs) = rest.1 in
    (suc rest.0, omega (arith, inside), rest.2)
