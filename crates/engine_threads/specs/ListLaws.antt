-- Laws of lists that are read, written and made longer one place at a time: what one loop over lanes or deciders knows of the places
-- before it.
use Rattle.std.proofs.Common.{◌≡◌, ℕ, zero, suc, List, [], ◌∷◌, ◌++◌, length, slice_get, set, Some, refl, sym}
use Rattle.std.proofs.Common.{ap, ◌∙◌, subst, ⊎_elim, ◌⊎◌, inl, inr, append_assoc, append-nil, length-append, ◌+◌, ◌<◌, arith}
use Rattle.std.proofs.lemmas.Bool.{cases_eq}
use Rattle.std.proofs.lemmas.List.{get_or-set_same, length-set}
use Rattle.std.proofs.lemmas.Option.{none-some, same_Some, slice_get-get_or}

-- ---- lists that grow

-- what stands at a place of a list that has grown
pub place : {X : Type 0} (l : List X) (a b : X) (j : ℕ) → slice_get (l ++ a ∷ []) j ≡ Some b
    → (slice_get l j ≡ Some b) ⊎ ((j ≡ length l) × (a ≡ b))
place [] a b zero e = inr (refl, same_Some a b e)
place [] a b (suc j) e = absurd (none-some b e)
place (x ∷ xs) a b zero e = inl e
place {X} (x ∷ xs) a b (suc j) e = ⊎_elim
    (λ (y : slice_get xs j ≡ Some b). inl y)
    (λ (y : (j ≡ length xs) × (a ≡ b)). inr (ap suc y.0, y.1))
    (place xs a b j e)

pub no_place : {X : Type 0} (l : List X) (b : X) → slice_get l (length l) ≡ Some b → ⊥
no_place [] b e = none-some b e
no_place (x ∷ xs) b e = no_place xs b e

-- what holds of each of a list holds of one more
pub each_grows : {X : Type 0} (F : X → Type 0) (xs : List X) (x : X)
    → ((i : ℕ) (a : X) → slice_get xs i ≡ Some a → F a) → F x
    → (i : ℕ) (a : X) → slice_get (xs ++ x ∷ []) i ≡ Some a → F a
each_grows {X} F xs x each last i a at =
    ⊎_elim (λ y. each i a y) (λ y. subst F y.1 last) (place xs x a i at)

-- a relation of the places of two lists of one length stays where both grow
pub pairs_grow : {X Y : Type 0} (F : ℕ → X → Y → Type 0) (xs : List X) (ys : List Y) (x : X) (y : Y)
    → length ys ≡ length xs
    → ((i : ℕ) (a : X) (b : Y) → slice_get xs i ≡ Some a → slice_get ys i ≡ Some b → F i a b)
    → F (length xs) x y
    → (i : ℕ) (a : X) (b : Y) → slice_get (xs ++ x ∷ []) i ≡ Some a → slice_get (ys ++ y ∷ []) i ≡ Some b
    → F i a b
pairs_grow {X} {Y} F xs ys x y same each last i a b at_a at_b = both (place xs x a i at_a) (place ys y b i at_b)
  where
    both : (slice_get xs i ≡ Some a) ⊎ ((i ≡ length xs) × (x ≡ a))
        → (slice_get ys i ≡ Some b) ⊎ ((i ≡ length ys) × (y ≡ b)) → F i a b
    both (inl p) (inl q) = each i a b p q
    both (inl p) (inr q) = absurd (no_place xs a (subst (λ (k : ℕ). slice_get xs k ≡ Some a) (q.0 ∙ same) p))
    both (inr p) (inl q) =
        absurd (no_place ys b (subst (λ (k : ℕ). slice_get ys k ≡ Some b) (p.0 ∙ sym same) q))
    both (inr p) (inr q) =
        subst (λ (k : ℕ). F k a b) (sym p.0)
        (subst (λ (u : X). F (length xs) u b) p.1 (subst (λ (v : Y). F (length xs) x v) q.1 last))

-- what stands before the end of a list that has grown, and at it
stays : {X : Type 0} (l : List X) (a b : X) (j : ℕ) → ¬ (j ≡ length l) → slice_get (l ++ a ∷ []) j ≡ Some b → slice_get l j ≡ Some b
stays {X} l a b j apart e = ⊎_elim (λ (was : slice_get l j ≡ Some b). was) (λ (is : (j ≡ length l) × (a ≡ b)). absurd (apart is.0)) (place l a b j e)

is_last : {X : Type 0} (l : List X) (a b : X) (j : ℕ) → j ≡ length l → slice_get (l ++ a ∷ []) j ≡ Some b → a ≡ b
is_last {X} l a b j at e = ⊎_elim
    (λ (was : slice_get l j ≡ Some b). absurd (no_place l b (subst (λ (k : ℕ). slice_get l k ≡ Some b) at was)))
    (λ (is : (j ≡ length l) × (a ≡ b)). is.1)
    (place l a b j e)

-- a relation of the places of three lists of one length stays where all grow
pub triples_grow : {X Y Z : Type 0} (F : ℕ → X → Y → Z → Type 0) (xs : List X) (ys : List Y) (zs : List Z) (x : X) (y : Y) (z : Z)
    → length ys ≡ length xs → length zs ≡ length xs
    → ((i : ℕ) (a : X) (b : Y) (d : Z) → slice_get xs i ≡ Some a → slice_get ys i ≡ Some b → slice_get zs i ≡ Some d → F i a b d)
    → F (length xs) x y z
    → (i : ℕ) (a : X) (b : Y) (d : Z) → slice_get (xs ++ x ∷ []) i ≡ Some a → slice_get (ys ++ y ∷ []) i ≡ Some b
    → slice_get (zs ++ z ∷ []) i ≡ Some d → F i a b d
triples_grow {X} {Y} {Z} F xs ys zs x y z same_y same_z each last i a b d at_a at_b at_d = ⊎_elim
    (λ (at : i ≡ length xs).
    subst (λ (k : ℕ). F k a b d) (sym at)
    (subst (λ (u : X). F (length xs) u b d) (is_last xs x a i at at_a)
    (subst (λ (v : Y). F (length xs) x v d) (is_last ys y b i (at ∙ sym same_y) at_b)
    (subst (λ (w : Z). F (length xs) x y w) (is_last zs z d i (at ∙ sym same_z) at_d) last))))
    (λ (apart : ¬ (i ≡ length xs)).
    each i a b d (stays xs x a i apart at_a) (stays ys y b i (λ e. apart (e ∙ same_y)) at_b) (stays zs z d i (λ e. apart (e ∙ same_z)) at_d))
    (cases_eq i (length xs))

-- two lists of one length that grow
pub both_longer : {X Y : Type 0} (xs : List X) (ys more : List Y) (x : X) (y : Y) → more ≡ ys ++ y ∷ []
    → length ys ≡ length xs → length more ≡ length (xs ++ x ∷ [])
both_longer xs ys more x y is same =
    ap length is ∙ length-append ys (y ∷ []) ∙ ap (λ n. n + 1) same ∙ sym (length-append xs (x ∷ []))

-- ---- a list that is taken from its front

-- what comes after the item that is next is the rest
pub next_rest : {X : Type 0} (xs : List X) (x : X) (rest ys whole : List X) → rest ≡ x ∷ ys
    → xs ++ rest ≡ whole → (xs ++ x ∷ []) ++ ys ≡ whole
next_rest {X} xs x rest ys whole is e =
    append_assoc xs (x ∷ []) ys ∙ ap (λ (r : List X). xs ++ r) (sym is) ∙ e

-- where nothing is left all was taken
pub all_taken : {X : Type 0} (xs rest whole : List X) → rest ≡ [] → xs ++ rest ≡ whole → xs ≡ whole
all_taken {X} xs rest whole none e = sym (append-nil xs) ∙ ap (λ (r : List X). xs ++ r) (sym none) ∙ e

-- ---- one place that is written

pub set_same : {X : Type 0} (xs : List X) (i : ℕ) (x : X) → i < length xs
    → slice_get (set xs i x) i ≡ Some x
set_same {X} xs i x within =
    slice_get-get_or (set xs i x) i x (let l = length-set xs i x in omega (arith, l, within))
    ∙ ap (λ (y : X). Some y) (get_or-set_same xs i x x within)

pub set_other : {X : Type 0} (xs : List X) (i j : ℕ) (x : X) → ¬ (j ≡ i)
    → slice_get (set xs i x) j ≡ slice_get xs j
set_other [] i j x apart = refl
set_other (y ∷ ys) zero zero x apart = absurd (apart refl)
set_other (y ∷ ys) zero (suc j) x apart = refl
set_other (y ∷ ys) (suc i) zero x apart = refl
set_other (y ∷ ys) (suc i) (suc j) x apart = set_other ys i j x (λ e. apart (ap suc e))
