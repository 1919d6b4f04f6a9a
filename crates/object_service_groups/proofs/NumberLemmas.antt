-- One place, one service or one edge more.
use Rattle.std.proofs.Common.{◌≡◌, ℕ, zero, suc, ◌+◌, ◌<◌, List, [], ◌∷◌, ◌++◌, append_assoc, length, map, replicate, take, get_or, refl, sym, ap, ◌∙◌, arith}
use Rattle.std.specs.List.{flat_map, range_with_len}
use Rattle.std.proofs.lemmas.List.{map-append, take_more}
use Rattle.graph.specs.declared.edges.Edge.{Edge}
use Rattle.lemmas.proofs.Numbers.{below_more, flat_range_more}

-- ---- one block more, and its services

pub blocks-more : (f : ℕ → List ℕ) (old new one : List ℕ) (number : ℕ) → old ≡ flat_map f (range_with_len 0 number) → new ≡ old ++ one → one ≡ f number
    → new ≡ flat_map f (range_with_len 0 (number + 1))
blocks-more f old new one number before more is =
    more ∙ ap (λ (xs : List ℕ). xs ++ one) before ∙ ap (λ (xs : List ℕ). flat_map f (range_with_len 0 number) ++ xs) is ∙ sym (flat_range_more f number)

replicate-snoc : (n x : ℕ) → replicate (n + 1) x ≡ replicate n x ++ x ∷ []
replicate-snoc zero x = refl
replicate-snoc (suc n) x = let shift : suc n + 1 ≡ suc (n + 1) = omega arith in rw shift (ap (λ (xs : List ℕ). x ∷ xs) (replicate-snoc n x))

pub services-more : (first old new : List ℕ) (n x : ℕ) → old ≡ first ++ replicate n x → new ≡ old ++ x ∷ [] → new ≡ first ++ replicate (n + 1) x
services-more first old new n x before more =
    more ∙ ap (λ (xs : List ℕ). xs ++ x ∷ []) before ∙ append_assoc first (replicate n x) (x ∷ []) ∙ ap (λ (xs : List ℕ). first ++ xs) (sym (replicate-snoc n x))

-- ---- one edge more

pub edges-more : (f : ℕ → Edge) (first old new : List Edge) (xs : List ℕ) (i d : ℕ) → i < length xs → old ≡ first ++ map f (take i xs) → new ≡ old ++ f (get_or xs i d) ∷ []
    → new ≡ first ++ map f (take (i + 1) xs)
edges-more f first old new xs i d within before more =
    more ∙ ap (λ (es : List Edge). es ++ f (get_or xs i d) ∷ []) before ∙ append_assoc first (map f (take i xs)) (f (get_or xs i d) ∷ [])
    ∙ ap (λ (es : List Edge). first ++ es) (sym (ap (map f) (take_more xs i d within) ∙ map-append f (take i xs) (get_or xs i d ∷ [])))

pub owners-more : (f : ℕ → Edge) (first old new : List Edge) (n : ℕ) (one : Edge) → old ≡ first ++ map f (range_with_len 0 n) → new ≡ old ++ one ∷ [] → one ≡ f n
    → new ≡ first ++ map f (range_with_len 0 (n + 1))
owners-more f first old new n one before more is =
    more ∙ ap (λ (es : List Edge). es ++ one ∷ []) before ∙ append_assoc first (map f (range_with_len 0 n)) (one ∷ [])
    ∙ ap (λ (e : Edge). first ++ (map f (range_with_len 0 n) ++ e ∷ [])) is
    ∙ ap (λ (es : List Edge). first ++ es) (sym (ap (map f) (below_more n) ∙ map-append f (range_with_len 0 n) (n ∷ [])))
