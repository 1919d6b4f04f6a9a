-- The pairs of dependents and masters.
use Rattle.std.proofs.Common.{◌≡◌, ℕ, ◌*◌, ◌<◌, List, [], ◌∷◌, length, map, get_or, refl, sym, ap, subst, ◌∙◌, inl, inr, arith}
use Rattle.std.specs.Prelude.{All, AllPairs, Contains}
use Rattle.std.specs.List.Sorted.{IsStrictlyIncreasing}
use Rattle.std.proofs.lemmas.List.{length-map, length-append}
use Rattle.std.proofs.lemmas.List.Elements.{All-from_get_or, Contains-get_or}
use Rattle.std.proofs.Math.Nat.{suc-mul, zero-mul}
use Rattle.std.proofs.lemmas.List.Kept.{AllPairs-cons, AllPairs-from_increasing}
use Rattle.lemmas.proofs.Elements.{Contains-from_map}
use Rattle.lemmas.proofs.Lists.{AllPairs-append, AllPairs-head, AllPairs-nil, AllPairs-tail}
use Rattle.object_dependencies.specs.claims.Pairs.{IsBefore, Pair}
use Rattle.object_dependencies.specs.Pairs.{paired}
use Rattle.object_dependencies.specs.PairLaws.{paired-cons, paired-from}

row : List ℕ → ℕ → List Pair
row masters dependent = map (λ master. (dependent, master)) masters

-- ---- their order

row-ordered : (d : ℕ) (ms : List ℕ) → AllPairs (λ m n. m < n) ms → AllPairs IsBefore (map (λ master. (d, master)) ms)
row-ordered d [] rising = AllPairs-nil IsBefore
row-ordered d (m ∷ ms) rising = AllPairs-cons IsBefore (d, m) (map (λ master. (d, master)) ms)
    (All-from_get_or (IsBefore (d, m)) (map (λ master. (d, master)) ms) (0, 0)
    (λ i low.
    let p = get_or (map (λ master. (d, master)) ms) i (0, 0) in
    let on = Contains-from_map (λ master. (d, master)) ms p (Contains-get_or (map (λ master. (d, master)) ms) i (0, 0) low) in
    let more : m < on.0 = All-at ms on.0 (AllPairs-head (λ m n. m < n) m ms rising) on.1 in
    subst (IsBefore (d, m)) on.2 (inr (refl, more))))
    (row-ordered d ms (AllPairs-tail (λ m n. m < n) m ms rising))
  where
    All-at : (xs : List ℕ) (x : ℕ) → All (λ n. m < n) xs → Contains xs x → m < x
    All-at xs x all (i, within, is) = let low = all i 0 within in omega (arith, low, is)

pub paired-ordered : (ds ms : List ℕ) → AllPairs (λ d e. d < e) ds → AllPairs (λ m n. m < n) ms → AllPairs IsBefore (paired ds ms)
paired-ordered [] ms rising also = AllPairs-nil IsBefore
paired-ordered (d ∷ ds) ms rising also = subst (AllPairs IsBefore) (sym (paired-cons d ds ms))
    (AllPairs-append IsBefore (map (λ master. (d, master)) ms) (paired ds ms) (row-ordered d ms also) (paired-ordered ds ms (AllPairs-tail (λ d e. d < e) d ds rising) also)
    (All-from_get_or (λ p. All (IsBefore p) (paired ds ms)) (map (λ master. (d, master)) ms) (0, 0)
    (λ i low. All-from_get_or (IsBefore (get_or (map (λ master. (d, master)) ms) i (0, 0))) (paired ds ms) (0, 0)
    (λ j within.
    let p = get_or (map (λ master. (d, master)) ms) i (0, 0) in
    let q = get_or (paired ds ms) j (0, 0) in
    let first = Contains-from_map (λ master. (d, master)) ms p (Contains-get_or (map (λ master. (d, master)) ms) i (0, 0) low) in
    let same : d ≡ p.0 = ap (λ (r : Pair). r.0) first.2 in
    let later = paired-from ds ms q (Contains-get_or (paired ds ms) j (0, 0) within) in
    let more : d < q.0 = All-at ds q.0 (AllPairs-head (λ d e. d < e) d ds rising) later.0 in
    inl (omega (arith, same, more))))))
  where
    All-at : (xs : List ℕ) (x : ℕ) → All (λ n. d < n) xs → Contains xs x → d < x
    All-at xs x all (i, within, is) = let low = all i 0 within in omega (arith, low, is)

pub ordered-from : (ds ms : List ℕ) → IsStrictlyIncreasing ds → IsStrictlyIncreasing ms → AllPairs IsBefore (paired ds ms)
ordered-from ds ms rising also = paired-ordered ds ms (AllPairs-from_increasing ds rising) (AllPairs-from_increasing ms also)

-- ---- how many they are

pub paired-length : (ds ms : List ℕ) → length (paired ds ms) ≡ length ds * length ms
paired-length [] ms = sym (zero-mul (length ms))
paired-length (d ∷ ds) ms =
    let all = ap (λ (ps : List Pair). length ps) (paired-cons d ds ms) ∙ length-append (map (λ master. (d, master)) ms) (paired ds ms) in
    let here = length-map {B = Pair} ms (λ master. (d, master)) in
    let more = paired-length ds ms in
    let sum = suc-mul (length ds) (length ms) in
    omega (arith, all, here, more, sum)

pub paired-none : (ds : List ℕ) → paired ds [] ≡ []
paired-none [] = refl
paired-none (d ∷ ds) = paired-cons d ds [] ∙ paired-none ds
