-- How many bytes come first that are digits, by a comparison of all lanes of a vector at once.
use Rattle.std.proofs.Common.{◌≡◌, ℕ, ◌+◌, ◌%◌, ◌^◌, ◌<◌, ◌≤◌, Bool, true, false, not, cond, leb, ltb, List, [], ◌∷◌, length, map, replicate, refl, sym, ap, ap₂, ◌∙◌, ⊎_elim, arith, bit_or}
use Rattle.std.specs.Char.{is_ascii_digit}
use Rattle.std.specs.List.{prefix_len}
use Rattle.std.specs.Simd.Lanes.{zip2, mask_l, top}
use Rattle.std.proofs.lemmas.List.{length-map}
use Rattle.std.proofs.lemmas.Bool.{cases_lt, lt-ltb, le-ltb, lt-leb, le-leb}
use Rattle.std.proofs.lemmas.Simd.{leading_from_mask_l, mask_l-mod, trailing_mask_l, zip2_of_maps, zip2_splat, zip2_splat_left}
use lib.Count.{count_trailing_zeros}

-- a test that says the same
prefix_len-same : (p q : ℕ → Bool) → ((x : ℕ) → p x ≡ q x) → (xs : List ℕ) → prefix_len p xs ≡ prefix_len q xs
prefix_len-same p q same [] = refl
prefix_len-same p q same (x ∷ xs) = ap₂ (λ (b : Bool) (k : ℕ). cond b (1 + k) 0) (same x) (prefix_len-same p q same xs)

not_not : (b : Bool) → not (not b) ≡ b
not_not true = refl
not_not false = refl

-- ---- digits

abbrev below : ℕ → ℕ → ℕ
below a b = cond (ltb a b) 255 0

abbrev is_other : ℕ → Bool
is_other byte = not (is_ascii_digit byte)

-- one lane of the comparisons with '0' and '9'
other_lane : (x : ℕ) → top 7 (bit_or (below x 48) (below 57 x)) ≡ is_other x
other_lane x =
    ⊎_elim
    (λ (low : x < 48). let a : ltb x 48 ≡ true = lt-ltb x 48 low in let b : ltb 57 x ≡ false = le-ltb 57 x (omega (arith, low)) in let c : leb 48 x ≡ false = lt-leb 48 x low in rw (a, b, c) refl)
    (λ (more : 48 ≤ x). let a : ltb x 48 ≡ false = le-ltb x 48 more in let c : leb 48 x ≡ true = le-leb 48 x more in
    ⊎_elim
    (λ (high : 57 < x). let b : ltb 57 x ≡ true = lt-ltb 57 x high in let d : leb x 57 ≡ false = lt-leb x 57 high in rw (a, b, c, d) refl)
    (λ (digit : x ≤ 57). let b : ltb 57 x ≡ false = le-ltb 57 x digit in let d : leb x 57 ≡ true = le-leb x 57 digit in rw (a, b, c, d) refl)
    (cases_lt 57 x))
    (cases_lt x 48)

other_lanes : (xs : List ℕ) → map (top 7) (map (λ x. bit_or (below x 48) (below 57 x)) xs) ≡ map is_other xs
other_lanes [] = refl
other_lanes (x ∷ xs) = ap₂ (λ (b : Bool) (bs : List Bool). b ∷ bs) (other_lane x) (other_lanes xs)

abbrev marks : List ℕ → ℕ
marks bytes = mask_l (map (top 7) (zip2 bit_or (zip2 below bytes (replicate 16 48)) (zip2 below (replicate 16 57) bytes))) % 2 ^ 64

marks-are : (bytes : List ℕ) → length bytes ≡ 16 → marks bytes ≡ mask_l (map is_other bytes)
marks-are bytes long =
    ap (λ (lanes : List ℕ). mask_l (map (top 7) lanes) % 2 ^ 64)
    (zip2_of_maps bit_or (λ x. below x 48) (λ x. below 57 x) bytes (zip2_splat below bytes 16 48 long) (zip2_splat_left below 57 16 bytes long))
    ∙ ap (λ (tops : List Bool). mask_l tops % 2 ^ 64) (other_lanes bytes)
    ∙ mask_l-mod (map is_other bytes) 64 (omega (arith, length-map bytes is_other, long))

pub digits-all : (bytes : List ℕ) → length bytes ≡ 16 → marks bytes ≡ 0 → 16 ≡ prefix_len is_ascii_digit bytes
digits-all bytes long none =
    sym (sym (prefix_len-same (λ x. not (is_other x)) is_ascii_digit (λ x. not_not (is_ascii_digit x)) bytes)
    ∙ leading_from_mask_l is_other bytes (sym (marks-are bytes long) ∙ none) ∙ long)

pub digits-some : (bytes : List ℕ) → length bytes ≡ 16 → 0 < marks bytes → count_trailing_zeros 64 (marks bytes) ≡ prefix_len is_ascii_digit bytes
digits-some bytes long some =
    ap (count_trailing_zeros 64) (marks-are bytes long)
    ∙ trailing_mask_l is_other 64 bytes (omega (arith, long)) (omega (arith, marks-are bytes long, some))
    ∙ prefix_len-same (λ x. not (is_other x)) is_ascii_digit (λ x. not_not (is_ascii_digit x)) bytes
