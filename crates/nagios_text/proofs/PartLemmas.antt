-- Bytes in parts, with a byte between each two.
use Rattle.std.proofs.Common.{◌≡◌, ℕ, ◌+◌, ◌-◌, ◌<◌, ◌≤◌, true, false, not, cond, eqb, List, [], ◌∷◌, ◌++◌, length, length-take-le, take, drop, refl, sym, ap, ◌∙◌, arith}
use Rattle.std.specs.List.{after_first, before_first, onto_first, position_or_len, slice_split}
use Rattle.std.proofs.lemmas.List.{take_rest}
use Rattle.std.proofs.lemmas.List.Splits.{slice_split_first}
use Rattle.std.proofs.lemmas.List.Sums.{prefix_len-le-length}
use Rattle.std.proofs.Math.Seq.{take-length}
use Rattle.lemmas.proofs.Lists.{slice_split-first}
use Rattle.nagios_text.specs.claims.Lone.{with_between}

-- the parts of bytes
abbrev pub parts : (byte : ℕ) → List ℕ → List (List ℕ)
parts byte bytes = slice_split (λ b. eqb b byte) bytes

-- where the byte isn't there, all are one part
whole : (byte : ℕ) (bytes : List ℕ) → position_or_len (λ b. eqb b byte) bytes ≡ length bytes → parts byte bytes ≡ bytes ∷ []
whole byte [] none = refl
whole byte (x ∷ xs) none =
    elim (eqb x byte) as (λ b. cond (not b) (1 + position_or_len (λ b. eqb b byte) xs) 0 ≡ length (x ∷ xs) → cond b ([] ∷ parts byte xs) (onto_first x (parts byte xs)) ≡ (x ∷ xs) ∷ []) [
      | true ↦ λ here. absurd (omega (arith, here))
      | false ↦ λ further. ap (λ ps. onto_first x ps) (whole byte xs (omega (arith, further)))
    ] none

few : (byte : ℕ) (bytes : List ℕ) → position_or_len (λ b. eqb b byte) bytes ≤ length bytes
few byte bytes = prefix_len-le-length (λ b. not (eqb b byte)) bytes

first-long : (byte : ℕ) (bytes : List ℕ) → length (before_first (λ b. eqb b byte) bytes) ≡ position_or_len (λ b. eqb b byte) bytes
first-long byte bytes = length-take-le (position_or_len (λ b. eqb b byte) bytes) bytes (few byte bytes)

-- the last part
pub last-part : (byte : ℕ) (rest part : List ℕ) → part ≡ before_first (λ b. eqb b byte) rest → length part ≡ length rest → parts byte rest ≡ part ∷ []
last-part byte rest part is same =
    let at_end : position_or_len (λ b. eqb b byte) rest ≡ length rest = sym (first-long byte rest) ∙ ap length (sym is) ∙ same in
    let all : part ≡ rest = is ∙ ap (λ n. take n rest) at_end ∙ take-length rest in
    whole byte rest at_end ∙ ap (λ r. r ∷ []) (sym all)

-- a part that others follow
pub more-parts : (byte : ℕ) (rest part : List ℕ) → part ≡ before_first (λ b. eqb b byte) rest → (length part ≡ length rest → ⊥)
    → parts byte rest ≡ part ∷ parts byte (take (length rest - (length part + 1)) (drop (length part + 1) rest))
more-parts byte rest part is inside =
    let long : length part ≡ position_or_len (λ b. eqb b byte) rest = ap length is ∙ first-long byte rest in
    let within : position_or_len (λ b. eqb b byte) rest < length rest = let low = few byte rest in omega (arith, low) in
    let after : take (length rest - (length part + 1)) (drop (length part + 1) rest) ≡ after_first (λ b. eqb b byte) rest =
    take_rest rest (length part + 1) ∙ ap (λ n. drop (n + 1) rest) long in
    slice_split_first (λ b. eqb b byte) rest 0 within
    ∙ ap (λ p. p ∷ parts byte (after_first (λ b. eqb b byte) rest)) (sym is)
    ∙ ap (λ r. part ∷ parts byte r) (sym after)

-- there is one at least
pub some-part : (byte : ℕ) (bytes : List ℕ) → (first : List ℕ) × (others : List (List ℕ)) × (parts byte bytes ≡ first ∷ others)
some-part byte bytes = let split = slice_split-first (λ b. eqb b byte) bytes in (split.first, split.others, split.are)

pub between-more : (byte : ℕ) (bytes first : List ℕ) (all others : List (List ℕ)) → all ≡ first ∷ others → with_between byte (bytes ∷ all) ≡ bytes ++ byte ∷ with_between byte all
between-more byte bytes first all others is =
    ap (λ xs. with_between byte (bytes ∷ xs)) is ∙ ap (λ xs. bytes ++ byte ∷ with_between byte xs) (sym is)
