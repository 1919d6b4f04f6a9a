-- The entries of a list, part by part.
use Rattle.std.proofs.Common.{◌≡◌, ℕ, ◌+◌, ◌-◌, ◌<◌, ◌≤◌, true, false, not, cond, List, [], ◌∷◌, ◌++◌, append_assoc, length, map, filter, take, drop, refl, sym, ap, eqb, length-take-le, ◌∙◌, arith}
use Rattle.std.specs.List.{after_first, before_first, onto_first, position_or_len, slice_split}
use Rattle.std.proofs.lemmas.List.{append-nil, take_rest}
use Rattle.std.proofs.lemmas.List.Splits.{slice_split_first}
use Rattle.std.proofs.Math.Seq.{take-length}
use Rattle.object_reader.specs.claims.Blanks.{trimmed}
use Rattle.object_values.specs.claims.Values.{entries, is_comma}

pub position_or_len-le : (bytes : List ℕ) → position_or_len is_comma bytes ≤ length bytes
position_or_len-le [] = omega arith
position_or_len-le (x ∷ xs) =
    elim (is_comma x) as (λ b. cond (not b) (1 + position_or_len is_comma xs) 0 ≤ length (x ∷ xs)) [ true ↦ omega arith | false ↦ let few = position_or_len-le xs in omega (arith, few) ]

pub split-whole : (value : List ℕ) → position_or_len is_comma value ≡ length value → slice_split is_comma value ≡ value ∷ []
split-whole [] none = refl
split-whole (x ∷ xs) none =
    elim (is_comma x) as (λ b. cond (not b) (1 + position_or_len is_comma xs) 0 ≡ length (x ∷ xs) → cond b ([] ∷ slice_split is_comma xs) (onto_first x (slice_split is_comma xs)) ≡ (x ∷ xs) ∷ []) [
      | true ↦ λ here. absurd (omega (arith, here))
      | false ↦ λ further. ap (λ parts. onto_first x parts) (split-whole xs (omega (arith, further)))
    ] none

one_entry : (part : List ℕ) (others : List (List ℕ))
    → filter (λ e. not (eqb (length e) 0)) (map trimmed (part ∷ others)) ≡ cond (eqb (length (trimmed part)) 0) [] (trimmed part ∷ []) ++ filter (λ e. not (eqb (length e) 0)) (map trimmed others)
one_entry part others =
    elim (eqb (length (trimmed part)) 0) as (λ b. cond (not b) (trimmed part ∷ filter (λ e. not (eqb (length e) 0)) (map trimmed others)) (filter (λ e. not (eqb (length e) 0)) (map trimmed others)) ≡ cond b [] (trimmed part ∷ []) ++ filter (λ e. not (eqb (length e) 0)) (map trimmed others)) [ true ↦ refl | false ↦ refl ]

pub first_long : (value : List ℕ) → length (before_first is_comma value) ≡ position_or_len is_comma value
first_long value = let few = position_or_len-le value in length-take-le (position_or_len is_comma value) value few

-- the last part
pub entries-end : (old new every : List (List ℕ)) (rest part entry : List ℕ) → old ++ entries rest ≡ every → part ≡ before_first is_comma rest → entry ≡ trimmed part
    → new ≡ old ++ cond (eqb (length entry) 0) [] (entry ∷ []) → length part ≡ length rest → new ≡ every
entries-end old new every rest part entry before is trim-is more whole =
    let at_end : position_or_len is_comma rest ≡ length rest = sym (first_long rest) ∙ ap length (sym is) ∙ whole in
    let all : part ≡ rest = is ∙ ap (λ n. take n rest) at_end ∙ take-length rest in
    let split : entries rest ≡ cond (eqb (length (trimmed part)) 0) [] (trimmed part ∷ []) =
    ap (λ parts. filter (λ e. not (eqb (length e) 0)) (map trimmed parts)) (split-whole rest at_end ∙ ap (λ r. r ∷ []) (sym all)) ∙ one_entry part [] ∙ append-nil _ in
    more ∙ ap (λ e. old ++ cond (eqb (length e) 0) [] (e ∷ [])) trim-is ∙ ap (λ es. old ++ es) (sym split) ∙ before

-- a part that others follow
pub entries-more : (old new every : List (List ℕ)) (rest part entry : List ℕ) → old ++ entries rest ≡ every → part ≡ before_first is_comma rest → entry ≡ trimmed part
    → new ≡ old ++ cond (eqb (length entry) 0) [] (entry ∷ []) → (length part ≡ length rest → ⊥)
    → new ++ entries (take (length rest - (length part + 1)) (drop (length part + 1) rest)) ≡ every
entries-more old new every rest part entry before is trim-is more inside =
    let long : length part ≡ position_or_len is_comma rest = ap length is ∙ first_long rest in
    let within : position_or_len is_comma rest < length rest = let few = position_or_len-le rest in omega (arith, few) in
    let after : take (length rest - (length part + 1)) (drop (length part + 1) rest) ≡ after_first is_comma rest =
    take_rest rest (length part + 1) ∙ ap (λ n. drop (n + 1) rest) long in
    let split : entries rest ≡ cond (eqb (length (trimmed part)) 0) [] (trimmed part ∷ []) ++ entries (after_first is_comma rest) =
    ap (λ parts. filter (λ e. not (eqb (length e) 0)) (map trimmed parts)) (slice_split_first is_comma rest 0 within ∙ ap (λ p. p ∷ slice_split is_comma (after_first is_comma rest)) (sym is)) ∙ one_entry part (slice_split is_comma (after_first is_comma rest)) in
    ap (λ es. new ++ entries es) after
    ∙ ap (λ ns. ns ++ entries (after_first is_comma rest)) (more ∙ ap (λ e. old ++ cond (eqb (length e) 0) [] (e ∷ [])) trim-is)
    ∙ append_assoc old _ _ ∙ ap (λ es. old ++ es) (sym split) ∙ before
