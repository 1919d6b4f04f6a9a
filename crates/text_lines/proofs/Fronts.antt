-- How many elements come first that pass a test: of a list, by its front and its back.
use Rattle.std.proofs.Common.{◌≡◌, ℕ, zero, suc, ◌+◌, ◌-◌, ◌*◌, ◌<◌, ◌≤◌, Bool, true, false, not, cond, eqb, ltb, List, [], ◌∷◌, length, take, drop, Some, None, refl, sym, ap, ◌∙◌, ⊎_elim, arith}
use Rattle.std.specs.List.{position, position_or_len, prefix_len}
use Rattle.std.proofs.lemmas.Bool.{cases_lt, lt-ltb, ne_eqb}
use Rattle.std.proofs.lemmas.Option.{cond_some, none-some}
use Rattle.std.proofs.lemmas.List.{take-append-drop, length-take-le}
use Rattle.std.proofs.lemmas.List.Folds.{prefix_len-append}
use Rattle.std.proofs.lemmas.List.Sums.{prefix_len-le-length}

-- a front in which one doesn't pass tells it of the whole
pub prefix_len-front : (p : ℕ → Bool) (xs : List ℕ) (n : ℕ) → n ≤ length xs → prefix_len p (take n xs) < n → prefix_len p (take n xs) ≡ prefix_len p xs
prefix_len-front p xs n within here =
    let long : length (take n xs) ≡ n = length-take-le n xs within in
    let stops : eqb (prefix_len p (take n xs)) (length (take n xs)) ≡ false = ne_eqb _ _ (λ all. absurd (omega (arith, all))) in
    sym (ap (λ (ys : List ℕ). prefix_len p ys) (sym (take-append-drop n xs)) ∙ prefix_len-append p (take n xs) (drop n xs) ∙ rw stops refl)

both_more : (b : Bool) (k n : ℕ) → k ≤ n → cond b (1 + k) 0 ≤ cond b (1 + n) 0
both_more true k n few = omega arith
both_more false k n few = omega arith

prefix_len-take-le : (p : ℕ → Bool) (xs : List ℕ) (n : ℕ) → prefix_len p (take n xs) ≤ prefix_len p xs
prefix_len-take-le p xs zero = omega arith
prefix_len-take-le p [] (suc n) = omega arith
prefix_len-take-le p (x ∷ xs) (suc n) = both_more (p x) _ _ (prefix_len-take-le p xs n)

one_more : (b : Bool) (k n rest : ℕ) → suc k ≤ cond b (1 + n) 0 → (k ≤ n → k + rest ≡ n) → suc k + rest ≡ cond b (1 + n) 0
one_more true k n rest few more = omega (arith, more (omega (arith, few)))
one_more false k n rest few more = absurd (omega (arith, few))

prefix_len-skip : (p : ℕ → Bool) (xs : List ℕ) (n : ℕ) → n ≤ prefix_len p xs → n + prefix_len p (drop n xs) ≡ prefix_len p xs
prefix_len-skip p xs zero few = omega arith
prefix_len-skip p [] (suc n) few = absurd (omega (arith, few))
prefix_len-skip p (x ∷ xs) (suc n) few = one_more (p x) n (prefix_len p xs) _ few (λ less. prefix_len-skip p xs n less)

-- a front and a back that leave nothing between them
pub prefix_len-back : (p : ℕ → Bool) (xs : List ℕ) (n : ℕ) → n ≤ length xs → length xs ≤ 2 * n → n ≤ prefix_len p (take n xs)
    → length xs - n + prefix_len p (drop (length xs - n) xs) ≡ prefix_len p xs
prefix_len-back p xs n within few all = prefix_len-skip p xs (length xs - n) (omega (arith, all, prefix_len-take-le p xs n))

-- what a search for the first one that passes says of where it ends
pub position-some : (p : ℕ → Bool) (bytes : List ℕ) (end : ℕ) → position p bytes ≡ Some end → end ≡ position_or_len p bytes
position-some p bytes end found = sym (cond_some (ltb (position_or_len p bytes) (length bytes)) (position_or_len p bytes) end found).1

pub position-none : (p : ℕ → Bool) (bytes : List ℕ) → position p bytes ≡ None → length bytes ≡ position_or_len p bytes
position-none p bytes none =
    ⊎_elim
    (λ (has : position_or_len p bytes < length bytes).
    let yes : ltb (position_or_len p bytes) (length bytes) ≡ true = lt-ltb _ _ has in
    absurd (none-some (position_or_len p bytes) (sym none ∙ rw yes refl)))
    (λ (past : length bytes ≤ position_or_len p bytes). omega (arith, past, prefix_len-le-length (λ byte. not (p byte)) bytes))
    (cases_lt (position_or_len p bytes) (length bytes))
