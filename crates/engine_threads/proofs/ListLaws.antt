-- What is taken from the front of a list.
use Rattle.std.proofs.Common.{◌≡◌, ℕ, List, [], ◌∷◌, ◌++◌, length, slice_get, Some, refl, sym, ap, ◌∙◌, subst, length-append, ◌+◌, ◌<◌, ◌≤◌, arith}

-- what stands where a list goes on
pub at_seam : {X : Type 0} (xs : List X) (x : X) (ys : List X) → slice_get (xs ++ x ∷ ys) (length xs) ≡ Some x
at_seam [] x ys = refl
at_seam (y ∷ xs) x ys = at_seam xs x ys

-- the item that comes next has its place in the whole list
pub next_at : {X : Type 0} (xs : List X) (x : X) (rest ys whole : List X) → rest ≡ x ∷ ys → xs ++ rest ≡ whole → slice_get whole (length xs) ≡ Some x
next_at {X} xs x rest ys whole is e = subst (λ (l : List X). slice_get l (length xs) ≡ Some x) (ap (λ (r : List X). xs ++ r) (sym is) ∙ e) (at_seam xs x ys)

-- there is room for what comes next
pub room_for : {X : Type 0} (yielded rest more all : List X) (x : X) (n room : ℕ) → n ≡ length yielded → yielded ++ rest ≡ all → rest ≡ x ∷ more → length all ≤ room → n < room
room_for {X} yielded rest more all x n room so is next fits =
    let long : length yielded + length rest ≡ length all = sym (length-append yielded rest) ∙ ap length is in
    let one : length rest ≡ length (x ∷ more) = ap length next in
    omega (arith, so, long, one, fits)
