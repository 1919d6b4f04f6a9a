-- Bytes are the same where their front and their back are, with nothing between.
use Rattle.std.proofs.Common.{◌≡◌, ℕ, ◌+◌, ◌-◌, ◌*◌, ◌≤◌, ◌&&◌, List, ◌++◌, length, take, drop, refl, sym, ap, ap₂, ◌∙◌, arith}
use Rattle.std.specs.Bool.{one_answer}
use Rattle.std.specs.Str.{bytes_eq}
use Rattle.std.proofs.lemmas.Bool.{and_parts}
use Rattle.std.proofs.lemmas.List.{drop-drop, take-append-drop}
use Rattle.std.proofs.lemmas.Slice.Eq.{bytes_eq-Decides}

joined : (a b : List ℕ) (n : ℕ) → length a ≡ length b → n ≤ length a → length a ≤ 2 * n → take n a ≡ take n b → drop (length a - n) a ≡ drop (length b - n) b → a ≡ b
joined a b n long enough few front back =
    let m : ℕ = length a - n in
    let at : m + (n - m) ≡ n = omega (arith, enough, few) in
    let same : drop m a ≡ drop m b = back ∙ ap (λ (k : ℕ). drop (k - n) b) (sym long) in
    let rest : drop n a ≡ drop n b =
    sym (drop-drop (n - m) m a ∙ ap (λ (k : ℕ). drop k a) at) ∙ ap (λ (xs : List ℕ). drop (n - m) xs) same ∙ drop-drop (n - m) m b ∙ ap (λ (k : ℕ). drop k b) at in
    sym (take-append-drop n a) ∙ ap₂ (λ (xs ys : List ℕ). xs ++ ys) front rest ∙ take-append-drop n b

pub same_ends : (a b : List ℕ) (n : ℕ) → length a ≡ length b → n ≤ length a → length a ≤ 2 * n
    → (bytes_eq (take n a) (take n b) && bytes_eq (drop (length a - n) a) (drop (length b - n) b)) ≡ bytes_eq a b
same_ends a b n long enough few =
    one_answer _ (bytes_eq a b) (
      λ both. let parts = and_parts _ _ both in
          joined a b n long enough few ((bytes_eq-Decides (take n a) (take n b)).0 parts.0) ((bytes_eq-Decides (drop (length a - n) a) (drop (length b - n) b)).0 parts.1),
      λ same.
          let front = (bytes_eq-Decides (take n a) (take n b)).1 (ap (λ (xs : List ℕ). take n xs) same) in
          let back = (bytes_eq-Decides (drop (length a - n) a) (drop (length b - n) b)).1 (ap (λ (xs : List ℕ). drop (length xs - n) xs) same) in
          rw (front, back) refl,
    )
    (bytes_eq-Decides a b)
