-- The parts of a text around a byte: around the first, or the last.
use Rattle.std.proofs.Common.{◌≡◌, ℕ, zero, suc, ◌<◌, true, not, eqb, eq-eqb, List, [], ◌∷◌, ◌++◌, length, length-append, drop, get_or, refl, sym, ap, ap₂, subst, ◌∙◌, arith}
use Rattle.std.proofs.lemmas.Bool.{and_parts}
use Rattle.std.proofs.lemmas.List.{take-append-drop}
use Rattle.std.proofs.lemmas.Str.Pattern.{NoCharPasses-char, drop_at_char}
use Rattle.std.proofs.Math.Seq.{get_or-append_seam}
use Rattle.std.specs.List.{list_all}
use Rattle.std.specs.Str.{NoCharPasses}
use Rattle.std.specs.Str.Pattern.{FindsChar, RFindsChar, SplitsAroundMatch}
use Rattle.channel_words.specs.Words.{Lacks}

-- a text around its first c
pub first_parts : (c : ℕ) (bs front back : List ℕ) → SplitsAroundMatch (FindsChar c) bs front back → c < 128 → (bs ≡ front ++ c ∷ back) × Lacks c front
first_parts c bs front back h small =
    let rest : drop h.0 bs ≡ c ∷ drop h.1 bs = drop_at_char c bs h.0 h.1 h.2.1 small in
    let none : NoCharPasses (λ d. eqb d c) front = subst (NoCharPasses (λ d. eqb d c)) (sym h.3) h.2.0 in (
      sym (take-append-drop h.0 bs) ∙ ap₂ (λ (xs ys : List ℕ). xs ++ ys) (sym h.3) (rest ∙ ap (λ (t : List ℕ). c ∷ t) (sym h.4)),
      λ k within. NoCharPasses-char c front k none small within,
    )

-- a text around its last c
pub last_parts : (c : ℕ) (bs front back : List ℕ) → SplitsAroundMatch (RFindsChar c) bs front back → c < 128 → (bs ≡ front ++ c ∷ back) × Lacks c back
last_parts c bs front back h small =
    let rest : drop h.0 bs ≡ c ∷ drop h.1 bs = drop_at_char c bs h.0 h.1 h.2.1 small in
    let none : NoCharPasses (λ d. eqb d c) back = subst (NoCharPasses (λ d. eqb d c)) (sym h.4) h.2.0 in (
      sym (take-append-drop h.0 bs) ∙ ap₂ (λ (xs ys : List ℕ). xs ++ ys) (sym h.3) (rest ∙ ap (λ (t : List ℕ). c ∷ t) (sym h.4)),
      λ k within. NoCharPasses-char c back k none small within,
    )

-- a text without any
pub lacks_all : (c : ℕ) (bs : List ℕ) → NoCharPasses (λ d. eqb d c) bs → c < 128 → Lacks c bs
lacks_all c bs none small k within = NoCharPasses-char c bs k none small within

-- one that has it
pub has_seam : (c : ℕ) (bs xs ys : List ℕ) → bs ≡ xs ++ c ∷ ys → Lacks c bs → ⊥
has_seam c bs xs ys e lacks =
    lacks (length xs) (omega (arith, ap length e, length-append xs (c ∷ ys))) (ap (λ (t : List ℕ). get_or t (length xs) 0) e ∙ get_or-append_seam xs c ys 0)

-- there is one way to part a text at its first c
pub first_unique : (c : ℕ) (xs ys us vs : List ℕ) → xs ++ c ∷ us ≡ ys ++ c ∷ vs → Lacks c xs → Lacks c ys → (xs ≡ ys) × (us ≡ vs)
first_unique c [] [] us vs e p q = let f : c ∷ us ≡ c ∷ vs = e in (refl, cc)
first_unique c [] (y ∷ ys) us vs e p q =
    let f : c ∷ us ≡ y ∷ (ys ++ c ∷ vs) = e in let head : y ≡ c = cc in absurd (q 0 (omega arith) head)
first_unique c (x ∷ xs) [] us vs e p q =
    let f : x ∷ (xs ++ c ∷ us) ≡ c ∷ vs = e in let head : x ≡ c = cc in absurd (p 0 (omega arith) head)
first_unique c (x ∷ xs) (y ∷ ys) us vs e p q =
    let f : x ∷ (xs ++ c ∷ us) ≡ y ∷ (ys ++ c ∷ vs) = e in
    let head : x ≡ y = cc in
    let tails : xs ++ c ∷ us ≡ ys ++ c ∷ vs = cc in
    let more = first_unique c xs ys us vs tails (λ k h. p (suc k) (omega arith)) (λ k h. q (suc k) (omega arith)) in
    (ap₂ (λ (z : ℕ) (zs : List ℕ). z ∷ zs) head more.0, more.1)

-- or at its last
pub last_unique : (c : ℕ) (xs ys us vs : List ℕ) → xs ++ c ∷ us ≡ ys ++ c ∷ vs → Lacks c us → Lacks c vs → (xs ≡ ys) × (us ≡ vs)
last_unique c [] [] us vs e p q = let f : c ∷ us ≡ c ∷ vs = e in (refl, cc)
last_unique c [] (y ∷ ys) us vs e p q =
    let f : c ∷ us ≡ y ∷ (ys ++ c ∷ vs) = e in let tails : us ≡ ys ++ c ∷ vs = cc in absurd (has_seam c us ys vs tails p)
last_unique c (x ∷ xs) [] us vs e p q =
    let f : x ∷ (xs ++ c ∷ us) ≡ c ∷ vs = e in let tails : vs ≡ xs ++ c ∷ us = cc in absurd (has_seam c vs xs us tails q)
last_unique c (x ∷ xs) (y ∷ ys) us vs e p q =
    let f : x ∷ (xs ++ c ∷ us) ≡ y ∷ (ys ++ c ∷ vs) = e in
    let head : x ≡ y = cc in
    let tails : xs ++ c ∷ us ≡ ys ++ c ∷ vs = cc in
    let more = last_unique c xs ys us vs tails p q in
    (ap₂ (λ (z : ℕ) (zs : List ℕ). z ∷ zs) head more.0, more.1)

-- by a test of each byte
pub lacks_by : (c : ℕ) (xs : List ℕ) → list_all (λ b. not (eqb b c)) xs ≡ true → Lacks c xs
lacks_by c [] e k h = absurd (omega arith)
lacks_by c (x ∷ xs) e zero h =
    λ same. let t : eqb x c ≡ true = eq-eqb x c same in let n = ap not t in let m = (and_parts (not (eqb x c)) (list_all (λ b. not (eqb b c)) xs) e).0 in cc
lacks_by c (x ∷ xs) e (suc k) h = lacks_by c xs (and_parts (not (eqb x c)) (list_all (λ b. not (eqb b c)) xs) e).1 k (omega arith)
