-- A text around its first byte of a kind.
use Rattle.std.proofs.Common.{◌≡◌, ℕ, ◌<◌, eqb, List, ◌∷◌, ◌++◌, drop, sym, ap, ap₂, subst, ◌∙◌}
use Rattle.std.proofs.lemmas.List.{take-append-drop}
use Rattle.std.proofs.lemmas.Str.Pattern.{NoCharPasses-char, drop_at_char}
use Rattle.std.specs.Str.{NoCharPasses}
use Rattle.std.specs.Str.Pattern.{FindsChar, SplitsAroundMatch}
use Rattle.who_told.specs.Names.{Lacks}

-- a text around its first c
pub first_parts : (c : ℕ) (bs front back : List ℕ) → SplitsAroundMatch (FindsChar c) bs front back → c < 128 → (bs ≡ front ++ c ∷ back) × Lacks c front
first_parts c bs front back h small =
    let rest : drop h.0 bs ≡ c ∷ drop h.1 bs = drop_at_char c bs h.0 h.1 h.2.1 small in
    let none : NoCharPasses (λ d. eqb d c) front = subst (NoCharPasses (λ d. eqb d c)) (sym h.3) h.2.0 in (
      sym (take-append-drop h.0 bs) ∙ ap₂ (λ (xs ys : List ℕ). xs ++ ys) (sym h.3) (rest ∙ ap (λ (t : List ℕ). c ∷ t) (sym h.4)),
      λ k within. NoCharPasses-char c front k none small within,
    )

-- a text without any
pub lacks_all : (c : ℕ) (bs : List ℕ) → NoCharPasses (λ d. eqb d c) bs → c < 128 → Lacks c bs
lacks_all c bs none small k within = NoCharPasses-char c bs k none small within
