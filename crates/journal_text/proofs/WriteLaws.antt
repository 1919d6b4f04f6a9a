-- Whether a line is read as what it was to say.
use Rattle.std.proofs.Common.{◌≡◌, ℕ, ◌<◌, ◌≤◌, ◌⊎◌, inl, inr, List, Bool, true, false, ◌==◌, length, nat_le, refl, sym, ap, ◌∙◌, subst, arith, eqb-true, Option, Some, None}
use Rattle.std.specs.List.{position_or_len}
use Rattle.std.proofs.lemmas.Bool.{cond-true, cond-false, le-leb, leb-true}
use Rattle.std.proofs.lemmas.List.Sums.{fails_before_first, position_or_len_is}
use Rattle.due_model.specs.claims.Limits.{line_limit}
use Rattle.text_lines.specs.claims.Lines.{is_newline}
use Rattle.text_lines.specs.Lines.{IsUnbroken}
use Rattle.journal_text.specs.Cuts.{IsReadBack}
use Rattle.journal_text.specs.Lines.{within}

-- no newline was found
pub none_found : (line : List ℕ) (place : ℕ) → place ≡ position_or_len is_newline line → place ≡ length line → IsUnbroken line
none_found line place found is =
    λ k d less. fails_before_first is_newline line k d (subst (λ (x : ℕ). k < x) (sym is ∙ found) less)

-- none is there
pub none_there : (line : List ℕ) (place : ℕ) → place ≡ position_or_len is_newline line → IsUnbroken line → place ≡ length line
none_there line place found u =
    found ∙ position_or_len_is is_newline line (length line) 0 (omega arith) (λ k less. u k 0 less) (λ less. absurd (omega arith))

-- a line is read as what it says, where it isn't too long and says that
pub reads_back : {X : Type 0} (said : List ℕ → Option X) (line : List ℕ) (x : X) → IsUnbroken line → length line ≤ line_limit
    → said line ≡ Some x → IsReadBack line (within said) x
reads_back said line x u short says = record {
  unbroken = u;
  again = cond-true (nat_le (length line) line_limit) (said line) None (le-leb (length line) line_limit short) ∙ says;
}

none_some : {X : Type 0} (x : X) → None ≡ Some x → ⊥
none_some x e = cc

-- and only there
pub says_back : {X : Type 0} (said : List ℕ → Option X) (line : List ℕ) (x : X) → IsReadBack line (within said) x
    → (length line ≤ line_limit) × (said line ≡ Some x)
says_back said line x h = by_test (nat_le (length line) line_limit) refl
  where
    by_test : (b : Bool) → nat_le (length line) line_limit ≡ b → (length line ≤ line_limit) × (said line ≡ Some x)
    by_test true is = (leb-true (length line) line_limit is, sym (cond-true (nat_le (length line) line_limit) (said line) None is) ∙ h.again)
    by_test false is = absurd (none_some x (sym (cond-false (nat_le (length line) line_limit) (said line) None is) ∙ h.again))
