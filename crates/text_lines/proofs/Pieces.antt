-- The place of a byte.
use Rattle.std.proofs.Common.{◌≡◌, ℕ, ◌+◌, ◌<◌, ◌≤◌, Bool, true, false, cond, eqb, List, [], ◌∷◌, length, Some, None, refl, sym, ◌∙◌, arith, suc, ⊎_elim}
use Rattle.std.specs.Prelude.{◌||◌, ltb, not}
use Rattle.std.specs.List.{position_or_len, list_any}
use Rattle.std.proofs.lemmas.Bool.{cases_lt, false_from_ne_true, le-ltb, lt-ltb}
use Rattle.std.proofs.lemmas.List.Sums.{position_or_len_is}
use Rattle.memchr.specs.Find.{IsFirstByte, is_byte}

-- what a search for a byte finds
pub position-found : (byte : ℕ) (bytes : List ℕ) (place : ℕ) → IsFirstByte (is_byte byte) bytes (Some place) → (place ≡ position_or_len (λ b. eqb b byte) bytes) × (place ≤ length bytes)
position-found byte bytes place found = (
  sym (position_or_len_is (λ b. eqb b byte) bytes place 0 (omega arith)
      (λ k before. false_from_ne_true _ (found.0.before k (omega arith) before))
      (λ _. found.1)),
  omega arith,
)

pub position-none : (byte : ℕ) (bytes : List ℕ) → IsFirstByte (is_byte byte) bytes None → length bytes ≡ position_or_len (λ b. eqb b byte) bytes
position-none byte bytes none =
    sym (position_or_len_is (λ b. eqb b byte) bytes (length bytes) 0 (omega arith)
    (λ k before. false_from_ne_true _ (none k (omega arith) before))
    (λ past. absurd (omega arith)))

ltb-suc : (a b : ℕ) → ltb (1 + a) (suc b) ≡ ltb a b
ltb-suc a b =
    ⊎_elim
    (λ (less : a < b). lt-ltb (1 + a) (suc b) (omega arith) ∙ sym (lt-ltb a b less))
    (λ (more : b ≤ a). le-ltb (1 + a) (suc b) (omega arith) ∙ sym (le-ltb a b more))
    (cases_lt a b)

-- a byte is found where one of its kind is there
pub position-any : (p : ℕ → Bool) (bytes : List ℕ) → ltb (position_or_len p bytes) (length bytes) ≡ list_any p bytes
position-any p [] = refl
position-any p (byte ∷ bytes) = elim (p byte) as (λ b. ltb (cond (not b) (1 + position_or_len p bytes) 0) (length (byte ∷ bytes)) ≡ (b || list_any p bytes)) [
  | true ↦ lt-ltb 0 (length (byte ∷ bytes)) (omega arith)
  | false ↦ ltb-suc (position_or_len p bytes) (length bytes) ∙ position-any p bytes
]
