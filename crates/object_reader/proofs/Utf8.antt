-- UTF-8: what `from_utf8` says, as a test; and a text that is cut at a newline.
use Rattle.std.proofs.Common.{◌≡◌, ℕ, ◌+◌, ◌<◌, ◌==◌, Bool, true, List, [], Result, Ok, Err, length, get_or, take, drop, refl, sym, ◌∙◌, MatchResult, is_ok, arith, tests}
use Rattle.std.proofs.lemmas.Bool.{false_from_ne_true}
use Rattle.std.proofs.lemmas.Str.{IsUtf8-from_is_utf8, is_utf8-from_IsUtf8, IsUtf8-nil, IsUtf8-take, IsUtf8-drop, IsCharBoundary-before_ascii, IsCharBoundary-after_ascii}
use Rattle.std.specs.Str.{IsUtf8, is_utf8}

pub is_ok-from_utf8 : {A E : Type 0} (P : A → Type 0) (Q : E → Type 0) (bytes : List ℕ) (r : Result A E) (b : Bool)
    → MatchResult r (λ s. P s × IsUtf8 bytes) (λ e. (IsUtf8 bytes → ⊥) × Q e) → b ≡ is_ok r → b ≡ is_utf8 bytes
is_ok-from_utf8 P Q bytes (Ok s) b h e = e ∙ sym (is_utf8-from_IsUtf8 bytes h.1)
is_ok-from_utf8 P Q bytes (Err f) b h e = e ∙ sym (false_from_ne_true _ (λ t. h.0 (IsUtf8-from_is_utf8 bytes t)))

-- what stands before a newline and what stands after it
pub around_newline : (text : List ℕ) (n : ℕ) → n < length text → (get_or text n 0 == 10) ≡ true → is_utf8 text ≡ true
    → (is_utf8 (take n text) ≡ true) × (is_utf8 (drop (n + 1) text) ≡ true)
around_newline text n below at h =
    let whole = IsUtf8-from_is_utf8 text h in
    let newline : get_or text n 0 ≡ 10 = grind (arith, tests) in
    let ascii : get_or text n 0 < 128 = omega (arith, newline) in (
      is_utf8-from_IsUtf8 (take n text) (IsUtf8-take text n whole (IsCharBoundary-before_ascii text n below ascii)),
      is_utf8-from_IsUtf8 (drop (n + 1) text) (IsUtf8-drop text (n + 1) whole (IsCharBoundary-after_ascii text n whole below ascii)),
    )

pub empty_utf8 : is_utf8 [] ≡ true
empty_utf8 = is_utf8-from_IsUtf8 [] IsUtf8-nil
