-- Blanks, and bytes without the blanks at their ends (chapter "Object Configuration Overview").
use Rattle.std.specs.Prelude.{◌≡◌, ℕ, ◌-◌, ◌⊎◌, Bool, false, ◌||◌, not, ◌==◌, IsTrue, List, [], ◌∷◌, ◌++◌, length, take, drop}
use Rattle.std.specs.List.{position_or_len, suffix_len, list_all}

-- Blanks are spaces and tabs.
abbrev pub is_blank : ℕ → Bool
is_blank b = b == 32 || b == 9

-- Each of the bytes is a blank.
abbrev pub AreBlanks : List ℕ → Type 0
AreBlanks bs = IsTrue (list_all is_blank bs)

-- None of the bytes is a blank.
abbrev pub HasNoBlank : List ℕ → Type 0
HasNoBlank bs = IsTrue (list_all (λ b. not (is_blank b)) bs)

-- The bytes are none, or the first is no blank.
abbrev pub BeginsTight : List ℕ → Type 0
BeginsTight bs =
    (bs ≡ []) ⊎ ((first : ℕ) × (others : List ℕ) × (bs ≡ first ∷ others) × (is_blank first ≡ false))

-- The bytes are none, or the first and the last are no blanks.
abbrev pub IsTight : List ℕ → Type 0
IsTight s = (s ≡ [])
    ⊎ (((first : ℕ) × (others : List ℕ) × (s ≡ first ∷ others) × (is_blank first ≡ false))
    × ((front : List ℕ) × (last : ℕ) × (s ≡ front ++ last ∷ []) × (is_blank last ≡ false)))

-- the bytes from the first on that is no blank
abbrev pub trim_start : List ℕ → List ℕ
trim_start bs = drop (position_or_len (λ b. not (is_blank b)) bs) bs

-- the list without the elements at its end that pass
abbrev pub without_end : (ℕ → Bool) → List ℕ → List ℕ
without_end p bs = take (length bs - suffix_len p bs) bs

-- the bytes up to the last that is no blank
abbrev pub trim_end : List ℕ → List ℕ
trim_end bs = without_end is_blank bs

-- the bytes without the blanks at both ends
abbrev pub trimmed : List ℕ → List ℕ
trimmed bs = trim_end (trim_start bs)
