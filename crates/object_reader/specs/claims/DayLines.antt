-- The day lines of a time period (chapter "Object Definitions", "Time Period Definition").
use Rattle.std.specs.Prelude.{◌≡◌, ℕ, ◌<◌, ◌-◌, ◌⊎◌, ◌==◌, ◌||◌, not, Bool, false, IsTrue, List, [], ◌∷◌, ◌++◌, length, filter, codes}
use Rattle.std.specs.Char.{is_ascii_digit}
use Rattle.std.specs.List.{list_all, list_any}
use Rattle.std.specs.Str.{bytes_eq}
use Rattle.object_reader.specs.declared.block.Directive.{Directive}
use Rattle.object_reader.specs.claims.Blanks.{is_blank, AreBlanks, HasNoBlank, BeginsTight}

-- the weekdays, by their numbers
abbrev pub weekdays : List (List ℕ)
weekdays = codes "sunday" ∷ codes "monday" ∷ codes "tuesday" ∷ codes "wednesday"
    ∷ codes "thursday" ∷ codes "friday" ∷ codes "saturday" ∷ []

abbrev pub months : List (List ℕ)
months = codes "january" ∷ codes "february" ∷ codes "march" ∷ codes "april" ∷ codes "may"
    ∷ codes "june" ∷ codes "july" ∷ codes "august" ∷ codes "september" ∷ codes "october"
    ∷ codes "november" ∷ codes "december" ∷ []

abbrev pub begins_with_digit : List ℕ → Bool
begins_with_digit [] = false
begins_with_digit (b ∷ bs) = is_ascii_digit b

-- Whether a day line begins with the word: a weekday, a month, `day`, or a word that begins with a digit.
unfoldable pub begins_day : List ℕ → Bool
begins_day word = begins_with_digit word || bytes_eq word (codes "day")
    || list_any (bytes_eq word) months || list_any (bytes_eq word) weekdays

-- The parts, one after the other, with the same bytes between each two.
abbrev pub separated : List ℕ → List ℕ → List (List ℕ) → List ℕ
separated between first [] = first
separated between first (p ∷ ps) = first ++ (between ++ separated between p ps)

-- The bytes are these words, each followed by all its blanks, at least one.
abbrev pub AreWords : List ℕ → List (List ℕ) → Type 0
AreWords bs [] = bs ≡ []
AreWords bs (w ∷ ws) = (blanks : List ℕ) × (others : List ℕ) × (bs ≡ w ++ (blanks ++ others))
    × HasNoBlank w × AreBlanks blanks × (0 < length blanks)
    × BeginsTight others × AreWords others ws

-- The bytes without their blanks.
abbrev pub without_blanks : List ℕ → List ℕ
without_blanks bs = filter (λ b. not (is_blank b)) bs

-- A day line with times: words without a colon, of which the first begins a day line, and then a word with one. The name is
-- those words, separated by one space each, and the value is the rest without its blanks.
pub record HasTimes (s : List ℕ) (d : Directive) : Type 0 where
  pub front : List ℕ
  pub first : List ℕ
  pub others : List (List ℕ)
  pub start : List ℕ
  pub after : List ℕ
  pub parts : s ≡ front ++ (start ++ 58 ∷ after)
  pub words : AreWords front (first ∷ others)
  pub begins : IsTrue (begins_day first)
  pub no_blank : HasNoBlank start
  pub no_colon : IsTrue (list_all (λ b. not (b == 58)) (front ++ start))
  pub name : d.name ≡ separated (32 ∷ []) first others
  pub value : d.value ≡ without_blanks (start ++ 58 ∷ after)

-- A day line without times: words without a colon, at least two, of which the first begins a day line. The name is all of
-- them, and the value is empty.
pub record HasNoTimes (s : List ℕ) (d : Directive) : Type 0 where
  pub first : List ℕ
  pub second : List ℕ
  pub others : List (List ℕ)
  pub words : AreWords (s ++ 32 ∷ []) (first ∷ second ∷ others)
  pub begins : IsTrue (begins_day first)
  pub no_colon : IsTrue (list_all (λ b. not (b == 58)) s)
  pub name : d.name ≡ separated (32 ∷ []) first (second ∷ others)
  pub value : d.value ≡ []

abbrev pub IsDayLine : List ℕ → Directive → Type 0
IsDayLine s d = HasTimes s d ⊎ HasNoTimes s d
