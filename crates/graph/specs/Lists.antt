-- How lists are kept one after another in one list, and what they were made from.
use Rattle.std.specs.Prelude.{◌≡◌, ℕ, ◌+◌, ◌-◌, ◌<◌, ◌≤◌, ◌==◌, List, [], ◌∷◌, length, map, filter, take, drop, count_by, All, nat_lt, slice_index, slice_range}
use Rattle.std.specs.List.{range_with_len}
use Rattle.graph.specs.declared.lists.Pushed.{Pushed}

-- the parts of a list that begin at these places, each up to the next
abbrev pub parts : {X : Type 0} → List ℕ → List X → List (List X)
parts [] xs = []
parts (start ∷ []) xs = []
parts (start ∷ end ∷ more) xs = slice_range xs start end ∷ parts (end ∷ more) xs

-- the places rise up to the length, which is the last of them
abbrev pub AreStarts : List ℕ → ℕ → Type 0
AreStarts [] len = ⊥
AreStarts (start ∷ []) len = start ≡ len
AreStarts (start ∷ end ∷ more) len = (start ≤ end) × (end ≤ len) × AreStarts (end ∷ more) len

-- ---- lists that are still added to

-- what was added to the list of a number, in order
abbrev pub list_of : {X : Type 0} → List (Pushed X) → ℕ → List X
list_of pushed number = map (λ one. one.value) (filter (λ one. one.number == number) pushed)

-- the lists; there is one count more than there are lists
abbrev pub lists_of : {X : Type 0} → ℕ → List (Pushed X) → List (List X)
lists_of counts pushed = map (list_of pushed) (range_with_len 0 (counts - 1))

-- 0, and after it how many values each list has
pub record AreCounts {X : Type 0} (pushed : List (Pushed X)) (counts : List ℕ) : Type 0 where
  pub some : 0 < length counts
  pub first : slice_index counts 0 ≡ 0
  pub each : (number : ℕ) → number + 1 < length counts → slice_index counts (number + 1) ≡ length (list_of pushed number)
  pub within : All (λ one. one.number + 1 < length counts) pushed

-- how many values stand before the list of a number
abbrev pub start_of : {X : Type 0} → List (Pushed X) → ℕ → ℕ
start_of pushed number = count_by (λ one. nat_lt one.number number) pushed

-- of all that was added, what is done stands in its list's place; the places are 0, and after it each list's next free one
pub record AreInPlace {X : Type 0} (all done : List (Pushed X)) (places : List ℕ) (values : List X) : Type 0 where
  pub long : length values ≡ length all
  pub first : slice_index places 0 ≡ 0
  pub next : (number : ℕ) → number + 1 < length places → slice_index places (number + 1) ≡ start_of all number + length (list_of done number)
  pub placed : (number : ℕ) → number + 1 < length places → take (length (list_of done number)) (drop (start_of all number) values) ≡ list_of done number
