-- An index of moments by object number.
use Rattle.std.specs.Prelude.{◌≡◌, ◌≢◌, ℕ, ◌<◌, ◌≤◌, Bool, true, false, List, length, filter, nat_lt, Option, Some, None, if◌then◌else◌}
use Rattle.due_model.specs.claims.Rules.{has_come}
use Rattle.due_times.specs.claims.Index.{at}

-- whether one moment comes before another; none comes after every moment
abbrev pub is_earlier : Option ℕ → Option ℕ → Bool
is_earlier None b = false
is_earlier (Some a) None = true
is_earlier (Some a) (Some b) = nat_lt a b

-- the earlier of two moments; the first, where none is
abbrev pub earlier : Option ℕ → Option ℕ → Option ℕ
earlier a b = if is_earlier b a then b else a

-- the entry of object o is the least: none has an earlier moment, and of those with the same moment it has the least number
pub record IsFirst (moments : List (Option ℕ)) (o m : ℕ) : Type 0 where
  pub entry : at moments o ≡ Some m
  pub before : (p : ℕ) → p < o → is_earlier (Some m) (at moments p) ≡ true
  pub after : (p : ℕ) → o ≤ p → is_earlier (at moments p) (Some m) ≡ false

-- the entry of object o is the least, and its moment has come at t
abbrev pub IsFirstDue : List (Option ℕ) → (t o : ℕ) → Type 0
IsFirstDue moments t o = (m : ℕ) × IsFirst moments o m × (m ≤ t)

-- no entry's moment has come at t
abbrev pub NothingIsDue : List (Option ℕ) → (t : ℕ) → Type 0
NothingIsDue moments t = (o m : ℕ) → at moments o ≡ Some m → t < m

-- the entry of object o was set, and no other changed
pub record Sets (old new : List (Option ℕ)) (o : ℕ) (moment : Option ℕ) : Type 0 where
  pub set : at new o ≡ moment
  pub others : (p : ℕ) → p ≢ o → at new p ≡ at old p

-- the same entries
abbrev pub SameEntries : (old new : List (Option ℕ)) → Type 0
SameEntries old new = (p : ℕ) → at new p ≡ at old p

-- object o is the first from that number on whose moment has come at t
pub record IsNextDue (moments : List (Option ℕ)) (from t o : ℕ) : Type 0 where
  pub reached : from ≤ o
  pub due : has_come (at moments o) t ≡ true
  pub before : (p : ℕ) → from ≤ p → p < o → has_come (at moments p) t ≡ false

-- from that number on no object's moment has come at t
abbrev pub NoneIsDueFrom : List (Option ℕ) → (from t : ℕ) → Type 0
NoneIsDueFrom moments from t = (p : ℕ) → from ≤ p → has_come (at moments p) t ≡ false

-- what is left of an entry once those were taken out whose moment has come at t
abbrev pub left_at : (t : ℕ) → Option ℕ → Option ℕ
left_at t moment = if has_come moment t then None else moment

-- how many entries' moments have come at t
abbrev pub due_count : (t : ℕ) → List (Option ℕ) → ℕ
due_count t moments = length (filter (λ moment. has_come moment t) moments)
