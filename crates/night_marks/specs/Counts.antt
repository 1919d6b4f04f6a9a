-- How busy objects are: how many marks and changes each has.
use Rattle.std.specs.Prelude.{ℕ, ◌+◌, Bool, true, false, ◌&&◌, ◌||◌, ◌==◌, nat_lt, List, [], ◌∷◌, ◌++◌, filter, length, map, replicate, slice_index_or, slice_set, if◌then◌else◌}
use Rattle.std.specs.List.{range_with_len}
use Rattle.due_model.specs.declared.config.ObjectId.{ObjectId}
use Rattle.messages.specs.declared.entries.Entry.{Entry}
use Rattle.night_marks.specs.declared.conditions.Change.{Change}
use Rattle.night_marks.specs.Lists.{mark_object}

abbrev pub mark_objects : List Entry → List ObjectId
mark_objects marks = map mark_object marks

abbrev pub change_objects : List Change → List ObjectId
change_objects changes = map (λ change. change.object) changes

-- ---- counts, by the numbers of objects

unfoldable pub no_counts : List ℕ
no_counts = replicate 65536 0

abbrev pub count_at : List ℕ → (o : ℕ) → ℕ
count_at counts o = slice_index_or counts o 0

-- one more; a count stays at the most that it can be
abbrev pub one_more : ℕ → ℕ
one_more count = if nat_lt count 4294967295 then count + 1 else count

abbrev pub bumped : List ℕ → (o : ℕ) → List ℕ
bumped counts o = slice_set counts o (one_more (count_at counts o))

-- the counts after one more of each of these
abbrev pub counted_on : List ℕ → List ObjectId → List ℕ
counted_on counts [] = counts
counted_on counts (o ∷ objects) = counted_on (bumped counts o.0) objects

-- how many marks and changes each object has
abbrev pub activity : List Entry → List Change → List ℕ
activity marks changes =
    counted_on (counted_on no_counts (mark_objects marks)) (change_objects changes)

-- ---- the least busy

-- object o is less busy than p: of two that are alike, that with the greater number
abbrev pub is_less_busy : List ℕ → (o p : ℕ) → Bool
is_less_busy counts o p =
    nat_lt (count_at counts o) (count_at counts p)
    || ((count_at counts o == count_at counts p) && nat_lt p o)

abbrev pub less_busy : List ℕ → (o p : ObjectId) → ObjectId
less_busy counts o p = if is_less_busy counts o.0 p.0 then o else p

-- the least busy one of this and of these
abbrev pub least_of : List ℕ → ObjectId → List ObjectId → ObjectId
least_of counts least [] = least
least_of counts least (o ∷ objects) = least_of counts (less_busy counts o least) objects

-- ---- the busiest

-- how many of the first objects are busier, and how many are
abbrev pub rank_among : List ℕ → (o count : ℕ) → ℕ
rank_among counts o count = length (filter (is_less_busy counts o) (range_with_len 0 count))

unfoldable pub rank : List ℕ → (o : ℕ) → ℕ
rank counts o = rank_among counts o 65536

-- an object is shown that has marks or changes, and than which fewer than 200 are busier
abbrev pub is_shown : List ℕ → (o : ℕ) → Bool
is_shown counts o = nat_lt 0 (count_at counts o) && nat_lt (rank counts o) 200

-- those of the first objects that are shown
abbrev pub first_shown : List ℕ → (count : ℕ) → List ℕ
first_shown counts count = filter (is_shown counts) (range_with_len 0 count)

-- and of all
unfoldable pub all_shown : List ℕ → List ℕ
all_shown counts = first_shown counts 65536

-- the objects that are shown, in the order of their numbers
unfoldable pub shown_objects : List Entry → List Change → List ℕ
shown_objects marks changes = all_shown (activity marks changes)

-- ---- as they are counted

-- one, where it is so
abbrev pub one_if : Bool → ℕ
one_if true = 1
one_if false = 0

-- an object, where it is shown
abbrev pub shown_at : List ℕ → (o : ℕ) → List ℕ
shown_at counts o = if is_shown counts o then o ∷ [] else []
