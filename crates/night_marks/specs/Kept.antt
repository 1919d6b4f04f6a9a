-- The marks and the changes that are kept.
use Rattle.std.specs.Prelude.{◌≡◌, ℕ, ◌+◌, ◌<◌, ◌≤◌, ◌/◌, max, All, Bool, true, not, ◌&&◌, nat_le, nat_lt, List, [], ◌∷◌, ◌++◌, filter, length, slice_get, slice_set, if◌then◌else◌}
use Rattle.std.specs.List.{list_all}
use Rattle.std.specs.Option.{option_map_or}
use Rattle.due_model.specs.declared.config.ObjectId.{ObjectId}
use Rattle.messages.specs.declared.entries.Entry.{Entry}
use Rattle.night_marks.specs.declared.conditions.Change.{Change}
use Rattle.night_marks.specs.declared.kept.Kept.{Kept}
use Rattle.night_marks.specs.Counts.{activity, change_objects, least_of, mark_objects}
use Rattle.night_marks.specs.Lists.{changes_from, changes_without, is_of, is_out, mark_moment, mark_object, marks_from, marks_without, no_flags}

-- no more marks are kept, and no more changes
abbrev pub most : ℕ
most = 10000

abbrev pub nothing_kept : Kept
nothing_kept = record { marks = []; changes = []; out = no_flags; begin = 0 }

-- what an object has at a moment is kept, unless the object is left out, or it is before what is kept begins
abbrev pub passes : Kept → (o moment : ℕ) → Bool
passes k o moment = not (is_out k.out o) && nat_le k.begin moment

-- ---- too many

-- all are of object o
abbrev pub only_marks : (o : ℕ) → List Entry → Bool
only_marks o marks = list_all (λ mark. is_of o (mark_object mark)) marks

abbrev pub only_changes : (o : ℕ) → List Change → Bool
only_changes o changes = list_all (λ change. is_of o change.object) changes

-- an object is left out
abbrev pub left_out : Kept → (o : ℕ) → Kept
left_out k o = record {
  marks = marks_without o k.marks;
  changes = changes_without o k.changes;
  out = slice_set k.out o true;
  begin = k.begin;
}

-- the moment after one
abbrev pub after_moment : ℕ → ℕ
after_moment moment = if nat_lt moment 18446744073709551615 then moment + 1 else moment

-- what is up to a moment is left out
abbrev pub begun_at : Kept → (moment : ℕ) → Kept
begun_at k moment = record {
  marks = marks_from (max k.begin (after_moment moment)) k.marks;
  changes = changes_from (max k.begin (after_moment moment)) k.changes;
  out = k.out;
  begin = max k.begin (after_moment moment);
}

-- the least busy object is left out; of one object alone, what is up to a moment
abbrev pub given_up : Kept → (least : ℕ) → (is_only : Bool) → (moment : ℕ) → Kept
given_up k least is_only moment = if is_only then begun_at k moment else left_out k least

-- the moment in the middle
abbrev pub middle_mark : List Entry → ℕ
middle_mark marks = option_map_or mark_moment (slice_get marks (length marks / 2)) 0

abbrev pub middle_change : List Change → ℕ
middle_change changes = option_map_or (λ change. change.moment) (slice_get changes (length changes / 2)) 0

-- of too many marks the least busy object that has some is left out; this is one of those objects
abbrev pub least_marked : Kept → ObjectId → ObjectId
least_marked k first = least_of (activity k.marks k.changes) first (mark_objects k.marks)

abbrev pub narrowed_marks_of : Kept → (first : ObjectId) → Kept
narrowed_marks_of k first =
    given_up k (least_marked k first).0 (only_marks (least_marked k first).0 k.marks)
    (middle_mark k.marks)

abbrev pub narrowed_marks : Kept → Kept
narrowed_marks k =
    option_map_or (λ mark. narrowed_marks_of k (mark_object mark)) (slice_get k.marks 0) k

abbrev pub settled_marks : Kept → Kept
settled_marks k = if nat_lt most (length k.marks) then narrowed_marks k else k

-- of too many changes
abbrev pub least_changed : Kept → ObjectId → ObjectId
least_changed k first = least_of (activity k.marks k.changes) first (change_objects k.changes)

abbrev pub narrowed_changes_of : Kept → (first : ObjectId) → Kept
narrowed_changes_of k first =
    given_up k (least_changed k first).0 (only_changes (least_changed k first).0 k.changes)
    (middle_change k.changes)

abbrev pub narrowed_changes : Kept → Kept
narrowed_changes k =
    option_map_or (λ change. narrowed_changes_of k change.object) (slice_get k.changes 0) k

abbrev pub settled_changes : Kept → Kept
settled_changes k = if nat_lt most (length k.changes) then narrowed_changes k else k

-- ---- one more

abbrev pub kept_mark : Kept → Entry → Kept
kept_mark k mark =
    if passes k (mark_object mark).0 (mark_moment mark)
    then settled_marks (record k { marks = k.marks ++ mark ∷ [] }) else k

abbrev pub kept_change : Kept → Change → Kept
kept_change k change =
    if passes k change.object.0 change.moment
    then settled_changes (record k { changes = k.changes ++ change ∷ [] }) else k

-- ---- what is kept, of all that there was

-- objects have numbers of 16 bits, and moments are below the greatest number of 64
abbrev pub AreFit : ObjectId → (moment : ℕ) → Type 0
AreFit object moment = (object.0 < 65536) × (moment < 18446744073709551615)

abbrev pub IsFitMark : Entry → Type 0
IsFitMark mark = AreFit (mark_object mark) (mark_moment mark)

abbrev pub IsFitChange : Change → Type 0
IsFitChange change = AreFit change.object change.moment

-- Those are kept, in order, whose object isn't left out and whose moment isn't before what is kept begins; and no more than fit.
pub record IsKept (k : Kept) (marks : List Entry) (changes : List Change) : Type 0 where
  pub marks_are : k.marks ≡ filter (λ mark. passes k (mark_object mark).0 (mark_moment mark)) marks
  pub changes_are : k.changes ≡ filter (λ change. passes k change.object.0 change.moment) changes
  pub marks_fit : length k.marks ≤ most
  pub changes_fit : length k.changes ≤ most
  pub all_marks : All IsFitMark k.marks
  pub all_changes : All IsFitChange k.changes
  pub places : length k.out ≡ 65536

-- It is so at first, after one mark more, and after one change more.
pub record KeepsThem : Type 0 where
  pub first : IsKept nothing_kept [] []
  pub mark : (k : Kept) (marks : List Entry) (changes : List Change) (new : Entry) → IsFitMark new
      → IsKept k marks changes → IsKept (kept_mark k new) (marks ++ new ∷ []) changes
  pub change : (k : Kept) (marks : List Entry) (changes : List Change) (new : Change)
      → IsFitChange new
      → IsKept k marks changes → IsKept (kept_change k new) marks (changes ++ new ∷ [])
