-- The lists that a picture keeps.
use Rattle.std.specs.Prelude.{ℕ, Bool, false, not, ◌==◌, List, filter, nat_le, replicate, slice_index_or}
use Rattle.due_model.specs.declared.config.ObjectId.{ObjectId}
use Rattle.messages.specs.declared.entries.Entry.{Entry}
use Rattle.messages.specs.declared.entries.Entry.TheVariants.{Sent, Withheld}
use Rattle.night_marks.specs.declared.conditions.Change.{Change}

-- the object of which a mark is, and when it is
abbrev pub mark_object : Entry → ObjectId
mark_object (Sent n) = n.object
mark_object (Withheld s) = s.object

abbrev pub mark_moment : Entry → ℕ
mark_moment (Sent n) = n.moment
mark_moment (Withheld s) = s.moment

-- the number is that of object o
abbrev pub is_of : (o : ℕ) → ObjectId → Bool
is_of o object = object.0 == o

-- those of other objects, and those from a moment on
abbrev pub marks_without : (o : ℕ) → List Entry → List Entry
marks_without o marks = filter (λ mark. not (is_of o (mark_object mark))) marks

abbrev pub changes_without : (o : ℕ) → List Change → List Change
changes_without o changes = filter (λ change. not (is_of o change.object)) changes

abbrev pub marks_from : (begin : ℕ) → List Entry → List Entry
marks_from begin marks = filter (λ mark. nat_le begin (mark_moment mark)) marks

abbrev pub changes_from : (begin : ℕ) → List Change → List Change
changes_from begin changes = filter (λ change. nat_le begin change.moment) changes

-- ---- the objects that are left out, by their numbers

unfoldable pub no_flags : List Bool
no_flags = replicate 65536 false

abbrev pub is_out : List Bool → (o : ℕ) → Bool
is_out flags o = slice_index_or flags o false
