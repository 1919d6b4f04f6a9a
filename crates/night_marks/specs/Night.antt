-- What a picture of a feed keeps, event by event.
use Rattle.std.specs.Prelude.{ℕ, ◌+◌, max, nat_lt, List, [], ◌∷◌, slice_set, Option, None, Some, if◌then◌else◌}
use Rattle.std.specs.Option.{option_map_or}
use Rattle.due_model.specs.declared.config.ObjectId.{ObjectId}
use Rattle.due_model.specs.declared.event.Event.{Event}
use Rattle.due_model.specs.declared.event.EventKind.{EventKind}
use Rattle.messages.specs.declared.entries.Entry.{Entry}
use Rattle.night_marks.specs.declared.conditions.Change.{Change}
use Rattle.night_marks.specs.declared.conditions.Condition.{Condition}
use Rattle.night_marks.specs.declared.night.Night.{Night}
use Rattle.night_marks.specs.declared.night.Span.{Span}
use Rattle.night_marks.specs.Conditions.{condition_after, condition_at, event_object, is_drawn, no_conditions}
use Rattle.night_marks.specs.Kept.{kept_change, kept_mark, nothing_kept}

abbrev pub nothing_heard : Night
nothing_heard = record { kept = nothing_kept; conditions = no_conditions; told = 0; span = None }

-- the time of a feed with one event more: from the first stamp to the greatest
abbrev pub span_after : Option Span → (moment : ℕ) → Span
span_after None moment = record { first = moment; last = moment }
span_after (Some span) moment = record { first = span.first; last = max span.last moment }

-- ---- an event

-- what an event changes of an object is kept, where it is drawn
abbrev pub change_of : (moment : ℕ) → ObjectId → (before now : Condition) → Change
change_of moment o before now = record { moment = moment; object = o; before = before; now = now }

abbrev pub drawn : Night → (moment : ℕ) → ObjectId → (before now : Condition) → Night
drawn n moment o before now =
    if is_drawn before now
    then record n { kept = kept_change n.kept (change_of moment o before now); conditions = slice_set n.conditions o.0 now }
    else record n { conditions = slice_set n.conditions o.0 now }

abbrev pub changed : Night → EventKind → ObjectId → (moment : ℕ) → Night
changed n k o moment =
    drawn n moment o (condition_at n.conditions o.0)
    (condition_after k o.0 (condition_at n.conditions o.0))

-- an event is heard
abbrev pub heard_event : Night → Event → Night
heard_event n e =
    option_map_or
    (λ o. changed (record n { span = Some (span_after n.span e.moment) }) e.kind o
    (span_after n.span e.moment).last)
    (event_object e.kind) (record n { span = Some (span_after n.span e.moment) })

-- ---- what became of its messages

-- one more; a count stays at the most that it can be
abbrev pub one_more : ℕ → ℕ
one_more count = if nat_lt count 18446744073709551615 then count + 1 else count

abbrev pub told_entry : Night → Entry → Night
told_entry n entry = record n { kept = kept_mark n.kept entry; told = one_more n.told }

abbrev pub told_entries : Night → List Entry → Night
told_entries n [] = n
told_entries n (entry ∷ entries) = told_entries (told_entry n entry) entries
