-- The entries of an event, in order: by object, then contact, then lane.
use Rattle.std.specs.Prelude.{ℕ, List, [], ◌++◌, length, filter, flat_map, map, slice_get, Option}
use Rattle.std.specs.List.{range_with_len}
use Rattle.std.specs.Option.{option_map_or}
use Rattle.due_model.specs.declared.config.Config.{Config}
use Rattle.due_model.specs.declared.config.Object.{Object}
use Rattle.due_model.specs.declared.event.Event.{Event}
use Rattle.due_model.specs.declared.notice.Outcome.{Outcome}
use Rattle.due_model.specs.declared.notice.Outcome.TheVariants as outcome
use Rattle.due_model.specs.declared.zone.Zone.{Zone}
use Rattle.due_model.specs.declared.options.OptionLetters.{OptionLetters}
use Rattle.due_model.specs.claims.Due.{notice_to, refusal_of, suppressions}
use Rattle.due_model.specs.claims.Histories.{hist, outcome as outcome_of}
use Rattle.due_model.specs.declared.rules.Attempt.{Attempt}
use Rattle.due_model.specs.claims.Receivers.{receivers}
use Rattle.messages.specs.declared.entries.Entry.{Entry}
use Rattle.messages.specs.declared.entries.Entry.TheVariants.{Sent, Withheld}

-- ---- the entries of an event

-- what contact k has of an attempt on object o: the filter that refused it, or its notices, in the
-- order of the lanes
abbrev pub contact_entries : Config → Zone → ℕ → Object → (event number : ℕ) → Attempt
    → (told : Option OptionLetters) → ℕ → List Entry
contact_entries c zone o object event number a told k =
    map Withheld (refusal_of c zone o object event number a told k)
    ++ flat_map (λ l. map Sent (notice_to c zone o object l event number a told k))
    (range_with_len 0 (length c.lanes))

-- what an outcome of object o adds: the filter of the object that stopped it, or what each receiver
-- has, in number order
abbrev pub outcome_entries : Config → Zone → ℕ → Object → (event : ℕ) → Outcome → List Entry
outcome_entries c zone o object event outcome.Nothing = []
outcome_entries c zone o object event (outcome.Sent k state number moment gap reach) =
    (λ (a : Attempt).
    flat_map (contact_entries c zone o object event number a reach.told)
    (receivers c zone o object a number reach.standing))
    (record { kind = k; state = state; moment = moment })
outcome_entries c zone o object event (outcome.Suppressed k state number moment why) =
    map Withheld (suppressions c zone o object event (outcome.Suppressed k state number moment why))

-- what an event adds for object o
abbrev pub object_entries : Config → Zone → Event → List Event → (o : ℕ) → List Entry
object_entries c zone e past o =
    option_map_or
    (λ object. outcome_entries c zone o object (length past)
    (outcome_of c zone o object e past (hist c zone o object past)))
    (slice_get c.objects o) []

-- what an event adds, in the number order of the objects
abbrev pub event_entries : Config → Zone → Event → List Event → List Entry
event_entries c zone e past =
    flat_map (object_entries c zone e past) (range_with_len 0 (length c.objects))
