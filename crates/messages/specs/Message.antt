-- A notification that goes out, and the entries that it adds.
use Rattle.std.specs.Prelude.{◌≡◌, ℕ, ◌<◌, ◌≤◌, Bool, true, false, not, List, [], ◌∷◌, length, flat_map, map, slice_get, Option, Some, None, is_some, if◌then◌else◌}
use Rattle.std.specs.List.{range_with_len}
use Rattle.std.specs.Option.{option_map_or}
use Rattle.due_model.specs.declared.config.Config.{Config}
use Rattle.due_model.specs.declared.config.Object.{Object}
use Rattle.due_model.specs.declared.config.Rights.{Rights}
use Rattle.due_model.specs.declared.notice.Filter.{Filter}
use Rattle.due_model.specs.declared.notice.Notice.{Notice}
use Rattle.due_model.specs.declared.notice.Reach.{Reach}
use Rattle.due_model.specs.declared.notice.Outcome.{Outcome}
use Rattle.due_model.specs.declared.notice.Outcome.TheVariants as outcome
use Rattle.due_model.specs.declared.notice.Suppression.{Suppression}
use Rattle.due_model.specs.claims.Accepted.{IsAccepted}
use Rattle.due_model.specs.claims.Due.{uses_lane}
use Rattle.due_model.specs.claims.Limits.{last_moment}
use Rattle.due_model.specs.claims.Rules.{contact_failing, letter_of}
use Rattle.filters.specs.Attempt.{plain, rights_of}
use Rattle.messages.specs.declared.entries.Entry.{Entry}
use Rattle.messages.specs.declared.entries.Entry.TheVariants.{Sent, Withheld}
use Rattle.messages.specs.declared.message.Message.{Message}
use Rattle.outcomes.specs.declared.rules.Rules.{Rules}
use Rattle.time_period.specs.claims.Days.{AreCompiled}

-- how far it reaches, if it counts
abbrev pub reach_of : Message → Reach
reach_of m = record { heard = true; told = m.told; standing = m.standing }

-- as an outcome; its entries don't tell the gap, nor whether it counts
abbrev pub outcome_of : Message → Outcome
outcome_of m =
    outcome.Sent m.attempt.kind m.attempt.state m.number m.attempt.moment 0 (reach_of m)

-- its notice to contact k on lane l
abbrev pub notice_for : Message → (k l : ℕ) → Notice
notice_for m k l = record {
  event = m.event;
  moment = m.attempt.moment;
  object = m.object;
  kind = m.attempt.kind;
  state = m.attempt.state;
  number = m.number;
  contact = record { 0 = k };
  lane = record { 0 = l };
}

-- its suppression by a filter of contact k
abbrev pub suppression_for : Message → (k : ℕ) → Filter → Suppression
suppression_for m k why = record {
  event = m.event;
  moment = m.attempt.moment;
  object = m.object;
  kind = m.attempt.kind;
  state = m.attempt.state;
  number = m.number;
  filter = why;
  contact = Some (record { 0 = k });
}

-- its notice to contact k with these rights on lane l, if the contact uses that lane
abbrev pub lane_notices : Message → (k : ℕ) → Rights → (l : ℕ) → List Notice
lane_notices m k rights l = if uses_lane rights l then notice_for m k l ∷ [] else []

-- the entries of contact k with these rights for the lanes below a number, in number order
abbrev pub lane_entries : Message → (k : ℕ) → Rights → (lanes : ℕ) → List Entry
lane_entries m k rights lanes =
    flat_map (λ l. map Sent (lane_notices m k rights l)) (range_with_len 0 lanes)

-- the entries of contact k with these rights: the filter that refused it, or its notices
abbrev pub entries_unless : Config → Message → (k : ℕ) → Rights → Option Filter → List Entry
entries_unless c m k rights refused = elim refused as (λ _. List Entry) [
  | Some why ↦ Withheld (suppression_for m k why) ∷ []
  | None ↦ lane_entries m k rights (length c.lanes)
]

-- what contact k has of it
abbrev pub message_entries : Config → Message → (k : ℕ) → List Entry
message_entries c m k =
    option_map_or
    (λ contact. entries_unless c m k (rights_of m.attempt.service contact)
    (contact_failing c m.attempt.zone.now (rights_of m.attempt.service contact) (plain m.attempt)
    m.told))
    (slice_get c.contacts k) []

-- whether the filters of contact k pass
abbrev pub message_passes : Config → Message → (k : ℕ) → Bool
message_passes c m k = elim (slice_get c.contacts k) as (λ _. Bool) [
  | None ↦ false
  | Some contact ↦ not (is_some (contact_failing c m.attempt.zone.now
      (rights_of m.attempt.service contact) (plain m.attempt) m.told))
]

-- what is asked of it where a contact's filters read it
pub record IsReadable (c : Config) (m : Message) : Type 0 where
  pub accepted : IsAccepted c
  pub compiled : AreCompiled c m.attempt.periods.now
  pub moment : m.attempt.moment ≤ last_moment
  pub letter : m.attempt.letter ≡ letter_of m.attempt.kind m.attempt.state

-- It is of an object of the configuration, a service or a host as it says, and in the zone of these rules.
pub record IsMessage (r : Rules) (m : Message) : Type 0 where
  pub readable : IsReadable r.config.now m
  pub object : m.object.0 < length r.config.now.objects
  pub zone : m.attempt.zone.now ≡ r.zone.now
  pub service : (settings : Object)
      → slice_get r.config.now.objects m.object.0 ≡ Some settings
      → m.attempt.service ≡ is_some settings.host
