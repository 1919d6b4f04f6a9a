-- The notices that are due, and the suppressions.
use Rattle.std.specs.Prelude.{ℕ, Bool, List, [], ◌∷◌, ◌++◌, length, slice_get, flat_map, Option, Some, None, ◌==◌, if◌then◌else◌}
use Rattle.std.specs.List.{list_any}
use Rattle.due_model.specs.declared.config.Config.{Config}
use Rattle.due_model.specs.declared.config.Object.{Object}
use Rattle.due_model.specs.declared.config.Rights.{Rights}
use Rattle.due_model.specs.declared.event.Event.{Event}
use Rattle.due_model.specs.declared.options.OptionLetters.{OptionLetters}
use Rattle.due_model.specs.declared.notice.Notice.{Notice}
use Rattle.due_model.specs.declared.notice.Outcome.{Outcome}
use Rattle.due_model.specs.declared.notice.Outcome.TheVariants.{Nothing, Sent, Suppressed}
use Rattle.due_model.specs.declared.notice.Suppression.{Suppression}
use Rattle.due_model.specs.declared.zone.Zone.{Zone}
use Rattle.due_model.specs.declared.rules.Attempt.{Attempt}
use Rattle.due_model.specs.claims.Rules.{contact_failing}
use Rattle.due_model.specs.claims.Receivers.{receivers, rights_for}
use Rattle.due_model.specs.claims.Histories.{hist, outcome}

-- whether a contact's notices go out on lane l
abbrev pub uses_lane : Rights → ℕ → Bool
uses_lane rights l = list_any (λ lane. lane.0 == l) rights.lanes

-- the notice of contact k on lane l, if the contact's filters pass and it uses that lane
abbrev pub notice_to : Config → Zone → ℕ → Object → (l event number : ℕ) → Attempt
    → (told : Option OptionLetters) → ℕ → List Notice
notice_to c zone o object l event number a told k = elim (slice_get c.contacts k) as (λ _. List Notice) [
  | None ↦ []
  | Some contact ↦ elim (contact_failing c zone (rights_for object contact) a told)
      as (λ _. List Notice) [
        | Some why ↦ []
        | None ↦ if uses_lane (rights_for object contact) l
            then record {
              event = event;
              moment = a.moment;
              object = record { 0 = o };
              kind = a.kind;
              state = a.state;
              number = number;
              contact = record { 0 = k };
              lane = record { 0 = l };
            }
            ∷ []
            else []
      ]
]

-- the suppression of contact k, if one of the contact's filters fails
abbrev pub refusal_of : Config → Zone → ℕ → Object → (event number : ℕ) → Attempt
    → (told : Option OptionLetters) → ℕ → List Suppression
refusal_of c zone o object event number a told k =
    elim (slice_get c.contacts k) as (λ _. List Suppression) [
      | None ↦ []
      | Some contact ↦ elim (contact_failing c zone (rights_for object contact) a told)
          as (λ _. List Suppression) [
            | None ↦ []
            | Some why ↦ record {
              event = event;
              moment = a.moment;
              object = record { 0 = o };
              kind = a.kind;
              state = a.state;
              number = number;
              filter = why;
              contact = Some (record { 0 = k });
            } ∷ []
          ]
    ]

-- the notices of an outcome for lane l, one for each receiver that gets it there
abbrev pub notices : Config → Zone → ℕ → Object → (l event : ℕ) → Outcome → List Notice
notices c zone o object l event Nothing = []
notices c zone o object l event (Sent k state number moment gap reach) =
    (λ (a : Attempt). flat_map (notice_to c zone o object l event number a reach.told)
    (receivers c zone o object a number reach.standing)) (record { kind = k; state = state; moment = moment })
notices c zone o object l event (Suppressed k state number moment why) = []

-- the suppressions of an outcome: the object's, or one for each receiver that is refused
abbrev pub suppressions : Config → Zone → ℕ → Object → (event : ℕ) → Outcome → List Suppression
suppressions c zone o object event Nothing = []
suppressions c zone o object event (Sent k state number moment gap reach) =
    (λ (a : Attempt). flat_map (refusal_of c zone o object event number a reach.told)
    (receivers c zone o object a number reach.standing)) (record { kind = k; state = state; moment = moment })
suppressions c zone o object event (Suppressed k state number moment why) =
    record {
      event = event;
      moment = moment;
      object = record { 0 = o };
      kind = k;
      state = state;
      number = number;
      filter = why;
      contact = None;
    } ∷ []

-- what an event adds to the notices of object o for lane l
abbrev pub due_at : Config → Zone → ℕ → Object → (l : ℕ) → Event → List Event → List Notice
due_at c zone o object l e past =
    notices c zone o object l (length past)
    (outcome c zone o object e past (hist c zone o object past))

-- what an event adds to the suppressions of object o
abbrev pub suppressed_at : Config → Zone → ℕ → Object → Event → List Event → List Suppression
suppressed_at c zone o object e past =
    suppressions c zone o object (length past)
    (outcome c zone o object e past (hist c zone o object past))

-- Due, for an object with these settings: the notices for lane l, the oldest first
abbrev pub due_for : Config → Zone → ℕ → Object → (l : ℕ) → List Event → List Notice
due_for c zone o object l [] = []
due_for c zone o object l (e ∷ past) =
    due_for c zone o object l past ++ due_at c zone o object l e past

-- Sup, likewise: the suppressions, the oldest first
abbrev pub suppressed_for : Config → Zone → ℕ → Object → List Event → List Suppression
suppressed_for c zone o object [] = []
suppressed_for c zone o object (e ∷ past) =
    suppressed_for c zone o object past ++ suppressed_at c zone o object e past

-- Due: the notices of object o for lane l after a past
abbrev pub due : Config → Zone → (o l : ℕ) → List Event → List Notice
due c zone o l past =
    elim (slice_get c.objects o)
    as (λ _. List Notice) [ None ↦ [] | Some object ↦ due_for c zone o object l past ]

-- Sup: the suppressions of object o after a past
abbrev pub sup : Config → Zone → (o : ℕ) → List Event → List Suppression
sup c zone o past =
    elim (slice_get c.objects o)
    as (λ _. List Suppression) [ None ↦ [] | Some object ↦ suppressed_for c zone o object past ]
