-- What a contact has of a notification is what the definitions say, and receivers are contacts of the configuration.
use Rattle.std.proofs.Common.{◌≡◌, ℕ, ◌<◌, ◌-◌, ◌&&◌, ◌||◌, true, false, not, All, List, [], ◌∷◌, ◌++◌, length, map, flat_map, slice_get, get_or, Option, Some, None, is_some, Bool, if◌then◌else◌, refl, sym, ap, subst, ◌∙◌, append_assoc}
use Rattle.std.specs.List.{list_any, range_with_len}
use Rattle.std.proofs.lemmas.Bool.{cond_both}
use Rattle.std.specs.Option.{option_map_or}
use Rattle.std.proofs.lemmas.List.{append-nil}
use Rattle.std.proofs.lemmas.List.Elements.{All-nil, All-cons, All-head, All-tail, All-filter}
use Rattle.lemmas.proofs.Lists.{range_below, some_at}
use Rattle.due_model.specs.declared.config.Config.{Config}
use Rattle.due_model.specs.declared.config.Contact.{Contact}
use Rattle.due_model.specs.declared.config.ContactId.{ContactId}
use Rattle.due_model.specs.declared.config.Object.{Object}
use Rattle.due_model.specs.declared.config.ObjectId.{ObjectId}
use Rattle.due_model.specs.declared.config.Rights.{Rights}
use Rattle.due_model.specs.declared.notice.Filter.{Filter}
use Rattle.due_model.specs.declared.notice.Kind.{Kind}
use Rattle.due_model.specs.declared.notice.Kind.TheVariants as kind
use Rattle.due_model.specs.declared.notice.Notice.{Notice}
use Rattle.due_model.specs.declared.notice.Outcome.{Outcome}
use Rattle.due_model.specs.declared.notice.Suppression.{Suppression}
use Rattle.due_model.specs.declared.options.OptionLetter.TheVariants as letter
use Rattle.due_model.specs.declared.state.State.{State}
use Rattle.due_model.specs.declared.rules.Attempt.{Attempt}
use Rattle.due_model.specs.declared.zone.Zone.{Zone}
use Rattle.due_model.specs.claims.Due.{uses_lane}
use Rattle.due_model.specs.claims.Receivers.{others, passes, receivers, rights_for}
use Rattle.due_model.specs.claims.Escalations.{contacts_with, has_contact, matching, reach, reaches}
use Rattle.due_model.specs.claims.Readings.{is_problem_state}
use Rattle.due_model.specs.claims.Rules.{contact_failing, state_letter}
use Rattle.escalation.specs.Named.{contact_ids}
use Rattle.filters.specs.Attempt.{plain, rights_of}
use Rattle.lemmas.proofs.Lists.{any_alike, slice_get_read}
use Rattle.lemmas.proofs.Numbers.{flat_alike, flat_nothing}
use Rattle.messages.specs.declared.entries.Entry.{Entry}
use Rattle.messages.specs.declared.entries.Entry.TheVariants.{Sent, Withheld}
use Rattle.messages.specs.declared.message.Message.{Message}
use Rattle.messages.specs.claims.Entries.{contact_entries, outcome_entries}
use Rattle.messages.specs.Entries.{HasMore}
use Rattle.messages.specs.Message.{entries_unless, lane_entries, message_entries, message_passes, outcome_of, suppression_for}
use Rattle.outcomes.specs.Outcome.{heard_of}

-- ---- what is read of a list

pub read_at : {X : Type 0} (xs ys : List X) (i k : ℕ) (x : X) → ys ≡ xs → k ≡ i → i < length xs → x ≡ get_or ys k x → slice_get xs i ≡ Some x
read_at {X} xs ys i k x same place low is =
    slice_get_read xs i x low (is ∙ ap (λ (zs : List X). get_or zs k x) same ∙ ap (λ (j : ℕ). get_or xs j x) place)

-- ---- what is left where a growth is refused

-- nothing came
pub has_more_same : (old new : List Entry) → new ≡ old → HasMore old new
has_more_same old new same = ([], same ∙ sym (append-nil old))

-- some came, and then more
pub has_more_after : (old some mid new : List Entry) → mid ≡ old ++ some → HasMore mid new → HasMore old new
has_more_after old some mid new came more =
    (some ++ more.0, more.1 ∙ ap (λ (xs : List Entry). xs ++ more.0) came ∙ append_assoc old some more.0)

-- ---- what one contact has

abbrev passes_by : Config → Message → Option Contact → Bool
passes_by c m found = elim found as (λ _. Bool) [
  | None ↦ false
  | Some contact ↦ not (is_some (contact_failing c m.attempt.zone.now (rights_of m.attempt.service contact) (plain m.attempt) m.told))
]

-- where no filter of the contact fails
pub passed : (c : Config) (m : Message) (k : ℕ) (contact : Contact) → slice_get c.contacts k ≡ Some contact
    → contact_failing c m.attempt.zone.now (rights_of m.attempt.service contact) (plain m.attempt) m.told ≡ None
    → message_entries c m k ≡ lane_entries m k (rights_of m.attempt.service contact) (length c.lanes)
passed c m k contact at none =
    ap (λ (found : Option Contact). option_map_or (λ (x : Contact). entries_unless c m k (rights_of m.attempt.service x) (contact_failing c m.attempt.zone.now (rights_of m.attempt.service x) (plain m.attempt) m.told)) found []) at
    ∙ ap (entries_unless c m k (rights_of m.attempt.service contact)) none

-- where this one is the first that fails
pub refused : (c : Config) (m : Message) (k : ℕ) (contact : Contact) (why : Filter) → slice_get c.contacts k ≡ Some contact
    → contact_failing c m.attempt.zone.now (rights_of m.attempt.service contact) (plain m.attempt) m.told ≡ Some why
    → message_entries c m k ≡ Withheld (suppression_for m k why) ∷ []
refused c m k contact why at some =
    ap (λ (found : Option Contact). option_map_or (λ (x : Contact). entries_unless c m k (rights_of m.attempt.service x) (contact_failing c m.attempt.zone.now (rights_of m.attempt.service x) (plain m.attempt) m.told)) found []) at
    ∙ ap (entries_unless c m k (rights_of m.attempt.service contact)) some

-- whether its filters pass, by the first of them that fails
pub passes_none : (c : Config) (m : Message) (k : ℕ) (contact : Contact) → slice_get c.contacts k ≡ Some contact
    → contact_failing c m.attempt.zone.now (rights_of m.attempt.service contact) (plain m.attempt) m.told ≡ None → message_passes c m k ≡ true
passes_none c m k contact at none =
    ap (λ (found : Option Contact). passes_by c m found) at ∙ ap (λ (fails : Option Filter). not (is_some fails)) none

pub passes_some : (c : Config) (m : Message) (k : ℕ) (contact : Contact) (why : Filter) → slice_get c.contacts k ≡ Some contact
    → contact_failing c m.attempt.zone.now (rights_of m.attempt.service contact) (plain m.attempt) m.told ≡ Some why → message_passes c m k ≡ false
passes_some c m k contact why at some =
    ap (λ (found : Option Contact). passes_by c m found) at ∙ ap (λ (fails : Option Filter). not (is_some fails)) some

module _ (c : Config) (zone : Zone) (m : Message) (settings : Object) where
  -- the notice of contact k for lane l, unless this filter stops it
  abbrev unless : (l k : ℕ) → Rights → Option Filter → List Notice
  unless l k rights stopped = elim stopped as (λ _. List Notice) [
    | Some why ↦ []
    | None ↦ if uses_lane rights l
        then record { event = m.event; moment = m.attempt.moment; object = record { 0 = m.object.0 }; kind = m.attempt.kind; state = m.attempt.state; number = m.number; contact = record { 0 = k }; lane = record { 0 = l } } ∷ []
        else []
  ]

  -- what a contact is refused, by this filter
  abbrev refusal : (k : ℕ) → Option Filter → List Suppression
  refusal k stopped = elim stopped as (λ _. List Suppression) [
    | None ↦ []
    | Some why ↦ record { event = m.event; moment = m.attempt.moment; object = record { 0 = m.object.0 }; kind = m.attempt.kind; state = m.attempt.state; number = m.number; filter = why; contact = Some (record { 0 = k }) } ∷ []
  ]

  by_filter : (k : ℕ) (rights : Rights) (stopped : Option Filter)
      → entries_unless c m k rights stopped ≡ map Withheld (refusal k stopped) ++ flat_map (λ l. map Sent (unless l k rights stopped)) (range_with_len 0 (length c.lanes))
  by_filter k rights None = refl
  by_filter k rights (Some why) =
      ap (λ (xs : List Entry). Withheld (suppression_for m k why) ∷ xs)
      (sym (flat_nothing (λ (l : ℕ). map Sent []) (λ l. refl) (range_with_len 0 (length c.lanes))))

  -- what contact k has of it, by the definitions
  pub message_law : m.attempt.zone.now ≡ zone → m.attempt.service ≡ is_some settings.host → (k : ℕ)
      → message_entries c m k ≡ contact_entries c zone m.object.0 settings m.event m.number (plain m.attempt) m.told k
  message_law same service k = by_contact (slice_get c.contacts k)
    where
      by_contact : (found : Option Contact)
          → option_map_or (λ (x : Contact). entries_unless c m k (rights_of m.attempt.service x) (contact_failing c m.attempt.zone.now (rights_of m.attempt.service x) (plain m.attempt) m.told)) found []
          ≡ map Withheld (elim found as (λ _. List Suppression) [
            | None ↦ []
            | Some contact ↦ refusal k (contact_failing c zone (rights_for settings contact) (plain m.attempt) m.told)
          ]) ++ flat_map (λ l. map Sent (elim found as (λ _. List Notice) [
            | None ↦ []
            | Some contact ↦ unless l k (rights_for settings contact) (contact_failing c zone (rights_for settings contact) (plain m.attempt) m.told)
          ])) (range_with_len 0 (length c.lanes))
      by_contact None = sym (flat_nothing (λ (l : ℕ). map Sent []) (λ l. refl) (range_with_len 0 (length c.lanes)))
      by_contact (Some contact) =
          let rights = rights_for settings contact in
          ap (λ (s : Bool). entries_unless c m k (rights_of s contact) (contact_failing c m.attempt.zone.now (rights_of s contact) (plain m.attempt) m.told)) service
          ∙ ap (λ (z : Zone). entries_unless c m k rights (contact_failing c z rights (plain m.attempt) m.told)) same
          ∙ by_filter k rights (contact_failing c zone rights (plain m.attempt) m.told)

-- ---- what the receivers have

pub flat_ids : (f : ℕ → List Entry) (ks : List ℕ) → flat_map (λ (contact : ContactId). f contact.0) (contact_ids ks) ≡ flat_map f ks
flat_ids f [] = refl
flat_ids f (k ∷ ks) = ap (λ (xs : List Entry). f k ++ xs) (flat_ids f ks)

-- what they have, by the definitions
pub receivers_law : (c : Config) (zone : Zone) (m : Message) (settings : Object) (told : List ContactId)
    → m.attempt.zone.now ≡ zone → m.attempt.service ≡ is_some settings.host
    → told ≡ contact_ids (receivers c zone m.object.0 settings (plain m.attempt) m.number m.standing)
    → flat_map (λ (contact : ContactId). message_entries c m contact.0) told ≡ outcome_entries c zone m.object.0 settings m.event (outcome_of m)
receivers_law c zone m settings told same service is =
    let ks = receivers c zone m.object.0 settings (plain m.attempt) m.number m.standing in
    ap (flat_map (λ (contact : ContactId). message_entries c m contact.0)) is
    ∙ flat_ids (message_entries c m) ks
    ∙ flat_alike (message_entries c m) (contact_entries c zone m.object.0 settings m.event m.number (plain m.attempt) m.told) (message_law c zone m settings same service) ks

-- ---- whether the filters of a receiver pass

any_ids : (f : ℕ → Bool) (ks : List ℕ) → list_any (λ (contact : ContactId). f contact.0) (contact_ids ks) ≡ list_any f ks
any_ids f [] = refl
any_ids f (k ∷ ks) = ap (λ (b : Bool). f k || b) (any_ids f ks)

any_each : (f g : ℕ → Bool) → ((k : ℕ) → f k ≡ g k) → (ks : List ℕ) → list_any f ks ≡ list_any g ks
any_each f g alike ks = any_alike f g ks (λ k _. alike k)

-- the filters of contact k pass by the definitions
passes_law : (c : Config) (zone : Zone) (m : Message) (settings : Object) → m.attempt.zone.now ≡ zone → m.attempt.service ≡ is_some settings.host → (k : ℕ)
    → message_passes c m k ≡ passes c zone settings (plain m.attempt) m.told k
passes_law c zone m settings same service k = by_contact (slice_get c.contacts k)
  where
    by_contact : (found : Option Contact)
        → elim found as (λ _. Bool) [ None ↦ false | Some contact ↦ not (is_some (contact_failing c m.attempt.zone.now (rights_of m.attempt.service contact) (plain m.attempt) m.told)) ]
        ≡ elim found as (λ _. Bool) [ None ↦ false | Some contact ↦ not (is_some (contact_failing c zone (rights_for settings contact) (plain m.attempt) m.told)) ]
    by_contact None = refl
    by_contact (Some contact) =
        ap (λ (s : Bool). not (is_some (contact_failing c m.attempt.zone.now (rights_of s contact) (plain m.attempt) m.told))) service
        ∙ ap (λ (z : Zone). not (is_some (contact_failing c z (rights_for settings contact) (plain m.attempt) m.told))) same

-- the notification counts by the definitions
pub heard_law : (c : Config) (zone : Zone) (m : Message) (settings : Object) (told : List ContactId)
    → m.attempt.zone.now ≡ zone → m.attempt.service ≡ is_some settings.host
    → told ≡ contact_ids (receivers c zone m.object.0 settings (plain m.attempt) m.number m.standing)
    → (not c.choices.nobody || list_any (λ (contact : ContactId). message_passes c m contact.0) told) ≡ heard_of c zone m.object.0 settings (outcome_of m)
heard_law c zone m settings told same service is =
    let ks = receivers c zone m.object.0 settings (plain m.attempt) m.number m.standing in
    ap (λ (b : Bool). not c.choices.nobody || b)
    (ap (list_any (λ (contact : ContactId). message_passes c m contact.0)) is
    ∙ any_ids (message_passes c m) ks
    ∙ any_each (message_passes c m) (passes c zone settings (plain m.attempt) m.told) (passes_law c zone m settings same service) ks)

-- and by its parts
pub heard_parts : (c : Config) (zone : Zone) (m : Message) (settings : Object) (o : ObjectId) (outcome : Outcome)
    → m.object ≡ o → outcome_of m ≡ outcome
    → heard_of c zone m.object.0 settings (outcome_of m) ≡ heard_of c zone o.0 settings outcome
heard_parts c zone m settings o outcome object is =
    ap (λ (p : ObjectId). heard_of c zone p.0 settings (outcome_of m)) object
    ∙ ap (heard_of c zone o.0 settings) is

-- the parts of a notification tell what it adds
pub parts_law : (c : Config) (zone : Zone) (m : Message) (settings : Object) (o : ObjectId) (event : ℕ) (outcome : Outcome)
    → m.object ≡ o → m.event ≡ event → outcome_of m ≡ outcome
    → outcome_entries c zone m.object.0 settings m.event (outcome_of m) ≡ outcome_entries c zone o.0 settings event outcome
parts_law c zone m settings o event outcome object number is =
    ap (λ (p : ObjectId). outcome_entries c zone p.0 settings m.event (outcome_of m)) object
    ∙ ap (λ (n : ℕ). outcome_entries c zone o.0 settings n (outcome_of m)) number
    ∙ ap (outcome_entries c zone o.0 settings event) is

-- ---- receivers are contacts of the configuration

ids_below : (n : ℕ) (ks : List ℕ) → All (λ k. k < n) ks → All (λ (contact : ContactId). contact.0 < n) (contact_ids ks)
ids_below n [] each = All-nil (λ (contact : ContactId). contact.0 < n)
ids_below n (k ∷ ks) each =
    All-cons (λ (contact : ContactId). contact.0 < n) (record { 0 = k }) (contact_ids ks)
    (All-head (λ j. j < n) k ks each) (ids_below n ks (All-tail (λ j. j < n) k ks each))

module _ (c : Config) (zone : Zone) (o : ℕ) (settings : Object) (number standing : ℕ) where
  abbrev AreContacts : List ContactId → Type 0
  AreContacts told = All (λ (contact : ContactId). contact.0 < length c.contacts) told

  with_test : (test : ℕ → Bool) → AreContacts (contact_ids (contacts_with c test))
  with_test test =
      ids_below (length c.contacts) (contacts_with c test)
      (All-filter test (λ k. k < length c.contacts) (range_with_len 0 (length c.contacts)) (range_below (length c.contacts)))

  of_others : (a : Attempt) → AreContacts (contact_ids (others c zone o settings a standing))
  of_others a =
      cond_both (c.choices.esc_other && is_problem_state a.state) (reach c zone o settings standing (state_letter a.state) a.moment) (contacts_with c (has_contact settings.contacts)) (λ ks. AreContacts (contact_ids ks))
      (λ _. with_test (reaches settings (matching c zone o standing (state_letter a.state) a.moment)))
      (λ _. with_test (has_contact settings.contacts))

  of_kind : (k : Kind) (s : State) (t : ℕ) → AreContacts (contact_ids (receivers c zone o settings (record { kind = k; state = s; moment = t }) number standing))
  of_kind kind.Problem s t = with_test (reaches settings (matching c zone o number (state_letter s) t))
  of_kind kind.Recovery s t = with_test (reaches settings (matching c zone o (number - 1) letter.Recovery t))
  of_kind kind.FlappingStart s t = of_others (record { kind = kind.FlappingStart; state = s; moment = t })
  of_kind kind.FlappingStop s t = of_others (record { kind = kind.FlappingStop; state = s; moment = t })
  of_kind kind.DowntimeStart s t = of_others (record { kind = kind.DowntimeStart; state = s; moment = t })
  of_kind kind.DowntimeEnd s t = of_others (record { kind = kind.DowntimeEnd; state = s; moment = t })
  of_kind kind.DowntimeCancelled s t = of_others (record { kind = kind.DowntimeCancelled; state = s; moment = t })
  of_kind kind.Acknowledgement s t = of_others (record { kind = kind.Acknowledgement; state = s; moment = t })

pub receivers_within : (c : Config) (zone : Zone) (m : Message) (told : List ContactId) → m.object.0 < length c.objects
    → ((settings : Object) → slice_get c.objects m.object.0 ≡ Some settings → told ≡ contact_ids (receivers c zone m.object.0 settings (plain m.attempt) m.number m.standing))
    → All (λ (contact : ContactId). contact.0 < length c.contacts) told
receivers_within c zone m told low is =
    let found = some_at c.objects m.object.0 low in
    subst (All (λ (contact : ContactId). contact.0 < length c.contacts)) (sym (is found.0 found.1))
    (of_kind c zone m.object.0 found.0 m.number m.standing m.attempt.kind m.attempt.state m.attempt.moment)
