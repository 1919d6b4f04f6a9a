-- What a decider's events make due and suppress of its objects: what the definitions say of them.
use Rattle.std.proofs.Common.{◌≡◌, ℕ, ◌+◌, ◌*◌, ◌%◌, ◌<◌, ◌≤◌, true, false, List, [], ◌∷◌, ◌++◌, length, get_or, flat_map, slice_get, All, Option, Some, None, ◌==◌, refl, sym, ap, subst, ◌∙◌, arith}
use Rattle.std.specs.List.{AllPairs, range_with_len}
use Rattle.std.specs.Option.{option_map_or}
use Rattle.std.proofs.lemmas.Bool.{eqb-true}
use Rattle.std.proofs.lemmas.List.Elements.{All-nil, All-cons, All-append, All-filter, All-weaker, filter-append, filter_passes}
use Rattle.std.proofs.lemmas.List.Kept.{AllPairs-filter}
use Rattle.due_model.specs.declared.config.Config.{Config}
use Rattle.due_model.specs.declared.config.Contact.{Contact}
use Rattle.due_model.specs.declared.config.Object.{Object}
use Rattle.due_model.specs.declared.event.Event.{Event}
use Rattle.due_model.specs.declared.notice.Filter.{Filter}
use Rattle.due_model.specs.declared.notice.Notice.{Notice}
use Rattle.due_model.specs.declared.notice.Outcome.{Outcome}
use Rattle.due_model.specs.declared.notice.Outcome.TheVariants.{Nothing, Sent, Suppressed}
use Rattle.due_model.specs.declared.notice.Suppression.{Suppression}
use Rattle.due_model.specs.declared.options.OptionLetters.{OptionLetters}
use Rattle.due_model.specs.declared.rules.Attempt.{Attempt}
use Rattle.due_model.specs.declared.zone.Zone.{Zone}
use Rattle.due_model.specs.claims.Due.{due, due_at, due_for, notices, refusal_of, sup, suppressed_at, suppressed_for, suppressions}
use Rattle.due_model.specs.claims.Receivers.{receivers, rights_for}
use Rattle.due_model.specs.claims.Histories.{hist, outcome}
use Rattle.due_model.specs.claims.Rules.{contact_failing}
use Rattle.decider.specs.declared.share.Share.{Share}
use Rattle.decider.specs.claims.Decider.{gain, gained, suppressed_gain, suppressed_gained}
use Rattle.decider.specs.claims.Share.{is_owned, owned_numbers}
use Rattle.decider.specs.DeciderLaws.{due_more}
use Rattle.lemmas.proofs.Lists.{AllPairs-append, AllPairs-nil, All-flat_map, range_below, range_increases}
use Rattle.lemmas.proofs.Notices.{notices_to_each}
use Rattle.decider_thread.specs.claims.Order.{IsInOrder, place}
use Rattle.steps.specs.claims.Lanes.{about}
use Rattle.decider_thread.specs.claims.Laws.{of_object}
use Rattle.decider_thread.specs.Laws.{IsMade}
use Rattle.decider_thread.specs.Made.{made_due, suppressed}
use Rattle.decider_thread.proofs.ShareLaws.{in_order, none_owned, one_owned}

-- ---- what an event adds for an object names it

-- a notice of object o on lane l
abbrev IsOf : (o l : ℕ) → Notice → Type 0
IsOf o l n = (n.object.0 ≡ o) × (n.lane.0 ≡ l)

notices_are_of : (c : Config) (zone : Zone) (o : ℕ) (object : Object) (l event : ℕ) (x : Outcome) → All (IsOf o l) (notices c zone o object l event x)
notices_are_of c zone o object l event Nothing = All-nil (IsOf o l)
notices_are_of c zone o object l event (Sent k s number m gap reach) =
    let a : Attempt = record { kind = k; state = s; moment = m } in
    notices_to_each c zone o object l event number a reach.told (IsOf o l) (receivers c zone o object a number reach.standing) (λ i d within. (refl, refl))
notices_are_of c zone o object l event (Suppressed k s number m why) = All-nil (IsOf o l)

gain_is_of : (c : Config) (zone : Zone) (l : ℕ) (e : Event) (past : List Event) (o : ℕ) → All (IsOf o l) (gain c zone l e past o)
gain_is_of c zone l e past o = by_object (slice_get c.objects o)
  where
    by_object : (found : Option Object) → All (IsOf o l) (option_map_or (λ object. due_at c zone o object l e past) found [])
    by_object None = All-nil (IsOf o l)
    by_object (Some object) = notices_are_of c zone o object l (length past) (outcome c zone o object e past (hist c zone o object past))

-- a suppression of object o at an event of this number
abbrev IsNoted : (o event : ℕ) → Suppression → Type 0
IsNoted o event s = (s.object.0 ≡ o) × (s.event ≡ event)

-- the suppression of contact k by a filter
abbrev refused : (o event number : ℕ) → Attempt → (k : ℕ) → Filter → Suppression
refused o event number a k why = record {
  event = event;
  moment = a.moment;
  object = record { 0 = o };
  kind = a.kind;
  state = a.state;
  number = number;
  filter = why;
  contact = Some (record { 0 = k });
}

refusal_is_noted : (c : Config) (zone : Zone) (o : ℕ) (object : Object) (event number : ℕ) (a : Attempt) (told : Option OptionLetters) (k : ℕ) → All (IsNoted o event) (refusal_of c zone o object event number a told k)
refusal_is_noted c zone o object event number a told k = by_contact (slice_get c.contacts k)
  where
    by_filter : (fails : Option Filter) → All (IsNoted o event) (elim fails as (λ _. List Suppression) [ None ↦ [] | Some why ↦ refused o event number a k why ∷ [] ])
    by_filter None = All-nil (IsNoted o event)
    by_filter (Some why) = All-cons (IsNoted o event) (refused o event number a k why) [] (refl, refl) (All-nil (IsNoted o event))

    by_contact : (found : Option Contact) → All (IsNoted o event)
        (elim found as (λ _. List Suppression) [
          | None ↦ []
          | Some contact ↦ elim (contact_failing c zone (rights_for object contact) a told) as (λ _. List Suppression) [ None ↦ [] | Some why ↦ refused o event number a k why ∷ [] ]
        ])
    by_contact None = All-nil (IsNoted o event)
    by_contact (Some contact) = by_filter (contact_failing c zone (rights_for object contact) a told)

suppressions_are_noted : (c : Config) (zone : Zone) (o : ℕ) (object : Object) (event : ℕ) (x : Outcome) → All (IsNoted o event) (suppressions c zone o object event x)
suppressions_are_noted c zone o object event Nothing = All-nil (IsNoted o event)
suppressions_are_noted c zone o object event (Sent k s number m gap reach) =
    let a : Attempt = record { kind = k; state = s; moment = m } in
    let ks = receivers c zone o object a number reach.standing in
    All-flat_map (IsNoted o event) (refusal_of c zone o object event number a reach.told) ks (λ i d within. refusal_is_noted c zone o object event number a reach.told (get_or ks i d))
suppressions_are_noted c zone o object event (Suppressed k s number m why) = All-cons (IsNoted o event) _ [] (refl, refl) (All-nil (IsNoted o event))

noted_gain : (c : Config) (zone : Zone) (e : Event) (past : List Event) (o : ℕ) → All (IsNoted o (length past)) (suppressed_gain c zone e past o)
noted_gain c zone e past o = by_object (slice_get c.objects o)
  where
    by_object : (found : Option Object) → All (IsNoted o (length past)) (option_map_or (λ object. suppressed_at c zone o object e past) found [])
    by_object None = All-nil (IsNoted o (length past))
    by_object (Some object) = suppressions_are_noted c zone o object (length past) (outcome c zone o object e past (hist c zone o object past))

gain_of_one : (c : Config) (zone : Zone) (l : ℕ) (e : Event) (past : List Event) (k : ℕ) → All (λ n. n.object.0 ≡ k) (gain c zone l e past k)
gain_of_one c zone l e past k = All-weaker (IsOf k l) (λ (n : Notice). n.object.0 ≡ k) (λ n h. h.0) (gain c zone l e past k) (gain_is_of c zone l e past k)

noted_of_one : (c : Config) (zone : Zone) (e : Event) (past : List Event) (k : ℕ) → All (λ s. s.object.0 ≡ k) (suppressed_gain c zone e past k)
noted_of_one c zone e past k = All-weaker (IsNoted k (length past)) (λ (s : Suppression). s.object.0 ≡ k) (λ s h. h.0) (suppressed_gain c zone e past k) (noted_gain c zone e past k)

-- ---- over a past

due_none : (c : Config) (zone : Zone) (o l : ℕ) → [] ≡ due c zone o l []
due_none c zone o l = by_object (slice_get c.objects o)
  where
    by_object : (found : Option Object) → [] ≡ elim found as (λ _. List Notice) [ None ↦ [] | Some object ↦ due_for c zone o object l [] ]
    by_object None = refl
    by_object (Some object) = refl

sup_more : (c : Config) (zone : Zone) (o : ℕ) (e : Event) (past : List Event) → sup c zone o (e ∷ past) ≡ sup c zone o past ++ suppressed_gain c zone e past o
sup_more c zone o e past = by_object (slice_get c.objects o)
  where
    by_object : (found : Option Object) → elim found as (λ _. List Suppression) [ None ↦ [] | Some object ↦ suppressed_for c zone o object (e ∷ past) ]
        ≡ elim found as (λ _. List Suppression) [ None ↦ [] | Some object ↦ suppressed_for c zone o object past ] ++ option_map_or (λ object. suppressed_at c zone o object e past) found []
    by_object None = refl
    by_object (Some object) = refl

sup_none : (c : Config) (zone : Zone) (o : ℕ) → [] ≡ sup c zone o []
sup_none c zone o = by_object (slice_get c.objects o)
  where
    by_object : (found : Option Object) → [] ≡ elim found as (λ _. List Suppression) [ None ↦ [] | Some object ↦ suppressed_for c zone o object [] ]
    by_object None = refl
    by_object (Some object) = refl

module _ (c : Config) (zone : Zone) (share : Share) where
  pub made_is_due : (l o : ℕ) (past : List Event) → is_owned share o ≡ true → o < length c.objects → about o (made_due c zone share l past) ≡ due c zone o l past
  made_is_due l o [] mine within = due_none c zone o l
  made_is_due l o (e ∷ past) mine within =
      filter-append (λ (n : Notice). n.object.0 == o) (made_due c zone share l past) (gained c zone share l e past)
      ∙ ap (λ (front : List Notice). front ++ about o (gained c zone share l e past)) (made_is_due l o past mine within)
      ∙ ap (λ (more : List Notice). due c zone o l past ++ more)
      (one_owned (λ (n : Notice). n.object.0) (gain c zone l e past) (gain_of_one c zone l e past) (is_owned share) o mine 0 (length c.objects) (omega arith) (omega (arith, within)))
      ∙ sym (due_more c zone o l e past)

  pub suppressed_is_sup : (o : ℕ) (past : List Event) → is_owned share o ≡ true → o < length c.objects → of_object o (suppressed c zone share past) ≡ sup c zone o past
  suppressed_is_sup o [] mine within = sup_none c zone o
  suppressed_is_sup o (e ∷ past) mine within =
      filter-append (λ (s : Suppression). s.object.0 == o) (suppressed c zone share past) (suppressed_gained c zone share e past)
      ∙ ap (λ (front : List Suppression). front ++ of_object o (suppressed_gained c zone share e past)) (suppressed_is_sup o past mine within)
      ∙ ap (λ (more : List Suppression). sup c zone o past ++ more)
      (one_owned (λ (s : Suppression). s.object.0) (suppressed_gain c zone e past) (noted_of_one c zone e past) (is_owned share) o mine 0 (length c.objects) (omega arith) (omega (arith, within)))
      ∙ sym (sup_more c zone o e past)

  pub suppressed_is_own : (o : ℕ) (past : List Event) → is_owned share o ≡ false → of_object o (suppressed c zone share past) ≡ []
  suppressed_is_own o [] foreign = refl
  suppressed_is_own o (e ∷ past) foreign =
      filter-append (λ (s : Suppression). s.object.0 == o) (suppressed c zone share past) (suppressed_gained c zone share e past)
      ∙ ap (λ (front : List Suppression). front ++ of_object o (suppressed_gained c zone share e past)) (suppressed_is_own o past foreign)
      ∙ none_owned (λ (s : Suppression). s.object.0) (suppressed_gain c zone e past) (noted_of_one c zone e past) (is_owned share) o foreign (range_with_len 0 (length c.objects))

  -- the numbers of the share are below the number of objects
  owned_below : All (λ k. k < length c.objects) (owned_numbers share (length c.objects))
  owned_below = All-filter (is_owned share) (λ k. k < length c.objects) (range_with_len 0 (length c.objects)) (range_below (length c.objects))

  gained_is_made : (l : ℕ) (e : Event) (past : List Event) → All (IsMade c share l) (gained c zone share l e past)
  gained_is_made l e past =
      All-flat_map (IsMade c share l) (gain c zone l e past) (owned_numbers share (length c.objects))
      (λ i d within.
      let k = get_or (owned_numbers share (length c.objects)) i d in
      let mine = filter_passes (is_owned share) (range_with_len 0 (length c.objects)) i d within in
      let below = owned_below i d within in
      All-weaker (IsOf k l) (IsMade c share l) (λ n h. record {
        owner = ap (λ (m : ℕ). m % share.deciders) h.0 ∙ eqb-true (k % share.deciders) share.decider mine;
        object = subst (λ (m : ℕ). m < length c.objects) (sym h.0) below;
        lane = h.1;
      }) (gain c zone l e past k) (gain_is_of c zone l e past k))

  pub made_is_own : (l : ℕ) (past : List Event) → All (IsMade c share l) (made_due c zone share l past)
  made_is_own l [] = All-nil (IsMade c share l)
  made_is_own l (e ∷ past) = All-append (IsMade c share l) (made_due c zone share l past) (gained c zone share l e past) (made_is_own l past) (gained_is_made l e past)

  -- ---- in order

  -- a suppression of an event before this one, of an object of the configuration
  abbrev IsEarlier : (event : ℕ) → Suppression → Type 0
  IsEarlier event s = (s.event < event) × (s.object.0 < length c.objects)

  noted_below : (e : Event) (past : List Event) → All (λ s. (s.event ≡ length past) × (s.object.0 < length c.objects)) (suppressed_gained c zone share e past)
  noted_below e past =
      All-flat_map (λ s. (s.event ≡ length past) × (s.object.0 < length c.objects)) (suppressed_gain c zone e past) (owned_numbers share (length c.objects))
      (λ i d within.
      let k = get_or (owned_numbers share (length c.objects)) i d in
      let below = owned_below i d within in
      All-weaker (IsNoted k (length past)) (λ s. (s.event ≡ length past) × (s.object.0 < length c.objects)) (λ s h. (h.1, subst (λ (m : ℕ). m < length c.objects) (sym h.0) below)) (suppressed_gain c zone e past k) (noted_gain c zone e past k))

  earlier : (past : List Event) → All (IsEarlier (length past)) (suppressed c zone share past)
  earlier [] = All-nil (IsEarlier 0)
  earlier (e ∷ past) =
      All-append (IsEarlier (length (e ∷ past))) (suppressed c zone share past) (suppressed_gained c zone share e past)
      (All-weaker (IsEarlier (length past)) (IsEarlier (length (e ∷ past))) (λ s h. (let lt = h.0 in omega (arith, lt), h.1)) (suppressed c zone share past) (earlier past))
      (All-weaker (λ s. (s.event ≡ length past) × (s.object.0 < length c.objects)) (IsEarlier (length (e ∷ past))) (λ s h. (let is = h.0 in omega (arith, is), h.1)) (suppressed_gained c zone share e past) (noted_below e past))

  pub suppressed_named : (past : List Event) → All (λ s. s.object.0 < length c.objects) (suppressed c zone share past)
  suppressed_named past = All-weaker (IsEarlier (length past)) (λ s. s.object.0 < length c.objects) (λ s h. h.1) (suppressed c zone share past) (earlier past)

  noted_order : (e : Event) (past : List Event) → IsInOrder (suppressed_gained c zone share e past)
  noted_order e past =
      in_order place (suppressed_gain c zone e past) (λ k. length past * 65_536 + k)
      (λ k. All-weaker (IsNoted k (length past)) (λ s. place s ≡ length past * 65_536 + k) (λ s h. let o = h.0 in let n = h.1 in omega (arith, o, n)) (suppressed_gain c zone e past k) (noted_gain c zone e past k))
      (λ j k lt. omega (arith, lt)) (owned_numbers share (length c.objects))
      (AllPairs-filter (λ j k. j < k) (is_owned share) (range_with_len 0 (length c.objects)) (range_increases 0 (length c.objects)))

  pub suppressed_in_order : (past : List Event) → length c.objects ≤ 65_536 → IsInOrder (suppressed c zone share past)
  suppressed_in_order [] few = AllPairs-nil (λ a b. place a ≤ place b)
  suppressed_in_order (e ∷ past) few =
      AllPairs-append (λ a b. place a ≤ place b) (suppressed c zone share past) (suppressed_gained c zone share e past) (suppressed_in_order past few) (noted_order e past)
      (All-weaker (IsEarlier (length past)) (λ a. All (λ b. place a ≤ place b) (suppressed_gained c zone share e past))
      (λ a h. All-weaker (λ s. (s.event ≡ length past) × (s.object.0 < length c.objects)) (λ b. place a ≤ place b)
      (λ b k. let lt = h.0 in let o = h.1 in let n = k.0 in omega (arith, few, lt, o, n)) (suppressed_gained c zone share e past) (noted_below e past))
      (suppressed c zone share past) (earlier past))
