-- The notices for a lane among the entries of a share are what the lane gains, and the suppressions what the log gains.
use Rattle.std.proofs.Common.{◌≡◌, ◌≢◌, ℕ, zero, suc, ◌+◌, ◌<◌, ◌≤◌, ◌%◌, Bool, true, cond, ◌==◌, List, [], ◌∷◌, ◌++◌, length, map, filter, flat_map, slice_get, Option, None, Some, refl, ap, ◌∙◌, arith, inl, inr}
use Rattle.std.specs.List.{range_with_len}
use Rattle.std.specs.Option.{option_map_or}
use Rattle.std.proofs.lemmas.Bool.{cases_eq, eq-eqb, ne_eqb}
use Rattle.std.proofs.lemmas.Grind.{flat_map-append}
use Rattle.std.proofs.lemmas.List.{append-nil}
use Rattle.std.proofs.lemmas.List.Elements.{filter-append}
use Rattle.due_model.specs.declared.config.Config.{Config}
use Rattle.due_model.specs.declared.config.Object.{Object}
use Rattle.due_model.specs.declared.event.Event.{Event}
use Rattle.due_model.specs.declared.notice.Notice.{Notice}
use Rattle.due_model.specs.declared.notice.Outcome.{Outcome}
use Rattle.due_model.specs.declared.notice.Outcome.TheVariants as outcome
use Rattle.due_model.specs.declared.notice.Suppression.{Suppression}
use Rattle.due_model.specs.declared.zone.Zone.{Zone}
use Rattle.due_model.specs.claims.Due.{due_at, notice_to, notices, refusal_of, suppressed_at, suppressions}
use Rattle.due_model.specs.claims.Receivers.{receivers}
use Rattle.due_model.specs.claims.Histories.{hist, outcome as outcome_of}
use Rattle.due_model.specs.declared.options.OptionLetters.{OptionLetters}
use Rattle.due_model.specs.declared.rules.Attempt.{Attempt}
use Rattle.lemmas.proofs.Notices.{notice_to_cases}
use Rattle.messages.specs.declared.entries.Entry.{Entry}
use Rattle.messages.specs.declared.entries.Entry.TheVariants.{Sent, Withheld}
use Rattle.decider.specs.declared.share.Share.{Share}
use Rattle.decider.specs.claims.Decider.{gain, gained, suppressed_gain, suppressed_gained}
use Rattle.messages.specs.claims.Entries.{contact_entries, event_entries, object_entries, outcome_entries}
use Rattle.messages.specs.Entries.{is_on, notice_in, notices_in, notices_on, suppression_in, suppressions_in}
use Rattle.decider.specs.Entries.{share_entries}
use Rattle.decider.specs.claims.Share.{IsShare, is_owned, owned_numbers}
use Rattle.lemmas.proofs.Numbers.{flat_flat, flat_alike, flat_nothing}

-- ---- lists of lists

filter_flat : {X A : Type 0} (p : A → Bool) (f : X → List A) (xs : List X) → filter p (flat_map f xs) ≡ flat_map (λ x. filter p (f x)) xs
filter_flat p f [] = refl
filter_flat p f (x ∷ xs) = filter-append p (f x) (flat_map f xs) ∙ ap (λ ys. filter p (f x) ++ ys) (filter_flat p f xs)

-- one number alone gives something: it comes before all of them, or is among them
flat_beyond : {A : Type 0} (f : ℕ → List A) (l : ℕ) → ((k : ℕ) → k ≢ l → f k ≡ []) → (a n : ℕ) → l < a → flat_map f (range_with_len a n) ≡ []
flat_beyond f l others a zero h = refl
flat_beyond f l others a (suc n) h =
    ap (λ ys. ys ++ flat_map f (range_with_len (a + 1) n)) (others a (omega arith)) ∙ flat_beyond f l others (a + 1) n (omega arith)

flat_at : {A : Type 0} (f : ℕ → List A) (l : ℕ) → ((k : ℕ) → k ≢ l → f k ≡ []) → (a n : ℕ) → a ≤ l → l < a + n → flat_map f (range_with_len a n) ≡ f l
flat_at f l others a zero h within = absurd (omega arith)
flat_at f l others a (suc n) h within =
    elim (cases_eq a l) [
      | inl e ↦ ap (λ ys. f a ++ ys) (flat_beyond f l others (a + 1) n (omega arith)) ∙ append-nil (f a) ∙ ap f e
      | inr ne ↦ ap (λ ys. ys ++ flat_map f (range_with_len (a + 1) n)) (others a ne) ∙ flat_at f l others (a + 1) n (omega arith) (omega arith)
    ]

-- ---- the parts of entries

notices_of_sent : (ns : List Notice) → notices_in (map Sent ns) ≡ ns
notices_of_sent [] = refl
notices_of_sent (n ∷ ns) = ap (λ ms. n ∷ ms) (notices_of_sent ns)

notices_of_withheld : (ss : List Suppression) → notices_in (map Withheld ss) ≡ []
notices_of_withheld [] = refl
notices_of_withheld (s ∷ ss) = notices_of_withheld ss

suppressions_of_sent : (ns : List Notice) → suppressions_in (map Sent ns) ≡ []
suppressions_of_sent [] = refl
suppressions_of_sent (n ∷ ns) = suppressions_of_sent ns

suppressions_of_withheld : (ss : List Suppression) → suppressions_in (map Withheld ss) ≡ ss
suppressions_of_withheld [] = refl
suppressions_of_withheld (s ∷ ss) = ap (λ ts. s ∷ ts) (suppressions_of_withheld ss)

-- ---- what an event adds to a lane

on_own_lane : (c : Config) (zone : Zone) (o : ℕ) (object : Object) (event number : ℕ) (a : Attempt) (told : Option OptionLetters) (k l m : ℕ)
    → (m ≡ l → filter (is_on l) (notice_to c zone o object m event number a told k) ≡ notice_to c zone o object m event number a told k)
    × (m ≢ l → filter (is_on l) (notice_to c zone o object m event number a told k) ≡ [])
on_own_lane c zone o object event number a told k l m = (
  λ e. notice_to_cases c zone o object m event number a told k (λ ns. filter (is_on l) ns ≡ ns) refl (rw (eq-eqb m l e) refl),
  λ ne. notice_to_cases c zone o object m event number a told k (λ ns. filter (is_on l) ns ≡ []) refl (rw (ne_eqb m l ne) refl),
)

contact_notices : (c : Config) (zone : Zone) (o : ℕ) (object : Object) (event number : ℕ) (a : Attempt) (told : Option OptionLetters) (l k : ℕ) → l < length c.lanes
    → filter (is_on l) (notices_in (contact_entries c zone o object event number a told k)) ≡ notice_to c zone o object l event number a told k
contact_notices c zone o object event number a told l k h =
    let gives : ℕ → List Notice = λ m. notice_to c zone o object m event number a told k in
    let lanes = range_with_len 0 (length c.lanes) in
    let refused = refusal_of c zone o object event number a told k in
    let among : notices_in (contact_entries c zone o object event number a told k) ≡ flat_map gives lanes =
    flat_map-append notice_in (map Withheld refused) (flat_map (λ m. map Sent (gives m)) lanes)
    ∙ ap (λ ns. ns ++ notices_in (flat_map (λ m. map Sent (gives m)) lanes)) (notices_of_withheld refused)
    ∙ flat_flat (λ m. map Sent (gives m)) notice_in lanes
    ∙ flat_alike (λ m. notices_in (map Sent (gives m))) gives (λ m. notices_of_sent (gives m)) lanes
    in
    ap (filter (is_on l)) among ∙ filter_flat (is_on l) gives lanes
    ∙ flat_at (λ m. filter (is_on l) (gives m)) l (λ m ne. (on_own_lane c zone o object event number a told k l m).1 ne) 0 (length c.lanes) (omega arith) (omega arith)
    ∙ (on_own_lane c zone o object event number a told k l l).0 refl

outcome_notices : (c : Config) (zone : Zone) (o : ℕ) (object : Object) (event l : ℕ) (x : Outcome) → l < length c.lanes
    → filter (is_on l) (notices_in (outcome_entries c zone o object event x)) ≡ notices c zone o object l event x
outcome_notices c zone o object event l outcome.Nothing h = refl
outcome_notices c zone o object event l (outcome.Sent k state number moment gap reach) h =
    let a : Attempt = record { kind = k; state = state; moment = moment } in
    let told = reach.told in
    let ks = receivers c zone o object a number reach.standing in
    let has : ℕ → List Entry = contact_entries c zone o object event number a told in
    ap (filter (is_on l)) (flat_flat has notice_in ks) ∙ filter_flat (is_on l) (λ k. notices_in (has k)) ks
    ∙ flat_alike (λ k. filter (is_on l) (notices_in (has k))) (notice_to c zone o object l event number a told) (λ k. contact_notices c zone o object event number a told l k h) ks
outcome_notices c zone o object event l (outcome.Suppressed k state number moment why) h = refl

object_notices : (c : Config) (zone : Zone) (e : Event) (past : List Event) (l o : ℕ) → l < length c.lanes
    → filter (is_on l) (notices_in (object_entries c zone e past o)) ≡ gain c zone l e past o
object_notices c zone e past l o h = by_object (slice_get c.objects o)
  where
    by_object : (found : Option Object)
        → filter (is_on l) (notices_in (option_map_or (λ object. outcome_entries c zone o object (length past) (outcome_of c zone o object e past (hist c zone o object past))) found []))
        ≡ option_map_or (λ object. due_at c zone o object l e past) found []
    by_object None = refl
    by_object (Some object) = outcome_notices c zone o object (length past) l (outcome_of c zone o object e past (hist c zone o object past)) h

-- ---- what it adds to the log

contact_suppressions : (c : Config) (zone : Zone) (o : ℕ) (object : Object) (event number : ℕ) (a : Attempt) (told : Option OptionLetters) (k : ℕ)
    → suppressions_in (contact_entries c zone o object event number a told k) ≡ refusal_of c zone o object event number a told k
contact_suppressions c zone o object event number a told k =
    let gives : ℕ → List Notice = λ m. notice_to c zone o object m event number a told k in
    let lanes = range_with_len 0 (length c.lanes) in
    let refused = refusal_of c zone o object event number a told k in
    flat_map-append suppression_in (map Withheld refused) (flat_map (λ m. map Sent (gives m)) lanes)
    ∙ ap (λ ss. ss ++ suppressions_in (flat_map (λ m. map Sent (gives m)) lanes)) (suppressions_of_withheld refused)
    ∙ ap (λ ss. refused ++ ss) (flat_flat (λ m. map Sent (gives m)) suppression_in lanes
    ∙ flat_nothing (λ m. suppressions_in (map Sent (gives m))) (λ m. suppressions_of_sent (gives m)) lanes)
    ∙ append-nil refused

outcome_suppressions : (c : Config) (zone : Zone) (o : ℕ) (object : Object) (event : ℕ) (x : Outcome)
    → suppressions_in (outcome_entries c zone o object event x) ≡ suppressions c zone o object event x
outcome_suppressions c zone o object event outcome.Nothing = refl
outcome_suppressions c zone o object event (outcome.Sent k state number moment gap reach) =
    let a : Attempt = record { kind = k; state = state; moment = moment } in
    let told = reach.told in
    let ks = receivers c zone o object a number reach.standing in
    let has : ℕ → List Entry = contact_entries c zone o object event number a told in
    flat_flat has suppression_in ks
    ∙ flat_alike (λ k. suppressions_in (has k)) (refusal_of c zone o object event number a told) (λ k. contact_suppressions c zone o object event number a told k) ks
outcome_suppressions c zone o object event (outcome.Suppressed k state number moment why) = refl

object_suppressions : (c : Config) (zone : Zone) (e : Event) (past : List Event) (o : ℕ) → suppressions_in (object_entries c zone e past o) ≡ suppressed_gain c zone e past o
object_suppressions c zone e past o = by_object (slice_get c.objects o)
  where
    by_object : (found : Option Object)
        → suppressions_in (option_map_or (λ object. outcome_entries c zone o object (length past) (outcome_of c zone o object e past (hist c zone o object past))) found [])
        ≡ option_map_or (λ object. suppressed_at c zone o object e past) found []
    by_object None = refl
    by_object (Some object) = outcome_suppressions c zone o object (length past) (outcome_of c zone o object e past (hist c zone o object past))

-- ---- what an event adds for a share

-- the notices for a lane that has its place in the configuration
pub share_notices : (c : Config) (zone : Zone) (share : Share) (e : Event) (past : List Event) (l : ℕ) → l < length c.lanes
    → notices_on l (share_entries c zone share e past) ≡ gained c zone share l e past
share_notices c zone share e past l h =
    let numbers = owned_numbers share (length c.objects) in
    ap (filter (is_on l)) (flat_flat (object_entries c zone e past) notice_in numbers)
    ∙ filter_flat (is_on l) (λ o. notices_in (object_entries c zone e past o)) numbers
    ∙ flat_alike (λ o. filter (is_on l) (notices_in (object_entries c zone e past o))) (gain c zone l e past) (λ o. object_notices c zone e past l o h) numbers

pub share_suppressions : (c : Config) (zone : Zone) (share : Share) (e : Event) (past : List Event)
    → suppressions_in (share_entries c zone share e past) ≡ suppressed_gained c zone share e past
share_suppressions c zone share e past =
    let numbers = owned_numbers share (length c.objects) in
    flat_flat (object_entries c zone e past) suppression_in numbers
    ∙ flat_alike (λ o. suppressions_in (object_entries c zone e past o)) (suppressed_gain c zone e past) (λ o. object_suppressions c zone e past o) numbers

-- ---- one decider decides all objects

filter_all : {X : Type 0} (p : X → Bool) (xs : List X) → ((x : X) → p x ≡ true) → filter p xs ≡ xs
filter_all p [] h = refl
filter_all p (x ∷ xs) h = ap (λ t. cond t (x ∷ filter p xs) (filter p xs)) (h x) ∙ ap (λ ys. x ∷ ys) (filter_all p xs h)

owns_all : (share : Share) → IsShare share → share.deciders ≡ 1 → (o : ℕ) → is_owned share o ≡ true
owns_all share is alone o =
    let first : share.decider ≡ 0 = omega (arith, is.decider, alone) in
    ap (λ n. (o % n) == share.decider) alone ∙ eq-eqb (o % 1) share.decider (omega (arith, first))

pub all_entries : (c : Config) (zone : Zone) (share : Share) (e : Event) (past : List Event) → IsShare share → share.deciders ≡ 1
    → share_entries c zone share e past ≡ event_entries c zone e past
all_entries c zone share e past is alone =
    ap (flat_map (object_entries c zone e past)) (filter_all (is_owned share) (range_with_len 0 (length c.objects)) (owns_all share is alone))
