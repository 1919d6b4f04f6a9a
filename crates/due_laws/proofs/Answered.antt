-- Each attempt is answered: by the notices and the suppressions of its outcome.
use Rattle.std.proofs.Common.{◌≡◌, ℕ, suc, zero, ◌+◌, ◌*◌, ◌<◌, Bool, true, false, not, ◌&&◌, nat_lt, ◌==◌, List, [], ◌∷◌, ◌++◌, length, get_or, filter, flat_map, slice_get, All, Contains, Option, None, Some, MatchOption, if◌then◌else◌, refl, sym, ap, ap₂, ◌∙◌, subst, arith, ◌⊎◌, inl, inr, eq-eqb, ne_eqb, append-nil}
use Rattle.std.specs.List.{AllPairs, AllByRecursion}
use Rattle.std.proofs.lemmas.List.Elements.{filter-append, All-head, All-tail}
use Rattle.due_model.specs.declared.config.Config.{Config}
use Rattle.due_model.specs.declared.config.Contact.{Contact}
use Rattle.due_model.specs.declared.config.Object.{Object}
use Rattle.due_model.specs.declared.event.Event.{Event}
use Rattle.due_model.specs.declared.config.Rights.{Rights}
use Rattle.due_model.specs.declared.notice.Filter.{Filter}
use Rattle.due_model.specs.declared.notice.Filter.TheVariants as why
use Rattle.due_model.specs.declared.notice.Notice.{Notice}
use Rattle.due_model.specs.declared.notice.Suppression.{Suppression}
use Rattle.due_model.specs.declared.zone.Zone.{Zone}
use Rattle.due_model.specs.claims.Due.{uses_lane, notice_to, refusal_of, notices, suppressions, due_at, suppressed_at}
use Rattle.due_model.specs.claims.Histories.{before, ended_at, hist, number_after, told_for, view}
use Rattle.due_laws.specs.Attempts.{is_of_contact, IsSilent, IsStopped, names, IsNotified, IsRefused, ReachesEach, attempt_of_event, receivers_at}
use Rattle.due_model.specs.declared.rules.Attempt.{Attempt}
use Rattle.due_model.specs.declared.rules.View.{View}
use Rattle.due_model.specs.claims.Receivers.{receivers, rights_for}
use Rattle.due_model.specs.declared.options.OptionLetters.{OptionLetters}
use Rattle.due_model.specs.claims.Rules.{asks_options, contact_failing, contact_failing_by, failing, failing_by, first_failing, has_letter, is_untold, letter_of, is_problem, is_recovery, is_of_problem, is_told_in_downtime, is_too_soon}
use Rattle.due_model.specs.claims.Periods.{in_period}
use Rattle.lemmas.proofs.Lists.{AllPairs-head, AllPairs-tail}
use Rattle.lemmas.proofs.Notices.{receivers_increase, the_notice, notice_to_cases}
use Rattle.due_laws.proofs.Verdicts.{attempt_at, outcome_of_cases}

-- the filters of a list that are all of one sort name one of that sort
named_by : (b t : Bool) (g : Filter) (tests : List (Bool × Filter)) → is_of_contact g ≡ b → ((f : Filter) → first_failing tests ≡ Some f → is_of_contact f ≡ b)
    → (f : Filter) → first_failing ((t, g) ∷ tests) ≡ Some f → is_of_contact f ≡ b
named_by b true g tests h later f is = let one : g ≡ f = cc in ap is_of_contact (sym one) ∙ h
named_by b false g tests h later f is = later f is

named : (b : Bool) (tests : List (Bool × Filter)) → AllByRecursion (λ t. is_of_contact t.1 ≡ b) tests → (f : Filter) → first_failing tests ≡ Some f → is_of_contact f ≡ b
named b [] h f is = cc
named b (t ∷ tests) h f is = named_by b t.0 t.1 tests h.0 (named b tests h.1) f is

object_filter_by : (daemons : Bool) (c : Config) (zone : Zone) (v : View) (a : Attempt) (f : Filter) → failing_by daemons c zone v a ≡ Some f → is_of_contact f ≡ false
object_filter_by false c zone v a f is =
    named false
    ((not v.program, why.Program)
    ∷ (not v.enabled, why.Disabled)
    ∷ (not (is_told_in_downtime a.kind) && v.down, why.Downtime)
    ∷ (is_of_problem a.kind && v.flapping, why.Flapping)
    ∷ (asks_options a.kind && not (has_letter v.options (letter_of a.kind a.state)), why.Options)
    ∷ (is_recovery a.kind && v.sent == 0, why.NoProblem)
    ∷ (not (in_period c zone v.period a.moment), why.Period)
    ∷ (is_of_problem a.kind && v.depends, why.Dependency)
    ∷ (is_problem a.kind && v.acknowledged, why.Acknowledged)
    ∷ (is_problem a.kind && v.sent == 0 && nat_lt a.moment (v.began + 60 * v.delay), why.FirstDelay)
    ∷ (is_problem a.kind && not v.renews && is_too_soon v.last a.state a.moment, why.Interval)
    ∷ (is_of_problem a.kind && v.host_problem, why.HostDown)
    ∷ [])
    (refl, (refl, (refl, (refl, (refl, (refl, (refl, (refl, (refl, (refl, (refl, (refl, tt)))))))))))) f is
object_filter_by true c zone v a f is =
    named false
    ((not v.program, why.Program)
    ∷ (not (in_period c zone v.period a.moment), why.Period)
    ∷ (not v.enabled, why.Disabled)
    ∷ (is_problem a.kind && v.acknowledged, why.Acknowledged)
    ∷ (is_of_problem a.kind && v.depends, why.Dependency)
    ∷ (asks_options a.kind && not (has_letter v.options (letter_of a.kind a.state)), why.Options)
    ∷ (is_recovery a.kind && v.sent == 0, why.NoProblem)
    ∷ (is_problem a.kind && v.sent == 0 && nat_lt a.moment (v.began + 60 * v.delay), why.FirstDelay)
    ∷ (is_of_problem a.kind && v.flapping, why.Flapping)
    ∷ (not (is_told_in_downtime a.kind) && v.down, why.Downtime)
    ∷ (is_problem a.kind && not v.renews && is_too_soon v.last a.state a.moment, why.Interval)
    ∷ (is_of_problem a.kind && v.host_problem, why.HostDown)
    ∷ [])
    (refl, (refl, (refl, (refl, (refl, (refl, (refl, (refl, (refl, (refl, (refl, (refl, tt)))))))))))) f is

object_filter : (c : Config) (zone : Zone) (v : View) (a : Attempt) (f : Filter) → failing c zone v a ≡ Some f → is_of_contact f ≡ false
object_filter c zone v a f is = object_filter_by c.choices.order c zone v a f is

contact_filter_by : (daemons : Bool) (c : Config) (zone : Zone) (rights : Rights) (a : Attempt) (told : Option OptionLetters) (f : Filter) → contact_failing_by daemons c zone rights a told ≡ Some f → is_of_contact f ≡ true
contact_filter_by false c zone rights a told f is =
    named true
    ((not rights.enabled, why.ContactDisabled)
    ∷ (not (has_letter rights.options (letter_of a.kind a.state)), why.ContactOptions)
    ∷ (not (in_period c zone rights.period a.moment), why.ContactPeriod)
    ∷ (is_untold told rights.options, why.ContactNotTold)
    ∷ [])
    (refl, (refl, (refl, (refl, tt)))) f is
contact_filter_by true c zone rights a told f is =
    named true
    ((not rights.enabled, why.ContactDisabled)
    ∷ (not (in_period c zone rights.period a.moment), why.ContactPeriod)
    ∷ (not (has_letter rights.options (letter_of a.kind a.state)), why.ContactOptions)
    ∷ (is_untold told rights.options, why.ContactNotTold)
    ∷ [])
    (refl, (refl, (refl, (refl, tt)))) f is

contact_filter : (c : Config) (zone : Zone) (rights : Rights) (a : Attempt) (told : Option OptionLetters) (f : Filter) → contact_failing c zone rights a told ≡ Some f → is_of_contact f ≡ true
contact_filter c zone rights a told f is = contact_filter_by c.choices.order c zone rights a told f is

-- of the pieces of a list only one has elements that pass

none_pass : {A : Type 0} (p : A → Bool) (f : ℕ → List A) (k : ℕ) (ks : List ℕ) → ((j : ℕ) → (j ≡ k → ⊥) → filter p (f j) ≡ []) → All (λ j. k < j) ks → filter p (flat_map f ks) ≡ []
none_pass p f k [] other above = refl
none_pass p f k (j ∷ js) other above =
    let apart : j ≡ k → ⊥ = λ e. let less = All-head (λ j. k < j) j js above in absurd (omega (arith, less, e)) in
    filter-append p (f j) (flat_map f js)
    ∙ ap₂ (λ xs ys. xs ++ ys) (other j apart) (none_pass p f k js other (All-tail (λ j. k < j) j js above))

one_passes : {A : Type 0} (p : A → Bool) (f : ℕ → List A) (k : ℕ) (ks : List ℕ) → ((j : ℕ) → (j ≡ k → ⊥) → filter p (f j) ≡ []) → filter p (f k) ≡ f k
    → AllPairs (λ x y. x < y) ks → Contains ks k → filter p (flat_map f ks) ≡ f k
one_passes p f k [] other self pairs found = absurd (omega (arith, found.1))
one_passes p f k (j ∷ js) other self pairs (zero, within, is) =
    let above : All (λ y. k < y) js = subst (λ x. All (λ y. x < y) js) is (AllPairs-head (λ x y. x < y) j js pairs) in
    filter-append p (f j) (flat_map f js)
    ∙ ap₂ (λ xs ys. xs ++ ys) (ap (λ x. filter p (f x)) is ∙ self) (none_pass p f k js other above)
    ∙ append-nil (f k)
one_passes p f k (j ∷ js) other self pairs (suc i, within, is) =
    let less : j < get_or js i k = AllPairs-head (λ x y. x < y) j js pairs i k (omega (arith, within)) in
    let apart : j ≡ k → ⊥ = λ e. absurd (omega (arith, less, e, is)) in
    filter-append p (f j) (flat_map f js)
    ∙ ap₂ (λ xs ys. xs ++ ys) (other j apart) (one_passes p f k js other self (AllPairs-tail (λ x y. x < y) j js pairs) (i, omega (arith, within), is))

-- the notices to contact k

to_other : (c : Config) (zone : Zone) (o : ℕ) (object : Object) (l event number : ℕ) (a : Attempt) (told : Option OptionLetters) (k j : ℕ) → (j ≡ k → ⊥) → filter (λ (n : Notice). n.contact.0 == k) (notice_to c zone o object l event number a told j) ≡ []
to_other c zone o object l event number a told k j apart =
    notice_to_cases c zone o object l event number a told j (λ xs. filter (λ n. n.contact.0 == k) xs ≡ []) refl
    (ap (λ b. if b then the_notice o l event number a j ∷ [] else []) (ne_eqb j k apart))

to_self : (c : Config) (zone : Zone) (o : ℕ) (object : Object) (l event number : ℕ) (a : Attempt) (told : Option OptionLetters) (k : ℕ)
    → filter (λ (n : Notice). n.contact.0 == k) (notice_to c zone o object l event number a told k) ≡ notice_to c zone o object l event number a told k
to_self c zone o object l event number a told k =
    notice_to_cases c zone o object l event number a told k (λ xs. filter (λ n. n.contact.0 == k) xs ≡ xs) refl
    (ap (λ b. if b then the_notice o l event number a k ∷ [] else []) (eq-eqb k k refl))

-- the suppression that names contact k

abbrev the_refusal : (o event number : ℕ) → Attempt → Filter → ℕ → Suppression
the_refusal o event number a f k =
    record { event = event; moment = a.moment; object = record { 0 = o }; kind = a.kind; state = a.state; number = number; filter = f; contact = Some (record { 0 = k }) }

refusal_by_filter : (o event number : ℕ) (a : Attempt) (k : ℕ) (fails : Option Filter) (P : List Suppression → Type 0) → P [] → ((f : Filter) → P (the_refusal o event number a f k ∷ []))
    → P (elim fails as (λ _. List Suppression) [ None ↦ [] | Some f ↦ the_refusal o event number a f k ∷ [] ])
refusal_by_filter o event number a k None P none one = none
refusal_by_filter o event number a k (Some f) P none one = one f

refusal_by_contact : (c : Config) (zone : Zone) (o : ℕ) (object : Object) (event number : ℕ) (a : Attempt) (told : Option OptionLetters) (k : ℕ) (found : Option Contact) (P : List Suppression → Type 0)
    → P [] → ((f : Filter) → P (the_refusal o event number a f k ∷ []))
    → P (elim found as (λ _. List Suppression) [
      | None ↦ []
      | Some contact ↦ elim (contact_failing c zone (rights_for object contact) a told) as (λ _. List Suppression) [ None ↦ [] | Some f ↦ the_refusal o event number a f k ∷ [] ]
    ])
refusal_by_contact c zone o object event number a told k None P none one = none
refusal_by_contact c zone o object event number a told k (Some contact) P none one = refusal_by_filter o event number a k (contact_failing c zone (rights_for object contact) a told) P none one

refusal_cases : (c : Config) (zone : Zone) (o : ℕ) (object : Object) (event number : ℕ) (a : Attempt) (told : Option OptionLetters) (k : ℕ) (P : List Suppression → Type 0)
    → P [] → ((f : Filter) → P (the_refusal o event number a f k ∷ [])) → P (refusal_of c zone o object event number a told k)
refusal_cases c zone o object event number a told k P none one = refusal_by_contact c zone o object event number a told k (slice_get c.contacts k) P none one

of_other : (c : Config) (zone : Zone) (o : ℕ) (object : Object) (event number : ℕ) (a : Attempt) (told : Option OptionLetters) (k j : ℕ) → (j ≡ k → ⊥) → filter (names k) (refusal_of c zone o object event number a told j) ≡ []
of_other c zone o object event number a told k j apart =
    refusal_cases c zone o object event number a told j (λ xs. filter (names k) xs ≡ []) refl
    (λ f. ap (λ b. if b then the_refusal o event number a f j ∷ [] else []) (ne_eqb j k apart))

of_self : (c : Config) (zone : Zone) (o : ℕ) (object : Object) (event number : ℕ) (a : Attempt) (told : Option OptionLetters) (k : ℕ) → filter (names k) (refusal_of c zone o object event number a told k) ≡ refusal_of c zone o object event number a told k
of_self c zone o object event number a told k =
    refusal_cases c zone o object event number a told k (λ xs. filter (names k) xs ≡ xs) refl
    (λ f. ap (λ b. if b then the_refusal o event number a f k ∷ [] else []) (eq-eqb k k refl))

-- the answer to a contact, by the verdict of its filters

abbrev notice_by : Object → (o l event number : ℕ) → Attempt → (k : ℕ) → Contact → Option Filter → List Notice
notice_by object o l event number a k contact fails =
    elim fails as (λ _. List Notice) [ Some f ↦ [] | None ↦ if uses_lane (rights_for object contact) l then the_notice o l event number a k ∷ [] else [] ]

abbrev refusal_by : (o event number : ℕ) → Attempt → (k : ℕ) → Option Filter → List Suppression
refusal_by o event number a k fails = elim fails as (λ _. List Suppression) [ None ↦ [] | Some f ↦ the_refusal o event number a f k ∷ [] ]

notice_to_known : (c : Config) (zone : Zone) (o : ℕ) (object : Object) (l event number : ℕ) (a : Attempt) (told : Option OptionLetters) (k : ℕ) (contact : Contact) → slice_get c.contacts k ≡ Some contact
    → notice_to c zone o object l event number a told k ≡ notice_by object o l event number a k contact (contact_failing c zone (rights_for object contact) a told)
notice_to_known c zone o object l event number a told k contact h =
    ap (λ found. elim found as (λ _. List Notice) [ None ↦ [] | Some x ↦ notice_by object o l event number a k x (contact_failing c zone (rights_for object x) a told) ]) h

refusal_known : (c : Config) (zone : Zone) (o : ℕ) (object : Object) (event number : ℕ) (a : Attempt) (told : Option OptionLetters) (k : ℕ) (contact : Contact) → slice_get c.contacts k ≡ Some contact
    → refusal_of c zone o object event number a told k ≡ refusal_by o event number a k (contact_failing c zone (rights_for object contact) a told)
refusal_known c zone o object event number a told k contact h =
    ap (λ found. elim found as (λ _. List Suppression) [ None ↦ [] | Some x ↦ refusal_by o event number a k (contact_failing c zone (rights_for object x) a told) ]) h

one_or_none : {A : Type 0} (b : Bool) (x : A) → length (if b then x ∷ [] else []) ≡ (if b then 1 else 0)
one_or_none true x = refl
one_or_none false x = refl

answered_by : (object : Object) (contact : Contact) (o event number : ℕ) (a : Attempt) (k : ℕ) (ns : ℕ → List Notice) (ss : List Suppression) (fails : Option Filter)
    → ((f : Filter) → fails ≡ Some f → is_of_contact f ≡ true)
    → ((l : ℕ) → filter (λ n. n.contact.0 == k) (ns l) ≡ notice_by object o l event number a k contact fails)
    → filter (names k) ss ≡ refusal_by o event number a k fails
    → IsNotified object contact k ns ss ⊎ IsRefused k ns ss
answered_by object contact o event number a k ns ss None sort to of =
    inl (record { notified = λ l. ap length (to l) ∙ one_or_none (uses_lane (rights_for object contact) l) (the_notice o l event number a k); not_refused = of })
answered_by object contact o event number a k ns ss (Some f) sort to of =
    inr (record { not_notified = to; suppression = the_refusal o event number a f k; alone = of; of_contact = sort f refl })

sent_reaches : (c : Config) (zone : Zone) (o : ℕ) (object : Object) (event number : ℕ) (a : Attempt) (told : Option OptionLetters) (standing : ℕ)
    → ReachesEach c object (receivers c zone o object a number standing)
    (λ l. flat_map (notice_to c zone o object l event number a told) (receivers c zone o object a number standing))
    (flat_map (refusal_of c zone o object event number a told) (receivers c zone o object a number standing))
sent_reaches c zone o object event number a told standing = λ k contact among known.
    let ks = receivers c zone o object a number standing in
    let pairs = receivers_increase c zone o object a number standing in
    let fails = contact_failing c zone (rights_for object contact) a told in
    answered_by object contact o event number a k
    (λ l. flat_map (notice_to c zone o object l event number a told) ks) (flat_map (refusal_of c zone o object event number a told) ks) fails
    (λ f is. contact_filter c zone (rights_for object contact) a told f is)
    (λ l. one_passes (λ n. n.contact.0 == k) (notice_to c zone o object l event number a told) k ks
    (λ j apart. to_other c zone o object l event number a told k j apart) (to_self c zone o object l event number a told k) pairs among
    ∙ notice_to_known c zone o object l event number a told k contact known)
    (one_passes (names k) (refusal_of c zone o object event number a told) k ks
    (λ j apart. of_other c zone o object event number a told k j apart) (of_self c zone o object event number a told k) pairs among
    ∙ refusal_known c zone o object event number a told k contact known)

-- each attempt is answered
pub each_answered : (c : Config) (zone : Zone) (o : ℕ) (object : Object) (e : Event) (past : List Event)
    → MatchOption (attempt_of_event c zone o object e past)
    (IsSilent (λ l. due_at c zone o object l e past) (suppressed_at c zone o object e past))
    (λ k. IsStopped (λ l. due_at c zone o object l e past) (suppressed_at c zone o object e past)
    ⊎ ReachesEach c object (receivers_at c zone o object e past k) (λ l. due_at c zone o object l e past) (suppressed_at c zone o object e past))
each_answered c zone o object e past =
    let event = length past in
    let earlier = before o e past (hist c zone o object past) in
    let over = ended_at c zone o object e past (hist c zone o object past) in
    let v = view c zone o object e past earlier over in
    outcome_of_cases c zone o object e past earlier over (attempt_of_event c zone o object e past)
    (λ attempt x. MatchOption attempt
    (IsSilent (λ l. notices c zone o object l event x) (suppressions c zone o object event x))
    (λ k. IsStopped (λ l. notices c zone o object l event x) (suppressions c zone o object event x)
    ⊎ ReachesEach c object (receivers_at c zone o object e past k) (λ l. notices c zone o object l event x) (suppressions c zone o object event x)))
    (record { no_notice = λ l. refl; no_suppression = refl })
    (λ k none. inr (sent_reaches c zone o object event (number_after v.sent k) (attempt_at o e past k) (told_for c object k v.told) v.sent))
    (λ k f is. inl (record {
      no_notice = λ l. refl;
      suppression = record { event = event; moment = (attempt_at o e past k).moment; object = record { 0 = o }; kind = k; state = (attempt_at o e past k).state; number = number_after v.sent k; filter = f; contact = None };
      alone = refl;
      of_object = object_filter c zone v (attempt_at o e past k) f is;
      no_contact = refl;
    }))
