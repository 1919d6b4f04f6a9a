-- What each call makes of a book that fits.
use Rattle.std.proofs.Common.{◌≡◌, ℕ, ◌+◌, max, Bool, true, false, not, ◌&&◌, ◌||◌, List, [], ◌∷◌, Option, Some, None, cond, is_some, if◌then◌else◌, refl, sym, ap, ◌∙◌, subst, add_comm, eq-eqb, arith}
use Rattle.std.proofs.lemmas.List.Sums.{sum_by-cons}
use Rattle.due_model.specs.declared.config.Config.{Config}
use Rattle.due_model.specs.declared.config.Object.{Object}
use Rattle.due_model.specs.declared.event.Event.{Event}
use Rattle.due_model.specs.declared.event.EventKind.{EventKind}
use Rattle.due_model.specs.declared.event.EventKind.TheVariants as event
use Rattle.due_model.specs.declared.notice.Filter.{Filter}
use Rattle.due_model.specs.declared.notice.Filter.TheVariants as filter
use Rattle.due_model.specs.declared.notice.Kind.{Kind}
use Rattle.due_model.specs.declared.notice.Kind.TheVariants as kind
use Rattle.due_model.specs.declared.notice.Outcome.{Outcome}
use Rattle.due_model.specs.declared.notice.Outcome.TheVariants.{Nothing, Sent, Suppressed}
use Rattle.due_model.specs.declared.rules.Last.{Last}
use Rattle.due_model.specs.declared.rules.ObjectStatus.{ObjectStatus}
use Rattle.due_model.specs.declared.state.State.{State}
use Rattle.due_model.specs.declared.zone.Zone.{Zone}
use Rattle.due_model.specs.claims.Readings.{is_problem_of, is_problem_state, moment, hard}
use Rattle.due_model.specs.claims.Changes.{delayed}
use Rattle.due_model.specs.declared.config.Choices.{Choices}
use Rattle.due_model.specs.declared.notice.Reach.{Reach}
use Rattle.due_model.specs.declared.options.OptionLetters.{OptionLetters}
use Rattle.due_model.specs.claims.Rules.{attempted, attempted_by_ack, attempted_by_downtime, attempted_by_flapping, attempted_by_state, has_come, is_problem, next_notice, no_letter, same_state, state_letter, state_number, with_letter}
use Rattle.due_model.specs.claims.Histories.{down_with_host, host_holds, lapses, outcome_of, repeats, status_after, waits_a_while, with_repeat, hist, notice_of, notices_sent, last_notice, ready, ready_or, released_by, retry_after, timed, told_letters}
use Rattle.due_model.specs.claims.Acknowledgements.{acked, takes_back}
use Rattle.problem_count.specs.claims.Book.{BookValues, new_book}
use Rattle.problem_count.specs.Book.{after_hard, after_release, after_sent, retry_by}
use Rattle.problem_count.specs.claims.Fits.{book_of, due_by, released_after, ended_after, problem}
use Rattle.problem_count.specs.Fits.{BookFitsLapsed, BookFitsWithin, FitsNothing, HardFits, LapseFits, SentFits, SuppressedFits, UnheardFits, ReleaseFits, IsNextMoment, book_within, released_in, ended_in, lapsed_in, lapses_at, outcome_at, problem_before}
use Rattle.problem_count.specs.Laws.{is_hard_of, is_of_problem_attempt, OtherEventsFit, OtherOutcomesFit, UntouchedFit, touches}
use Rattle.problem_count.proofs.AttemptLaws.{outcomes_are_by_due, problem_is_attempted, sent_state}

abbrev values : State → (began sent : ℕ) → Option Last → (told : OptionLetters) → (ended : Bool) → (due : Option ℕ) → BookValues
values s began sent last told ended due = record { state = s; began = began; sent = sent; last = last; told = told; ended = ended; due = due }

-- what the definitions say of an object in this state, of which the first delay runs since that moment, whose last problem had these outcomes
abbrev book_by : Config → Zone → Object → State → (began : ℕ) → (released : Option ℕ) → List Outcome → (ended : Bool) → BookValues
book_by c zone object s began released outcomes ended =
    values s began (notices_sent outcomes) (last_notice outcomes) (told_letters outcomes) ended (due_by c zone object s began released outcomes)

pub nothing_fits : FitsNothing new_book
unfolding hist
nothing_fits c zone o object = refl

-- within an event

-- the book within an event, that begins a problem or not, and changes the state or not, and is a hard problem state or not
abbrev within_by : Config → Zone → Object → (hard_problem starts changed : Bool) → State → (t was : ℕ) → (released : Option ℕ) → List Outcome → (ended : Bool) → BookValues
within_by c zone object hard_problem starts changed s t was released outcomes ended =
    (λ (goes_on : List Outcome) (since : ℕ). values s since (notices_sent goes_on) (last_notice goes_on) (told_letters goes_on)
    (ended || (c.choices.reset_wait && changed)) (if hard_problem then None else due_by c zone object s since released goes_on))
    (if starts then [] else outcomes)
    (if (if c.choices.delay then changed else starts) then t else was)

-- a hard state

-- p tells of a problem state, and q of one before it
begun : (c : Config) (zone : Zone) (object : Object) (s : State) (since : ℕ) (released : Option ℕ) (outcomes : List Outcome) (ended p q : Bool)
    → values s since (if p && not q then 0 else notices_sent outcomes) (if p && not q then None else last_notice outcomes)
    (if p && not q then no_letter else told_letters outcomes) ended None
    ≡ (λ (goes_on : List Outcome). values s since (notices_sent goes_on) (last_notice goes_on) (told_letters goes_on) ended
    (if p then None else (if p then ready_or released (ready c zone object since goes_on) else None))) (if p && not q then [] else outcomes)
begun c zone object s since released outcomes ended true true = refl
begun c zone object s since released outcomes ended true false = refl
begun c zone object s since released outcomes ended false true = refl
begun c zone object s since released outcomes ended false false = refl

-- the book within an event that gives an object a hard state, which is this one where b says so
abbrev within_hard : Config → Zone → Object → (s old : State) → (t was : ℕ) → (released : Option ℕ) → List Outcome → (ended b : Bool) → BookValues
within_hard c zone object s old t was released outcomes ended b =
    within_by c zone object (b && is_problem_state s) (b && is_problem_state s && not (is_problem_state old)) (not (same_state (if b then s else old) old))
    (if b then s else old) t was released outcomes ended

pub hard_fits : (choices : Choices) (s : State) (t : ℕ) (old : BookValues) → HardFits choices s t old (after_hard choices s t old)
hard_fits choices s t old c zone o object e past fits chosen is at =
    let was = hard o past in
    let changed = not (same_state s was) in
    let starts = is_problem_state s && not (is_problem_state was) in
    let outcomes = problem c zone o object past in
    let since : ℕ = if (if c.choices.delay then changed else starts) then moment (e ∷ past) else delayed c o past in
    let over : Bool = ended_after c zone o object past in
    ap (after_hard choices s t) fits
    ∙ ap (λ (x : Choices). after_hard x s t (book_of c zone o object past)) chosen
    ∙ ap (λ (m : ℕ). after_hard c.choices s m (book_of c zone o object past)) at
    ∙ begun c zone object s since (released_after c zone o object past) outcomes (over || (c.choices.reset_wait && changed)) (is_problem_state s) (is_problem_state was)
    ∙ sym (ap (within_hard c zone object s was (moment (e ∷ past)) (delayed c o past) (released_after c zone o object past) outcomes over) (eq-eqb o o refl))
    ∙ sym (ap (λ (k : EventKind). (λ (x : Event). book_within c zone o object x past) (record { moment = e.moment; kind = k })) is)

pub hard_fits_by : (choices : Choices) (s : State) (t : ℕ) (old new : BookValues) → new ≡ after_hard choices s t old → HardFits choices s t old new
hard_fits_by choices s t old new is = subst (HardFits choices s t old) (sym is) (hard_fits choices s t old)

-- within an event that gives the object no hard state

still_by : (f : ℕ → Bool → BookValues) (t was : ℕ) (delay reset ended : Bool) → f was ended ≡ f (if (if delay then false else false) then t else was) (ended || (reset && false))
still_by f t was true true true = refl
still_by f t was true true false = refl
still_by f t was true false true = refl
still_by f t was true false false = refl
still_by f t was false true true = refl
still_by f t was false true false = refl
still_by f t was false false true = refl
still_by f t was false false false = refl

unchanged : (s : State) → not (same_state s s) ≡ false
unchanged s = ap not (eq-eqb (state_number s) (state_number s) refl)

still : (c : Config) (zone : Zone) (object : Object) (s : State) (t was : ℕ) (released : Option ℕ) (outcomes : List Outcome) (ended : Bool)
    → book_by c zone object s was released outcomes ended ≡ within_by c zone object false false (not (same_state s s)) s t was released outcomes ended
still c zone object s t was released outcomes ended =
    still_by (λ since over. book_by c zone object s since released outcomes over) t was c.choices.delay c.choices.reset_wait ended
    ∙ sym (ap (λ (x : Bool). within_by c zone object false false x s t was released outcomes ended) (unchanged s))

-- of which the acknowledgement is taken back at this event or isn't
module _ (c : Config) (zone : Zone) (o : ℕ) (object : Object) (m : ℕ) (past : List Event) where
  abbrev from : (takes : Bool) → BookValues
  from takes = within_by c zone object false false (not (same_state (hard o past) (hard o past))) (hard o past) (max (moment past) m) (delayed c o past)
      (released_by false takes (max (moment past) m) (released_after c zone o object past)) (problem c zone o object past) (ended_after c zone o object past)

  abbrev at_kind : EventKind → Event
  at_kind k = record { moment = m; kind = k }

  kept_by_kind : (k : EventKind) → is_hard_of o k ≡ false → takes_back o (at_kind k) past ≡ false → from false ≡ book_within c zone o object (at_kind k) past
  kept_by_kind event.Clock h back = refl
  kept_by_kind (event.Program on) h back = refl
  kept_by_kind (event.Hard p s) h back =
      sym (ap (within_hard c zone object s (hard o past) (max (moment past) m) (delayed c o past) (released_after c zone o object past) (problem c zone o object past) (ended_after c zone o object past)) h)
  kept_by_kind (event.Downtime p change) h back = refl
  kept_by_kind (event.Flapping p starts) h back = refl
  kept_by_kind (event.Ack p ack) h back = refl
  kept_by_kind (event.AckRemoved p) h back = sym (ap from back)
  kept_by_kind (event.OwnSwitch p on) h back = refl

  freed_by_kind : (k : EventKind) → takes_back o (at_kind k) past ≡ true → from true ≡ book_within c zone o object (at_kind k) past
  freed_by_kind event.Clock back = cc
  freed_by_kind (event.Program on) back = cc
  freed_by_kind (event.Hard p s) back = cc
  freed_by_kind (event.Downtime p change) back = cc
  freed_by_kind (event.Flapping p starts) back = cc
  freed_by_kind (event.Ack p ack) back = cc
  freed_by_kind (event.AckRemoved p) back = sym (ap from back)
  freed_by_kind (event.OwnSwitch p on) back = cc

pub other_events_fit : OtherEventsFit
other_events_fit c zone o object e past book fits h back =
    fits
    ∙ still c zone object (hard o past) (max (moment past) e.moment) (delayed c o past) (released_after c zone o object past) (problem c zone o object past) (ended_after c zone o object past)
    ∙ kept_by_kind c zone o object e.moment past e.kind h back

-- an acknowledgement that is taken back

pub release_fits : (t : ℕ) (old : BookValues) → ReleaseFits t old (after_release t old)
release_fits t old c zone o object e past fits back at =
    ap (after_release t) fits
    ∙ ap (λ (m : ℕ). after_release m (book_of c zone o object past)) at
    ∙ still c zone object (hard o past) (moment (e ∷ past)) (delayed c o past) (Some (moment (e ∷ past))) (problem c zone o object past) (ended_after c zone o object past)
    ∙ freed_by_kind c zone o object e.moment past e.kind back

pub release_fits_by : (t : ℕ) (old new : BookValues) → new ≡ after_release t old → ReleaseFits t old new
release_fits_by t old new is = subst (ReleaseFits t old) (sym is) (release_fits t old)

-- when an acknowledgement was taken back, after an event that was an attempt as a problem or wasn't
abbrev released_with : Config → Zone → ℕ → Object → Event → List Event → (attempts : Bool) → Option ℕ
released_with c zone o object e past attempts = released_by attempts (takes_back o e past) (moment (e ∷ past)) (released_after c zone o object past)

-- the book of an object after an event that became this
abbrev more_by : Config → Zone → ℕ → Object → Event → List Event → Outcome → BookValues
more_by c zone o object e past x =
    book_by c zone object (hard o (e ∷ past)) (delayed c o (e ∷ past)) (released_with c zone o object e past (is_of_problem_attempt x)) (x ∷ problem_before c zone o object e past)
    (not (is_some (notice_of x)) && lapsed_in c zone o object e past)

book_more : (c : Config) (zone : Zone) (o : ℕ) (object : Object) (e : Event) (past : List Event)
    → more_by c zone o object e past (outcome_at c zone o object e past) ≡ book_of c zone o object (e ∷ past)
unfolding hist
book_more c zone o object e past = refl

-- so the book after an event is that of one more outcome
after_outcome : (c : Config) (zone : Zone) (o : ℕ) (object : Object) (e : Event) (past : List Event) (x : Outcome) → outcome_at c zone o object e past ≡ x
    → more_by c zone o object e past x ≡ book_of c zone o object (e ∷ past)
after_outcome c zone o object e past x is = sym (ap (more_by c zone o object e past) is) ∙ book_more c zone o object e past

-- an outcome that is of no attempt as a problem

other_sent : (c : Config) (zone : Zone) (object : Object) (s : State) (began : ℕ) (released : Option ℕ) (outcomes : List Outcome) (ended : Bool) (k : Kind) (now : State) (number t gap : ℕ) (reach : Reach)
    → is_problem k ≡ false → book_by c zone object s began released outcomes ended
    ≡ book_by c zone object s began released (Sent k now number t gap reach ∷ outcomes) (not (is_some (notice_of (Sent k now number t gap reach))) && ended)
other_sent c zone object s began released outcomes ended kind.Problem now number t gap reach h = cc
other_sent c zone object s began released outcomes ended kind.Recovery now number t gap reach h = refl
other_sent c zone object s began released outcomes ended kind.FlappingStart now number t gap reach h = refl
other_sent c zone object s began released outcomes ended kind.FlappingStop now number t gap reach h = refl
other_sent c zone object s began released outcomes ended kind.DowntimeStart now number t gap reach h = refl
other_sent c zone object s began released outcomes ended kind.DowntimeEnd now number t gap reach h = refl
other_sent c zone object s began released outcomes ended kind.DowntimeCancelled now number t gap reach h = refl
other_sent c zone object s began released outcomes ended kind.Acknowledgement now number t gap reach h = refl

other_suppressed : (c : Config) (zone : Zone) (object : Object) (s : State) (began : ℕ) (released : Option ℕ) (outcomes : List Outcome) (ended : Bool) (k : Kind) (now : State) (number t : ℕ) (why : Filter) → is_problem k ≡ false
    → book_by c zone object s began released outcomes ended ≡ book_by c zone object s began released (Suppressed k now number t why ∷ outcomes) ended
other_suppressed c zone object s began released outcomes ended kind.Problem now number t why h = cc
other_suppressed c zone object s began released outcomes ended kind.Recovery now number t why h = refl
other_suppressed c zone object s began released outcomes ended kind.FlappingStart now number t why h = refl
other_suppressed c zone object s began released outcomes ended kind.FlappingStop now number t why h = refl
other_suppressed c zone object s began released outcomes ended kind.DowntimeStart now number t why h = refl
other_suppressed c zone object s began released outcomes ended kind.DowntimeEnd now number t why h = refl
other_suppressed c zone object s began released outcomes ended kind.DowntimeCancelled now number t why h = refl
other_suppressed c zone object s began released outcomes ended kind.Acknowledgement now number t why h = refl

other_outcome : (c : Config) (zone : Zone) (object : Object) (s : State) (began : ℕ) (released : Option ℕ) (outcomes : List Outcome) (ended : Bool) (x : Outcome) → is_of_problem_attempt x ≡ false
    → book_by c zone object s began released outcomes ended ≡ book_by c zone object s began released (x ∷ outcomes) (not (is_some (notice_of x)) && ended)
other_outcome c zone object s began released outcomes ended Nothing h = refl
other_outcome c zone object s began released outcomes ended (Sent k now number t gap reach) h = other_sent c zone object s began released outcomes ended k now number t gap reach h
other_outcome c zone object s began released outcomes ended (Suppressed k now number t why) h = other_suppressed c zone object s began released outcomes ended k now number t why h

-- an event that becomes no attempt as a problem is no hard problem state of the object
no_problem_by : (b x : Bool) → (b ≡ true → x ≡ true) → x ≡ false → b ≡ false
no_problem_by true x h is = let one : x ≡ true = h refl in cc
no_problem_by false x h is = refl

pub other_outcomes_fit : OtherOutcomesFit
other_outcomes_fit c zone o object e past book fits h =
    let s = hard o (e ∷ past) in
    let since = delayed c o (e ∷ past) in
    let earlier = problem_before c zone o object e past in
    let over = lapsed_in c zone o object e past in
    let none : is_problem_of o e.kind ≡ false = no_problem_by (is_problem_of o e.kind) (is_of_problem_attempt (outcome_at c zone o object e past)) (problem_is_attempted c zone o object e past) h in
    fits
    ∙ ap (λ (b : Bool). values s since (notices_sent earlier) (last_notice earlier) (told_letters earlier) over (if b then None else due_by c zone object s since (released_in c zone o object e past) earlier)) none
    ∙ other_outcome c zone object s since (released_in c zone o object e past) earlier over (outcome_at c zone o object e past) h
    ∙ sym (ap (λ (b : Bool). book_by c zone object s since (released_with c zone o object e past b) (outcome_at c zone o object e past ∷ earlier)
    (not (is_some (notice_of (outcome_at c zone o object e past))) && over)) h)
    ∙ after_outcome c zone o object e past (outcome_at c zone o object e past) refl

-- what becomes of an event counts for the wait

abbrev pub after_lapse : (lapses : Bool) → BookValues → BookValues
after_lapse lapses book = values book.state book.began book.sent book.last book.told (book.ended || (lapses && waits_a_while book.last)) book.due

pub lapse_fits : (lapses : Bool) (old : BookValues) → LapseFits lapses old (after_lapse lapses old)
lapse_fits lapses old c zone o object e past fits is = ap (after_lapse lapses) fits ∙ ap (λ (b : Bool). after_lapse b (book_within c zone o object e past)) is

pub lapse_fits_by : (lapses : Bool) (old new : BookValues) → new ≡ after_lapse lapses old → LapseFits lapses old new
lapse_fits_by lapses old new is = subst (LapseFits lapses old) (sym is) (lapse_fits lapses old)

or_none : (b : Bool) → (b || false) ≡ b
or_none true = refl
or_none false = refl

-- a book stays as it is where the wait isn't ended
unlapsed : (c : Config) (zone : Zone) (o : ℕ) (object : Object) (e : Event) (past : List Event) (book : BookValues) → BookFitsWithin c zone o object e past book
    → false ≡ lapses_at c zone o object e past → BookFitsLapsed c zone o object e past book
unlapsed c zone o object e past book fits is =
    sym (ap (λ (b : Bool). values book.state book.began book.sent book.last book.told b book.due) (or_none book.ended)) ∙ lapse_fits false book c zone o object e past fits is

-- an event that doesn't touch the object attempts nothing, and gives it no hard state

no_clock : (p come : Bool) → come ≡ false → (if p && come then Some kind.Problem else None) ≡ None
no_clock true come h = ap (λ (b : Bool). if b then Some kind.Problem else None) h
no_clock false come h = refl

untouched_hard : (o : ℕ) (k : EventKind) (due : Option ℕ) (t : ℕ) → touches o k due t ≡ false → is_hard_of o k ≡ false
untouched_hard o event.Clock due t h = refl
untouched_hard o (event.Program on) due t h = refl
untouched_hard o (event.Hard p s) due t h = h
untouched_hard o (event.Downtime p change) due t h = refl
untouched_hard o (event.Flapping p starts) due t h = refl
untouched_hard o (event.Ack p ack) due t h = refl
untouched_hard o (event.AckRemoved p) due t h = refl
untouched_hard o (event.OwnSwitch p on) due t h = refl

untouched_back : (o m : ℕ) (k : EventKind) (past : List Event) (due : Option ℕ) (t : ℕ) → touches o k due t ≡ false → (λ (e : Event). takes_back o e past) (record { moment = m; kind = k }) ≡ false
untouched_back o m event.Clock past due t h = refl
untouched_back o m (event.Program on) past due t h = refl
untouched_back o m (event.Hard p s) past due t h = refl
untouched_back o m (event.Downtime p change) past due t h = refl
untouched_back o m (event.Flapping p starts) past due t h = refl
untouched_back o m (event.Ack p ack) past due t h = refl
untouched_back o m (event.AckRemoved p) past due t h = ap (λ (b : Bool). b && acked o past) h
untouched_back o m (event.OwnSwitch p on) past due t h = refl

timed_out : (b : Bool) (due : Option ℕ) (t : ℕ) → has_come due t ≡ false → has_come (if b then None else due) t ≡ false
timed_out true due t h = refl
timed_out false due t h = h

untouched_attempt : (c : Config) (o : ℕ) (k : EventKind) (old : ObjectStatus) (due : Option ℕ) (t : ℕ) → touches o k due t ≡ false → attempted o k old (timed c due) t ≡ None
untouched_attempt c o event.Clock old due t h = no_clock (is_problem_state old.state) (has_come (timed c due) t) (timed_out c.choices.at_results due t h)
untouched_attempt c o (event.Program on) old due t h = refl
untouched_attempt c o (event.Hard p s) old due t h = ap (λ (b : Bool). if b then attempted_by_state old.state s else None) h
untouched_attempt c o (event.Downtime p change) old due t h = ap (λ (b : Bool). if b then attempted_by_downtime old.depth change else None) h
untouched_attempt c o (event.Flapping p starts) old due t h = ap (λ (b : Bool). if b then attempted_by_flapping old.flapping starts else None) h
untouched_attempt c o (event.Ack p ack) old due t h = ap (λ (b : Bool). if b then attempted_by_ack old.state ack else None) h
untouched_attempt c o (event.AckRemoved p) old due t h = refl
untouched_attempt c o (event.OwnSwitch p on) old due t h = refl

nothing_lapses : (c : Config) (zone : Zone) (o : ℕ) (object : Object) (e : Event) (past : List Event) → outcome_at c zone o object e past ≡ Nothing
    → false ≡ lapses_at c zone o object e past
nothing_lapses c zone o object e past is =
    sym (ap (lapses c zone object (down_with_host o object (e ∷ past)) (host_holds c object (e ∷ past))) is)

pub untouched_fit : UntouchedFit
untouched_fit c zone o object e past book fits h still_host =
    let attempt : Option Kind = attempted o e.kind (status_after o past) (timed c book.due) (moment (e ∷ past)) in
    let runs : Bool = is_problem_state (hard o past) in
    let nothing : outcome_at c zone o object e past ≡ Nothing =
    outcomes_are_by_due c zone o object e past book fits
    ∙ ap (λ (x : Option Kind). outcome_of c zone o object e past (problem_before c zone o object e past) (ended_in c zone o object e past) (with_repeat (repeats c o e.kind past && runs) x))
    (untouched_attempt c o e.kind (status_after o past) book.due (moment (e ∷ past)) h)
    ∙ ap (λ (b : Bool). outcome_of c zone o object e past (problem_before c zone o object e past) (ended_in c zone o object e past) (with_repeat (b && runs) None)) still_host
    in (
      nothing,
      other_outcomes_fit c zone o object e past book
          (unlapsed c zone o object e past book
          (other_events_fit c zone o object e past book fits (untouched_hard o e.kind book.due (moment (e ∷ past)) h)
          (untouched_back o e.moment e.kind past book.due (moment (e ∷ past)) h))
          (nothing_lapses c zone o object e past nothing))
          (ap is_of_problem_attempt nothing),
    )

-- a problem notice that goes out

-- a notice that counts
abbrev heard_so : Reach → Bool → Reach
heard_so reach heard = record { heard = heard; told = reach.told; standing = reach.standing }

abbrev sent_so : (s : State) → (number t gap : ℕ) → Reach → Bool → Outcome
sent_so s number t gap reach heard = Sent kind.Problem s number t gap (heard_so reach heard)

one_more : (s : State) (number t gap : ℕ) (reach : Reach) (outcomes : List Outcome) → notices_sent outcomes + 1 ≡ notices_sent (sent_so s number t gap reach true ∷ outcomes)
one_more s number t gap reach outcomes =
    add_comm (notices_sent outcomes) 1 ∙ sym (sum_by-cons (λ outcome. cond (is_some (notice_of outcome)) 1 0) (sent_so s number t gap reach true) outcomes)

none_more : (s : State) (number t gap : ℕ) (reach : Reach) (outcomes : List Outcome) → notices_sent outcomes ≡ notices_sent (sent_so s number t gap reach false ∷ outcomes)
none_more s number t gap reach outcomes =
    let one = sum_by-cons (λ outcome. cond (is_some (notice_of outcome)) 1 0) (sent_so s number t gap reach false) outcomes in
    omega (arith, one)

-- the book after a problem notice in this state, which counts or not
abbrev sent_by : Config → Zone → Object → State → (began : ℕ) → List Outcome → (ended : Bool) → Outcome → BookValues
sent_by c zone object s began outcomes ended x = book_by c zone object s began None (x ∷ outcomes) (not (is_some (notice_of x)) && ended)

sent_more : (c : Config) (zone : Zone) (object : Object) (s now : State) (began number t gap : ℕ) (reach : Reach) (outcomes : List Outcome) (ended : Bool) → is_problem_state s ≡ true → now ≡ s
    → values s began (notices_sent outcomes + 1) (Some (record { state = s; moment = t; gap = gap })) (with_letter (state_letter s) (told_letters outcomes)) false (next_notice t gap)
    ≡ sent_by c zone object s began outcomes ended (sent_so now number t gap reach true)
sent_more c zone object s now began number t gap reach outcomes ended runs same =
    ap (λ (n : ℕ). values s began n (Some (record { state = s; moment = t; gap = gap })) (with_letter (state_letter s) (told_letters outcomes)) false (next_notice t gap)) (one_more s number t gap reach outcomes)
    ∙ sym (ap (λ (b : Bool). values s began (notices_sent (sent_so s number t gap reach true ∷ outcomes)) (Some (record { state = s; moment = t; gap = gap }))
    (with_letter (state_letter s) (told_letters outcomes)) false (if b then next_notice t gap else None)) runs)
    ∙ sym (ap (λ (x : State). sent_by c zone object s began outcomes ended (sent_so x number t gap reach true)) same)

unheard_more : (c : Config) (zone : Zone) (object : Object) (s now : State) (began number t gap : ℕ) (reach : Reach) (outcomes : List Outcome) (ended : Bool) → is_problem_state s ≡ true
    → values s began (notices_sent outcomes) (last_notice outcomes) (told_letters outcomes) ended (Some (t + 60))
    ≡ sent_by c zone object s began outcomes ended (sent_so now number t gap reach false)
unheard_more c zone object s now began number t gap reach outcomes ended runs =
    ap (λ (n : ℕ). values s began n (last_notice outcomes) (told_letters outcomes) ended (Some (t + 60))) (none_more now number t gap reach outcomes)
    ∙ sym (ap (λ (b : Bool). values s began (notices_sent (sent_so now number t gap reach false ∷ outcomes)) (last_notice outcomes) (told_letters outcomes) ended (if b then Some (t + 60) else None)) runs)

-- an outcome with what is known of whether it counts
known : (x : Outcome) (s : State) (number t gap : ℕ) (reach : Reach) (b : Bool) → x ≡ Sent kind.Problem s number t gap reach → reach.heard ≡ b → x ≡ sent_so s number t gap reach b
known x s number t gap reach b is heard = is ∙ ap (sent_so s number t gap reach) heard

runs_within : (c : Config) (zone : Zone) (o : ℕ) (object : Object) (e : Event) (past : List Event) (old : BookValues) → BookFitsLapsed c zone o object e past old → is_problem_state old.state ≡ true
    → is_problem_state (hard o (e ∷ past)) ≡ true
runs_within c zone o object e past old fits runs = sym (ap (λ (b : BookValues). is_problem_state b.state) fits) ∙ runs

pub sent_fits : (t gap : ℕ) (old : BookValues) → is_problem_state old.state ≡ true → SentFits t gap old (after_sent t gap old)
sent_fits t gap old runs c zone o object e past fits s number reach is heard =
    ap (after_sent t gap) fits
    ∙ sent_more c zone object (hard o (e ∷ past)) s (delayed c o (e ∷ past)) number t gap reach (problem_before c zone o object e past) (lapsed_in c zone o object e past)
    (runs_within c zone o object e past old fits runs) (sent_state c zone o object e past s number t gap reach is)
    ∙ after_outcome c zone o object e past (sent_so s number t gap reach true) (known (outcome_at c zone o object e past) s number t gap reach true is heard)

pub sent_fits_by : (t gap : ℕ) (old new : BookValues) → new ≡ after_sent t gap old → is_problem_state old.state ≡ true → SentFits t gap old new
sent_fits_by t gap old new is runs = subst (SentFits t gap old) (sym is) (sent_fits t gap old runs)

-- the book that `unheard` leaves
abbrev pub after_unheard : (t : ℕ) → BookValues → BookValues
after_unheard t book = values book.state book.began book.sent book.last book.told book.ended (Some (t + 60))

pub unheard_fits : (t : ℕ) (old : BookValues) → is_problem_state old.state ≡ true → UnheardFits t old (after_unheard t old)
unheard_fits t old runs c zone o object e past fits s number gap reach is unheard =
    ap (after_unheard t) fits
    ∙ unheard_more c zone object (hard o (e ∷ past)) s (delayed c o (e ∷ past)) number t gap reach (problem_before c zone o object e past) (lapsed_in c zone o object e past)
    (runs_within c zone o object e past old fits runs)
    ∙ after_outcome c zone o object e past (sent_so s number t gap reach false) (known (outcome_at c zone o object e past) s number t gap reach false is unheard)

pub unheard_fits_by : (t : ℕ) (old new : BookValues) → new ≡ after_unheard t old → is_problem_state old.state ≡ true → UnheardFits t old new
unheard_fits_by t old new is runs = subst (UnheardFits t old) (sym is) (unheard_fits t old runs)

-- a problem that a filter stops

retry_law : (c : Config) (zone : Zone) (object : Object) (began : ℕ) (last : Option Last) (t : ℕ) (next : Option ℕ) (why : Filter) → IsNextMoment c zone object began why t next
    → retry_by last t next why ≡ retry_after c zone object began last t why
retry_law c zone object began last t next filter.Program h = refl
retry_law c zone object began last t next filter.Disabled h = refl
retry_law c zone object began last t next filter.Downtime h = refl
retry_law c zone object began last t next filter.Flapping h = refl
retry_law c zone object began last t next filter.Options h = refl
retry_law c zone object began last t next filter.NoProblem h = refl
retry_law c zone object began last t next filter.Period h = h
retry_law c zone object began last t next filter.Dependency h = refl
retry_law c zone object began last t next filter.Acknowledged h = refl
retry_law c zone object began last t next filter.FirstDelay h = h
retry_law c zone object began last t next filter.Interval h = refl
retry_law c zone object began last t next filter.HostDown h = refl
retry_law c zone object began last t next filter.ContactDisabled h = refl
retry_law c zone object began last t next filter.ContactOptions h = refl
retry_law c zone object began last t next filter.ContactPeriod h = refl
retry_law c zone object began last t next filter.ContactNotTold h = refl

-- the book that `suppressed` leaves
abbrev pub after_suppressed : Filter → (t : ℕ) → (next : Option ℕ) → BookValues → BookValues
after_suppressed why t next book = values book.state book.began book.sent book.last book.told book.ended (retry_by book.last t next why)

pub suppressed_fits : (why : Filter) (t : ℕ) (next : Option ℕ) (old : BookValues) → is_problem_state old.state ≡ true → SuppressedFits why t next old (after_suppressed why t next old)
suppressed_fits why t next old runs c zone o object e past fits s number is at =
    let now = hard o (e ∷ past) in
    let since = delayed c o (e ∷ past) in
    let over = lapsed_in c zone o object e past in
    let earlier = problem_before c zone o object e past in
    let runs_on : is_problem_state now ≡ true = ap is_problem_state (sym (ap (λ (b : BookValues). b.state) fits)) ∙ runs in
    let at_began : IsNextMoment c zone object since why t next = subst (λ (m : ℕ). IsNextMoment c zone object m why t next) (ap (λ (b : BookValues). b.began) fits) at in
    ap (after_suppressed why t next) fits
    ∙ ap (values now since (notices_sent earlier) (last_notice earlier) (told_letters earlier) over) (retry_law c zone object since (last_notice earlier) t next why at_began)
    ∙ sym (ap (λ (b : Bool). values now since (notices_sent earlier) (last_notice earlier) (told_letters earlier) over (if b then retry_after c zone object since (last_notice earlier) t why else None)) runs_on)
    ∙ after_outcome c zone o object e past (Suppressed kind.Problem s number t why) is

pub suppressed_fits_by : (why : Filter) (t : ℕ) (next : Option ℕ) (old new : BookValues) → new ≡ after_suppressed why t next old → is_problem_state old.state ≡ true → SuppressedFits why t next old new
suppressed_fits_by why t next old new is runs = subst (SuppressedFits why t next old) (sym is) (suppressed_fits why t next old runs)
