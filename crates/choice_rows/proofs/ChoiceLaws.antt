-- What each choice means.
use Rattle.std.proofs.Common.{◌≡◌, ℕ, Bool, true, false, not, ◌&&◌, ◌||◌, cond, List, [], ◌∷◌, Option, None, Some, is_some, if◌then◌else◌, refl, ap, ap₂, ◌∙◌, arith}
use Rattle.std.specs.List.{list_any}
use Rattle.std.proofs.lemmas.Bool.{not-false}
use Rattle.std.proofs.lemmas.List.Sums.{sum_by-cons}
use Rattle.due_model.specs.declared.config.Choices.{Choices}
use Rattle.due_model.specs.declared.config.Config.{Config}
use Rattle.due_model.specs.declared.config.Object.{Object}
use Rattle.due_model.specs.declared.notice.Filter.{Filter}
use Rattle.due_model.specs.declared.notice.Filter.TheVariants as why
use Rattle.due_model.specs.declared.notice.Kind.TheVariants as kind
use Rattle.due_model.specs.declared.notice.Outcome.{Outcome}
use Rattle.due_model.specs.declared.notice.Outcome.TheVariants.{Nothing, Sent, Suppressed}
use Rattle.due_model.specs.declared.options.OptionLetters.{OptionLetters}
use Rattle.due_model.specs.declared.config.Rights.{Rights}
use Rattle.due_model.specs.declared.rules.Attempt.{Attempt}
use Rattle.due_model.specs.declared.rules.Last.{Last}
use Rattle.due_model.specs.declared.event.Event.{Event}
use Rattle.due_model.specs.declared.event.EventKind.{EventKind}
use Rattle.due_model.specs.declared.event.EventKind.TheVariants as event
use Rattle.due_model.specs.declared.event.EventKind.TheVariants.{Clock}
use Rattle.due_model.specs.declared.notice.Kind.{Kind}
use Rattle.due_model.specs.declared.zone.Zone.{Zone}
use Rattle.due_model.specs.claims.Changes.{changes, delayed}
use Rattle.due_model.specs.Choices.{own}
use Rattle.due_model.specs.claims.Dependencies.{dependency_fails, fails_at}
use Rattle.due_model.specs.claims.Escalations.{contacts_with, has_contact, reach}
use Rattle.due_model.specs.claims.Histories.{before, down_with_host, ended, ended_at, ended_within, host_holds, is_service_of, lapses, last_notice, notice_of, outcome_of, repeats, told_letters, with_repeat}
use Rattle.due_model.specs.claims.Periods.{in_period}
use Rattle.due_model.specs.claims.Receivers.{passes, receivers}
use Rattle.due_model.specs.claims.Readings.{begins, hard, is_problem_state, moment}
use Rattle.due_model.specs.Readings.{began}
use Rattle.due_model.specs.claims.Rules.{contact_failing_by, failing_by, first_failing, has_come, has_letter, is_problem, is_recovery, letter_of, meets, same_state, state_letter, with_letter}
use Rattle.choice_rows.specs.Laws.{AllAreHeard, ChangesEndTheWait, DelaysRunFromChanges, KnowsNoChoice, LeavesAll, OwnRulesKnowNoChoice, TheClockDoesNothing, ToldLettersAreTaken, UnheardNoticesLeaveAll}

or_last : (a : Bool) → (a || true) ≡ true
or_last true = refl
or_last false = refl

and_none : (a : Bool) → (a && false) ≡ false
and_none true = refl
and_none false = refl

-- an outcome that is no notice
abbrev counted_once : Option Last → ℕ
counted_once seen = cond (is_some seen) 1 0

leaves_all : (x : Outcome) (history : List Outcome) → notice_of x ≡ None → LeavesAll x history
leaves_all x history none =
    let one = sum_by-cons (λ (y : Outcome). cond (is_some (notice_of y)) 1 0) x history in
    let zero : counted_once (notice_of x) ≡ 0 = ap counted_once none in
    record {
      number = omega (arith, one, zero);
      last = ap (λ (last : Option Last). elim last as (λ _. Option Last) [ None ↦ last_notice history | Some l ↦ Some l ]) none;
      told = ap (λ (last : Option Last). elim last as (λ _. OptionLetters) [ None ↦ told_letters history | Some l ↦ with_letter (state_letter l.state) (told_letters history) ]) none;
    }

pub unheard_leaves : UnheardNoticesLeaveAll
unheard_leaves k s number m gap reach history unheard =
    let now : Last = record { state = s; moment = m; gap = gap } in
    leaves_all (Sent k s number m gap reach) history
    (ap (λ (heard : Bool). if is_problem k && heard then Some now else None) unheard ∙ ap (λ (b : Bool). if b then Some now else None) (and_none (is_problem k)))

pub all_heard : AllAreHeard
all_heard c zone o object a number told standing own = ap (λ (nobody : Bool). not nobody || list_any (passes c zone object a told) (receivers c zone o object a number standing)) own

pub changes_end : ChangesEndTheWait
changes_end c zone o object e past history chosen changed =
    let so_far = ended c zone o object past history in
    ap₂ (λ (a b : Bool). so_far || (a && b)) chosen changed ∙ or_last so_far

pub delays_run : DelaysRunFromChanges
delays_run c o e past chosen changed =
    ap (λ (b : Bool). if (if b then changes o e past else begins o e past) then moment (e ∷ past) else delayed c o past) chosen
    ∙ ap (λ (b : Bool). if b then moment (e ∷ past) else delayed c o past) changed

none_by_test : (t : Bool) (f : Filter) (tests : List (Bool × Filter)) → first_failing ((t, f) ∷ tests) ≡ None → (t ≡ false) × (first_failing tests ≡ None)
none_by_test true f tests h = cc
none_by_test false f tests h = (refl, h)

taken_in_order : (daemons : Bool) (c : Config) (zone : Zone) (rights : Rights) (a : Attempt) (told : OptionLetters) → contact_failing_by daemons c zone rights a (Some told) ≡ None → meets told rights.options ≡ true
taken_in_order false c zone rights a told none =
    let t4 : List (Bool × Filter) = (not (meets told rights.options), why.ContactNotTold) ∷ [] in
    let t3 : List (Bool × Filter) = (not (in_period c zone rights.period a.moment), why.ContactPeriod) ∷ t4 in
    let t2 : List (Bool × Filter) = (not (has_letter rights.options (letter_of a.kind a.state)), why.ContactOptions) ∷ t3 in
    let p1 = none_by_test (not rights.enabled) why.ContactDisabled t2 none in
    let p2 = none_by_test (not (has_letter rights.options (letter_of a.kind a.state))) why.ContactOptions t3 p1.1 in
    let p3 = none_by_test (not (in_period c zone rights.period a.moment)) why.ContactPeriod t4 p2.1 in
    let p4 = none_by_test (not (meets told rights.options)) why.ContactNotTold [] p3.1 in
    not-false (meets told rights.options) p4.0
taken_in_order true c zone rights a told none =
    let t4 : List (Bool × Filter) = (not (meets told rights.options), why.ContactNotTold) ∷ [] in
    let t3 : List (Bool × Filter) = (not (has_letter rights.options (letter_of a.kind a.state)), why.ContactOptions) ∷ t4 in
    let t2 : List (Bool × Filter) = (not (in_period c zone rights.period a.moment), why.ContactPeriod) ∷ t3 in
    let p1 = none_by_test (not rights.enabled) why.ContactDisabled t2 none in
    let p2 = none_by_test (not (in_period c zone rights.period a.moment)) why.ContactPeriod t3 p1.1 in
    let p3 = none_by_test (not (has_letter rights.options (letter_of a.kind a.state))) why.ContactOptions t4 p2.1 in
    let p4 = none_by_test (not (meets told rights.options)) why.ContactNotTold [] p3.1 in
    not-false (meets told rights.options) p4.0

pub told_are_taken : ToldLettersAreTaken
told_are_taken c zone rights a told none = taken_in_order c.choices.order c zone rights a told none

-- the clock attempts nothing whose ready moment is never
never : (b p : Bool) (ready : Option ℕ) (t : ℕ) → b ≡ true → (if p && has_come (if b then None else ready) t then Some kind.Problem else None) ≡ None
never true true ready t h = refl
never true false ready t h = refl
never false p ready t h = cc

pub clock_does_nothing : TheClockDoesNothing
clock_does_nothing c zone o m object past history chosen =
    let e : Event = record { moment = m; kind = Clock } in
    ap (λ (kind : Option Kind). outcome_of c zone o object e past (before o e past history) (ended_at c zone o object e past history) (with_repeat false kind))
    (never c.choices.at_results (is_problem_state (hard o past)) _ (moment (e ∷ past)) chosen)

-- ---- this project's rules

and_no : (a b : Bool) → a ≡ false → (a && b) ≡ false
and_no true b h = cc
and_no false b h = refl

no_and : (a b : Bool) → b ≡ false → (a && b) ≡ false
no_and true b h = h
no_and false b h = refl

or_no : (a b : Bool) → b ≡ false → (a || b) ≡ a
or_no true b h = refl
or_no false b h = h

none_or : (a b : Bool) → a ≡ false → b ≡ false → (a || b) ≡ false
none_or true b h i = cc
none_or false b h i = i

module _ (c : Config) (is : c.choices ≡ own) where
  never_again : (o : ℕ) (k : EventKind) (past : List Event) → repeats c o k past ≡ false
  never_again o event.Clock past = refl
  never_again o (event.Program on) past = refl
  never_again o (event.Hard p s) past =
      ap (λ (x : Choices). x.host_repeats && is_service_of c p.0 o && is_problem_state s && same_state s (hard p.0 past)) is
  never_again o (event.Downtime p change) past = refl
  never_again o (event.Flapping p starts) past = refl
  never_again o (event.Ack p ack) past = refl
  never_again o (event.AckRemoved p) past = refl
  never_again o (event.OwnSwitch p on) past = refl

  never_lapses : (zone : Zone) (object : Object) (down held : Bool) (x : Outcome) → lapses c zone object down held x ≡ false
  never_lapses zone object down held Nothing = refl
  never_lapses zone object down held (Sent k s number m gap reach) = refl
  never_lapses zone object down held (Suppressed k s number m f) =
      no_and (not (is_problem k && held)) _
      (none_or _ _ (and_no c.choices.period_wait _ (ap (λ (x : Choices). x.period_wait) is)) (and_no c.choices.downtime_wait _ (ap (λ (x : Choices). x.downtime_wait) is)))

  never_within : (o : ℕ) (e : Event) (past : List Event) (over : Bool) → over ≡ false → ended_within c o e past over ≡ false
  never_within o e past over h = none_or over _ h (and_no c.choices.reset_wait _ (ap (λ (x : Choices). x.reset_wait) is))

  never_ended : (zone : Zone) (o : ℕ) (object : Object) (past : List Event) (history : List Outcome) → ended c zone o object past history ≡ false
  never_ended zone o object [] history = refl
  never_ended zone o object (e ∷ past) [] = refl
  never_ended zone o object (e ∷ past) (x ∷ history) =
      no_and (not (is_some (notice_of x))) _
      (none_or (ended_within c o e past (ended c zone o object past history)) _ (never_within o e past _ (never_ended zone o object past history))
      (and_no (lapses c zone object (down_with_host o object (e ∷ past)) (host_holds c object (e ∷ past)) x) _
      (never_lapses zone object (down_with_host o object (e ∷ past)) (host_holds c object (e ∷ past)) x)))

  delayed_is : (o : ℕ) (past : List Event) → delayed c o past ≡ began o past
  delayed_is o [] = refl
  delayed_is o (e ∷ past) =
      ap (λ (x : Choices). if (if x.delay then changes o e past else begins o e past) then moment (e ∷ past) else delayed c o past) is
      ∙ ap (λ (old : ℕ). if begins o e past then moment (e ∷ past) else old) (delayed_is o past)

  no_choice : KnowsNoChoice c
  no_choice = record {
    host_down = λ object past. and_no c.choices.host_down _ (ap (λ (x : Choices). x.host_down) is);
    host_repeats = never_again;
    host_dep = λ zone o object e past.
        or_no (dependency_fails c zone (λ master. hard master (e ∷ past)) (moment (e ∷ past)) o) _ (and_no c.choices.host_dep _ (ap (λ (x : Choices). x.host_dep) is));
    nobody = λ zone o object a number letters standing. all_heard c zone o object a number letters standing (ap (λ (x : Choices). x.nobody) is);
    told = λ object k letters. ap (λ (x : Choices). if x.told && (is_recovery k && is_some object.host) then Some letters else None) is;
    waits = λ zone o object e past history. never_within o e past (ended c zone o object past history) (never_ended zone o object past history);
    delay = delayed_is;
    esc_other = λ zone o object a standing.
        ap (λ (x : Choices). if x.esc_other && is_problem_state a.state then reach c zone o object standing (state_letter a.state) a.moment else contacts_with c (has_contact object.contacts)) is;
    at_results = λ ready. ap (λ (x : Choices). if x.at_results then None else ready) is;
    dep_pending = λ set s. ap (λ (x : Choices). fails_at x.dep_pending set s) is;
    order = λ zone v a. ap (λ (x : Choices). failing_by x.order c zone v a) is;
    contact_order = λ zone rights a letters. ap (λ (x : Choices). contact_failing_by x.order c zone rights a letters) is;
  }

pub own_rules : OwnRulesKnowNoChoice
own_rules c is = no_choice c is
