-- Where a problem begins, over the whole list of events in the order of the feed.
use Rattle.std.proofs.Common.{◌≡◌, ℕ, suc, ◌+◌, ◌-◌, true, false, not, ◌&&◌, ◌==◌, List, [], ◌∷◌, ◌++◌, length, reverse, take, is_some, All, if◌then◌else◌, refl, sym, ap, ap₂, ◌∙◌, subst, arith, ◌⊎◌, inl, inr, ⊎_elim, append_assoc}
use Rattle.std.proofs.lemmas.Bool.{cond-true, cond-false, cond_both, cases_Bool, and_parts, and_left, and_right, false≢true, not_from_true, not_from_false}
use Rattle.std.proofs.lemmas.List.{reverse-append, reverse-reverse, length-reverse, length-append, take_at}
use Rattle.std.proofs.lemmas.List.Elements.{All-nil, All-cons, All-head, All-tail, All-append, All-take}
use Rattle.due_model.specs.declared.event.Event.{Event}
use Rattle.due_model.specs.declared.event.EventKind.{EventKind}
use Rattle.due_model.specs.declared.event.EventKind.TheVariants.{Clock, Program, Hard, Downtime, Flapping, Ack, AckRemoved, OwnSwitch}
use Rattle.due_model.specs.declared.notice.Outcome.{Outcome}
use Rattle.due_model.specs.declared.state.State.{State}
use Rattle.due_model.specs.declared.state.State.TheVariants as state
use Rattle.due_model.specs.claims.Histories.{of_problem, notice_of, notices_sent}
use Rattle.due_model.specs.Acknowledgements.{is_ok_of}
use Rattle.due_laws.specs.Readings.{is_pending, is_pending_event, IsBegin}
use Rattle.due_model.specs.claims.Readings.{moment, hard, hard_after, begins, is_ok_state, is_problem_state, is_problem_of}
use Rattle.due_model.specs.Readings.{began}
use Rattle.lemmas.proofs.Lists.{All-reverse}
use Rattle.due_laws.proofs.ReadingLaws.{reverse_split, count-reverse}
use Rattle.due_laws.proofs.Verdicts.{and_second}

abbrev NoneOk : ℕ → List Event → Type 0
NoneOk o events = All (λ e. is_ok_of o e.kind ≡ false) events

abbrev NonePending : List Event → Type 0
NonePending events = All (λ e. is_pending_event e.kind ≡ false) events

problem_state : (s : State) → is_ok_state s ≡ false → is_pending s ≡ false → is_problem_state s ≡ true
problem_state state.Pending ok pending = cc
problem_state state.Up ok pending = cc
problem_state state.Down ok pending = refl
problem_state state.Unreachable ok pending = refl
problem_state state.Fine ok pending = cc
problem_state state.Warning ok pending = refl
problem_state state.Unknown ok pending = refl
problem_state state.Critical ok pending = refl

not_ok_state : (s : State) → is_problem_state s ≡ true → is_ok_state s ≡ false
not_ok_state state.Pending h = cc
not_ok_state state.Up h = cc
not_ok_state state.Down h = refl
not_ok_state state.Unreachable h = refl
not_ok_state state.Fine h = cc
not_ok_state state.Warning h = refl
not_ok_state state.Unknown h = refl
not_ok_state state.Critical h = refl

-- a hard problem state of the object is its state then
after_problem : (o : ℕ) (k : EventKind) (old : State) → is_problem_of o k ≡ true → is_problem_state (hard_after o k old) ≡ true
after_problem o Clock old h = cc
after_problem o (Program on) old h = cc
after_problem o (Hard p s) old h =
    let parts = and_parts (p.0 == o) (is_problem_state s) h in
    ap is_problem_state (cond-true (p.0 == o) s old parts.0) ∙ parts.1
after_problem o (Downtime p change) old h = cc
after_problem o (Flapping p starts) old h = cc
after_problem o (Ack p ack) old h = cc
after_problem o (AckRemoved p) old h = cc
after_problem o (OwnSwitch p on) old h = cc

-- what is neither OK nor pending leaves a problem
keeps_problem : (o : ℕ) (k : EventKind) (old : State) → is_ok_of o k ≡ false → is_pending_event k ≡ false → is_problem_state old ≡ true → is_problem_state (hard_after o k old) ≡ true
keeps_problem o Clock old ok pending was = was
keeps_problem o (Program on) old ok pending was = was
keeps_problem o (Hard p s) old ok pending was =
    cond_both (p.0 == o) s old (λ x. is_problem_state x ≡ true)
    (λ same. problem_state s (and_second (p.0 == o) (is_ok_state s) ok same) pending) (λ _. was)
keeps_problem o (Downtime p change) old ok pending was = was
keeps_problem o (Flapping p starts) old ok pending was = was
keeps_problem o (Ack p ack) old ok pending was = was
keeps_problem o (AckRemoved p) old ok pending was = was
keeps_problem o (OwnSwitch p on) old ok pending was = was

not_ok_of : (o : ℕ) (k : EventKind) → is_problem_of o k ≡ true → is_ok_of o k ≡ false
not_ok_of o Clock h = refl
not_ok_of o (Program on) h = refl
not_ok_of o (Hard p s) h = and_right (p.0 == o) (is_ok_state s) (not_ok_state s (and_parts (p.0 == o) (is_problem_state s) h).1)
not_ok_of o (Downtime p change) h = refl
not_ok_of o (Flapping p starts) h = refl
not_ok_of o (Ack p ack) h = refl
not_ok_of o (AckRemoved p) h = refl
not_ok_of o (OwnSwitch p on) h = refl

-- a problem state comes of a problem event, or was there before
problem_before : (o : ℕ) (k : EventKind) (old : State) → is_problem_state (hard_after o k old) ≡ true → (is_problem_of o k ≡ true) ⊎ ((is_problem_state old ≡ true) × (is_ok_of o k ≡ false))
problem_before o Clock old h = inr (h, refl)
problem_before o (Program on) old h = inr (h, refl)
problem_before o (Hard p s) old h =
    ⊎_elim (λ same. inl (ap₂ (λ x y. x && y) same (ap is_problem_state (sym (cond-true (p.0 == o) s old same)) ∙ h)))
    (λ other. inr (ap is_problem_state (sym (cond-false (p.0 == o) s old other)) ∙ h, and_left (p.0 == o) (is_ok_state s) other))
    (cases_Bool (p.0 == o))
problem_before o (Downtime p change) old h = inr (h, refl)
problem_before o (Flapping p starts) old h = inr (h, refl)
problem_before o (Ack p ack) old h = inr (h, refl)
problem_before o (AckRemoved p) old h = inr (h, refl)
problem_before o (OwnSwitch p on) old h = inr (h, refl)

-- a problem runs while no event is OK
problem_runs : (o : ℕ) (b : Event) (earlier later : List Event) → is_problem_of o b.kind ≡ true → NoneOk o later → NonePending later → is_problem_state (hard o (later ++ b ∷ earlier)) ≡ true
problem_runs o b earlier [] problem ok pending = after_problem o b.kind (hard o earlier) problem
problem_runs o b earlier (e ∷ later) problem ok pending =
    keeps_problem o e.kind (hard o (later ++ b ∷ earlier)) (All-head (λ e. is_ok_of o e.kind ≡ false) e later ok) (All-head (λ e. is_pending_event e.kind ≡ false) e later pending)
    (problem_runs o b earlier later problem (All-tail (λ e. is_ok_of o e.kind ≡ false) e later ok) (All-tail (λ e. is_pending_event e.kind ≡ false) e later pending))

-- so none begins meanwhile
none_begins : (o : ℕ) (b e : Event) (earlier later : List Event) → is_problem_of o b.kind ≡ true → NoneOk o later → NonePending later → begins o e (later ++ b ∷ earlier) ≡ false
none_begins o b e earlier later problem ok pending =
    and_right (is_problem_of o e.kind) (not (is_problem_state (hard o (later ++ b ∷ earlier)))) (not_from_true (is_problem_state (hard o (later ++ b ∷ earlier))) (problem_runs o b earlier later problem ok pending))

-- all but the newest
abbrev older : List Event → List Event
older [] = []
older (e ∷ later) = later

began_same : (o : ℕ) (b : Event) (earlier later : List Event) → is_problem_of o b.kind ≡ true → NoneOk o (older later) → NonePending later → began o (later ++ b ∷ earlier) ≡ began o (b ∷ earlier)
began_same o b earlier [] problem ok pending = refl
began_same o b earlier (e ∷ later) problem ok pending =
    let rest = All-tail (λ e. is_pending_event e.kind ≡ false) e later pending in
    cond-false (begins o e (later ++ b ∷ earlier)) (moment (e ∷ later ++ b ∷ earlier)) (began o (later ++ b ∷ earlier)) (none_begins o b e earlier later problem ok rest)
    ∙ began_same o b earlier later problem (none_older later ok) rest
  where
    none_older : (later : List Event) → NoneOk o later → NoneOk o (older later)
    none_older [] h = h
    none_older (e ∷ later) h = All-tail (λ e. is_ok_of o e.kind ≡ false) e later h

problem_same : (o : ℕ) (b : Event) (earlier later : List Event) (x : Outcome) (before_it from_it : List Outcome) → is_problem_of o b.kind ≡ true → begins o b earlier ≡ true
    → NoneOk o (older later) → NonePending later → length from_it ≡ length later
    → of_problem o (later ++ b ∷ earlier) (from_it ++ x ∷ before_it) ≡ from_it ++ x ∷ []
problem_same o b earlier [] x before_it [] problem begun ok pending same = ap (λ t. x ∷ (if t then [] else of_problem o earlier before_it)) begun
problem_same o b earlier [] x before_it (y ∷ from_it) problem begun ok pending same = absurd (omega (arith, same))
problem_same o b earlier (e ∷ later) x before_it [] problem begun ok pending same = absurd (omega (arith, same))
problem_same o b earlier (e ∷ later) x before_it (y ∷ from_it) problem begun ok pending same =
    let rest = All-tail (λ e. is_pending_event e.kind ≡ false) e later pending in
    ap (λ t. y ∷ (if t then [] else of_problem o (later ++ b ∷ earlier) (from_it ++ x ∷ before_it))) (none_begins o b e earlier later problem ok rest)
    ∙ ap (λ xs. y ∷ xs) (problem_same o b earlier later x before_it from_it problem begun (none_older later ok) rest (omega (arith, same)))
  where
    none_older : (later : List Event) → NoneOk o later → NoneOk o (older later)
    none_older [] h = h
    none_older (e ∷ later) h = All-tail (λ e. is_ok_of o e.kind ≡ false) e later h

-- all but the last, in the order of the feed

but_last : {X : Type 0} (front : List X) (z : X) → take (length (front ++ z ∷ []) - 1) (front ++ z ∷ []) ≡ front
but_last front z = take_at front (z ∷ []) (length (front ++ z ∷ []) - 1) (omega (arith, length-append front (z ∷ [])))

abbrev IsPushed : {X : Type 0} → List X → Type 0
IsPushed {X} xs = (front : List X) × (z : X) × (xs ≡ front ++ z ∷ [])

pushed : {X : Type 0} (xs ys : List X) → reverse xs ≡ ys → (xs ≡ []) ⊎ IsPushed xs
pushed xs [] h = inl (sym (reverse-reverse xs) ∙ ap reverse h)
pushed xs (y ∷ ys) h = inr (reverse ys, y, sym (reverse-reverse xs) ∙ ap reverse h ∙ reverse-append (y ∷ []) ys)

none_ok_older : (o : ℕ) (later : List Event) → All (λ e. is_ok_of o e.kind ≡ false) (take (length later - 1) later) → NoneOk o (older (reverse later))
none_ok_older o later h =
    ⊎_elim (λ none. subst (λ xs. NoneOk o (older (reverse xs))) (sym none) (All-nil (λ (e : Event). is_ok_of o e.kind ≡ false)))
    (λ some.
    let front = some.0 in
    let kept : NoneOk o front = subst (NoneOk o) (but_last front some.1) (subst (λ xs. NoneOk o (take (length xs - 1) xs)) some.2 h) in
    let split : reverse later ≡ some.1 ∷ reverse front = ap reverse some.2 ∙ reverse-append front (some.1 ∷ []) in
    subst (λ xs. NoneOk o (older xs)) (sym split) (All-reverse (λ (e : Event). is_ok_of o e.kind ≡ false) front kept))
    (pushed later (reverse later) refl)

-- events that aren't OK, then one that isn't, then some of which only the last may be
none_ok_joined : (o : ℕ) (rest : List Event) (b : Event) (later : List Event) → NoneOk o rest → is_ok_of o b.kind ≡ false → NoneOk o (take (length later - 1) later)
    → NoneOk o (take (length (rest ++ b ∷ later) - 1) (rest ++ b ∷ later))
none_ok_joined o rest b later ok b_ok h =
    let P : Event → Type 0 = λ e. is_ok_of o e.kind ≡ false in
    ⊎_elim (λ none. subst (λ xs. NoneOk o (take (length (rest ++ b ∷ xs) - 1) (rest ++ b ∷ xs))) (sym none) (subst (NoneOk o) (sym (but_last rest b)) ok))
    (λ some.
    let front = some.0 in
    let z = some.1 in
    let kept : NoneOk o front = subst (NoneOk o) (but_last front z) (subst (λ xs. NoneOk o (take (length xs - 1) xs)) some.2 h) in
    let joined : rest ++ b ∷ later ≡ (rest ++ b ∷ front) ++ z ∷ [] = ap (λ xs. rest ++ b ∷ xs) some.2 ∙ sym (append_assoc rest (b ∷ front) (z ∷ [])) in
    subst (λ xs. NoneOk o (take (length xs - 1) xs)) (sym joined)
    (subst (NoneOk o) (sym (but_last (rest ++ b ∷ front) z)) (All-append P rest (b ∷ front) ok (All-cons P b front b_ok kept))))
    (pushed later (reverse later) refl)

-- the last hard event of the object, where that is a problem
record LastHard (o : ℕ) (past newer : List Event) (x : Event) (rest : List Event) : Type 0 where
  split : past ≡ newer ++ x ∷ rest
  problem : is_problem_of o x.kind ≡ true
  none_ok : NoneOk o newer

abbrev HasLastHard : ℕ → List Event → Type 0
HasLastHard o past = (newer : List Event) × (x : Event) × (rest : List Event) × LastHard o past newer x rest

last_hard : (o : ℕ) (past : List Event) → is_problem_state (hard o past) ≡ true → HasLastHard o past
last_hard o [] h = cc
last_hard o (e ∷ past) h =
    ⊎_elim (λ here. ([], e, past, record { split = refl; problem = here; none_ok = All-nil (λ (e : Event). is_ok_of o e.kind ≡ false) }))
    (λ there.
    let w = last_hard o past there.0 in (
      e ∷ w.0,
      w.1,
      w.2,
      record {
        split = ap (λ xs. e ∷ xs) w.3.split;
        problem = w.3.problem;
        none_ok = All-cons (λ (e : Event). is_ok_of o e.kind ≡ false) e w.0 there.1 w.3.none_ok;
      },
    ))
    (problem_before o e.kind (hard o past) h)

-- before the least such event no problem ran
no_problem_before : (o : ℕ) (earlier : List Event) (b : Event) (later : List Event) → IsBegin o earlier b later → is_problem_state (hard o (reverse earlier)) ≡ true → ⊥
no_problem_before o earlier b later begin h =
    let w = last_hard o (reverse earlier) h in
    let rest = reverse w.0 in
    let split : earlier ≡ reverse w.2 ++ w.1 ∷ rest = sym (reverse-reverse earlier) ∙ ap reverse w.3.split ∙ reverse_split w.0 w.1 w.2 in
    begin.least (reverse w.2) w.1 rest split (record {
      problem = w.3.problem;
      unbroken = none_ok_joined o rest b later (All-reverse (λ (e : Event). is_ok_of o e.kind ≡ false) w.0 w.3.none_ok) (not_ok_of o b.kind begin.such.problem) begin.such.unbroken;
    })

it_begins : (o : ℕ) (earlier : List Event) (b : Event) (later : List Event) → IsBegin o earlier b later → begins o b (reverse earlier) ≡ true
it_begins o earlier b later begin =
    let before = is_problem_state (hard o (reverse earlier)) in
    let none : before ≡ false = ⊎_elim (λ yes. absurd (no_problem_before o earlier b later begin yes)) (λ no. no) (cases_Bool before) in
    ap₂ (λ x y. x && y) begin.such.problem (not_from_false before none)

later_pending : (earlier : List Event) (b : Event) (later : List Event) → NonePending (earlier ++ b ∷ later) → NonePending later
later_pending [] b later h = All-tail (λ (e : Event). is_pending_event e.kind ≡ false) b later h
later_pending (e ∷ earlier) b later h = later_pending earlier b later (All-tail (λ (e : Event). is_pending_event e.kind ≡ false) e (earlier ++ b ∷ later) h)

pub begin_at_moment : (o : ℕ) (earlier : List Event) (b : Event) (later : List Event) → NonePending (earlier ++ b ∷ later) → IsBegin o earlier b later
    → began o (reverse (earlier ++ b ∷ later)) ≡ moment (reverse (earlier ++ b ∷ []))
begin_at_moment o earlier b later pending begin =
    ap (began o) (reverse_split earlier b later)
    ∙ began_same o b (reverse earlier) (reverse later) begin.such.problem (none_ok_older o later begin.such.unbroken)
    (All-reverse (λ (e : Event). is_pending_event e.kind ≡ false) later (later_pending earlier b later pending))
    ∙ cond-true (begins o b (reverse earlier)) (moment (b ∷ reverse earlier)) (began o (reverse earlier)) (it_begins o earlier b later begin)
    ∙ ap moment (sym (reverse-append earlier (b ∷ [])))

begin_outcomes_from : (o : ℕ) (earlier : List Event) (b : Event) (later : List Event) (before_it : List Outcome) (x : Outcome) (from_it : List Outcome)
    → NonePending (earlier ++ b ∷ later) → IsBegin o earlier b later → length from_it ≡ length later
    → reverse (of_problem o (reverse (earlier ++ b ∷ later)) (reverse (before_it ++ x ∷ from_it))) ≡ x ∷ from_it
begin_outcomes_from o earlier b later before_it x from_it pending begin same =
    ap₂ (λ events history. reverse (of_problem o events history)) (reverse_split earlier b later) (reverse_split before_it x from_it)
    ∙ ap reverse (problem_same o b (reverse earlier) (reverse later) x (reverse before_it) (reverse from_it) begin.such.problem (it_begins o earlier b later begin)
    (none_ok_older o later begin.such.unbroken) (All-reverse (λ (e : Event). is_pending_event e.kind ≡ false) later (later_pending earlier b later pending))
    (length-reverse from_it ∙ same ∙ sym (length-reverse later)))
    ∙ reverse-append (reverse from_it) (x ∷ [])
    ∙ ap (λ xs. x ∷ xs) (reverse-reverse from_it)

pub begin_outcomes : (o : ℕ) (earlier : List Event) (b : Event) (later : List Event) (before_it from_it : List Outcome)
    → NonePending (earlier ++ b ∷ later) → IsBegin o earlier b later → length before_it ≡ length earlier → length from_it ≡ length (b ∷ later)
    → reverse (of_problem o (reverse (earlier ++ b ∷ later)) (reverse (before_it ++ from_it))) ≡ from_it
begin_outcomes o earlier b later before_it [] pending begin same_before same = absurd (omega (arith, same))
begin_outcomes o earlier b later before_it (x ∷ from_it) pending begin same_before same = begin_outcomes_from o earlier b later before_it x from_it pending begin (omega (arith, same))

pub begin_notices : (o : ℕ) (earlier : List Event) (b : Event) (later : List Event) (before_it from_it : List Outcome)
    → NonePending (earlier ++ b ∷ later) → IsBegin o earlier b later → length before_it ≡ length earlier → length from_it ≡ length (b ∷ later)
    → notices_sent (of_problem o (reverse (earlier ++ b ∷ later)) (reverse (before_it ++ from_it))) ≡ notices_sent from_it
begin_notices o earlier b later before_it from_it pending begin same_before same =
    sym (count-reverse (λ x. is_some (notice_of x)) (of_problem o (reverse (earlier ++ b ∷ later)) (reverse (before_it ++ from_it))))
    ∙ ap notices_sent (begin_outcomes o earlier b later before_it from_it pending begin same_before same)

-- while a problem runs there is such an event

record Found (o : ℕ) (past newer : List Event) (b : Event) (rest : List Event) : Type 0 where
  split : past ≡ newer ++ b ∷ rest
  problem : is_problem_of o b.kind ≡ true
  none_ok : NoneOk o newer
  none_before : is_problem_state (hard o rest) ≡ false

abbrev IsFound : ℕ → List Event → Type 0
IsFound o past = (newer : List Event) × (b : Event) × (rest : List Event) × Found o past newer b rest

found_more : (o : ℕ) (e : Event) (past : List Event) → is_ok_of o e.kind ≡ false → IsFound o past → IsFound o (e ∷ past)
found_more o e past ok w = (
  e ∷ w.0,
  w.1,
  w.2,
  record {
    split = ap (λ xs. e ∷ xs) w.3.split;
    problem = w.3.problem;
    none_ok = All-cons (λ (e : Event). is_ok_of o e.kind ≡ false) e w.0 ok w.3.none_ok;
    none_before = w.3.none_before;
  },
)

find_begin : (o : ℕ) (past : List Event) → is_problem_state (hard o past) ≡ true → IsFound o past
find_begin o [] h = cc
find_begin o (e ∷ past) h =
    ⊎_elim (λ here.
    ⊎_elim (λ was. found_more o e past (not_ok_of o e.kind here) (find_begin o past was))
    (λ was_not. ([], e, past, record { split = refl; problem = here; none_ok = All-nil (λ (e : Event). is_ok_of o e.kind ≡ false); none_before = was_not }))
    (cases_Bool (is_problem_state (hard o past))))
    (λ there. found_more o e past there.1 (find_begin o past there.0))
    (problem_before o e.kind (hard o past) h)

none_ok_front : (o : ℕ) (rest : List Event) (b : Event) (later : List Event) → NoneOk o (take (length (rest ++ b ∷ later) - 1) (rest ++ b ∷ later)) → NoneOk o rest
none_ok_front o rest b later h =
    let n : length (rest ++ b ∷ later) - 1 ≡ length rest + length later = omega (arith, length-append rest (b ∷ later)) in
    All-front (λ (e : Event). is_ok_of o e.kind ≡ false) rest (b ∷ later) (length later) (subst (λ m. NoneOk o (take m (rest ++ b ∷ later))) n h)
  where
    All-front : {X : Type 0} (P : X → Type 0) (xs ys : List X) (n : ℕ) → All P (take (length xs + n) (xs ++ ys)) → All P xs
    All-front P [] ys n h = All-nil P
    All-front P (x ∷ xs) ys n h =
        let one : length (x ∷ xs) + n ≡ suc (length xs + n) = omega arith in
        let more : All P (x ∷ take (length xs + n) (xs ++ ys)) = subst (λ m. All P (take m ((x ∷ xs) ++ ys))) one h in
        All-cons P x xs (All-head P x (take (length xs + n) (xs ++ ys)) more) (All-front P xs ys n (All-tail P x (take (length xs + n) (xs ++ ys)) more))

pub begin_exists : (o : ℕ) (feed : List Event) → NonePending feed → is_problem_state (hard o (reverse feed)) ≡ true
    → (earlier : List Event) × (b : Event) × (later : List Event) × (feed ≡ earlier ++ b ∷ later) × IsBegin o earlier b later
begin_exists o feed pending h =
    let w = find_begin o (reverse feed) h in
    let later = reverse w.0 in
    let b = w.1 in
    let earlier = reverse w.2 in
    let split : feed ≡ earlier ++ b ∷ later = sym (reverse-reverse feed) ∙ ap reverse w.3.split ∙ reverse_split w.0 b w.2 in (
      earlier,
      b,
      later,
      split,
      record {
        such = record { problem = w.3.problem; unbroken = All-take (λ (e : Event). is_ok_of o e.kind ≡ false) (length later - 1) later (All-reverse (λ (e : Event). is_ok_of o e.kind ≡ false) w.0 w.3.none_ok) };
        least = λ front x rest is in_problem.
            let here : w.2 ≡ reverse rest ++ x ∷ reverse front = sym (reverse-reverse w.2) ∙ ap reverse is ∙ reverse_split front x rest in
            let ok : NoneOk o (reverse rest) = All-reverse (λ (e : Event). is_ok_of o e.kind ≡ false) rest (none_ok_front o rest b later in_problem.unbroken) in
            let whole : NonePending ((front ++ x ∷ rest) ++ b ∷ later) = subst NonePending (split ∙ ap (λ xs. xs ++ b ∷ later) is) pending in
            let part : NonePending (rest ++ b ∷ later) = later_pending front x (rest ++ b ∷ later) (subst NonePending (append_assoc front (x ∷ rest) (b ∷ later)) whole) in
            let clean : NonePending (reverse rest) = All-reverse (λ (e : Event). is_pending_event e.kind ≡ false) rest (All-first (λ (e : Event). is_pending_event e.kind ≡ false) rest (b ∷ later) part) in
            let runs : is_problem_state (hard o w.2) ≡ true = ap (λ xs. is_problem_state (hard o xs)) here ∙ problem_runs o x (reverse front) (reverse rest) in_problem.problem ok clean in
            false≢true (sym w.3.none_before ∙ runs);
      },
    )
  where
    All-first : {X : Type 0} (P : X → Type 0) (xs ys : List X) → All P (xs ++ ys) → All P xs
    All-first P [] ys h = All-nil P
    All-first P (x ∷ xs) ys h = All-cons P x xs (All-head P x (xs ++ ys) h) (All-first P xs ys (All-tail P x (xs ++ ys) h))
