-- The moment, the ready moment and downtime, over the whole list of events in the order of the feed.
use Rattle.std.proofs.Common.{◌≡◌, ◌↔◌, ℕ, suc, ◌+◌, ◌-◌, ◌<◌, ◌≤◌, Bool, true, false, cond, ◌==◌, List, [], ◌∷◌, ◌++◌, length, reverse, All, Any, count_by, None, IsTrue, if◌then◌else◌, refl, sym, ap, ◌∙◌, subst, arith, ⊎_elim, append_assoc, ltb-true, lt-ltb}
use Rattle.std.proofs.lemmas.Bool.{cond-true, cond-false, cases_lt}
use Rattle.std.proofs.lemmas.List.{reverse-append, reverse-reverse, length-reverse, get_or-reverse}
use Rattle.std.proofs.lemmas.List.Elements.{All-nil, All-cons, All-head, All-tail, All-weaker, All-same}
use Rattle.std.proofs.lemmas.List.Sums.{sum_by-cons, sum_by-append}
use Rattle.due_model.specs.declared.config.Config.{Config}
use Rattle.due_model.specs.declared.config.Object.{Object}
use Rattle.due_model.specs.declared.event.Event.{Event}
use Rattle.due_model.specs.declared.event.EventKind.{EventKind}
use Rattle.due_model.specs.declared.event.EventKind.TheVariants.{Clock, Program, Hard, Downtime, Flapping, Ack, AckRemoved, OwnSwitch}
use Rattle.due_model.specs.declared.event.DowntimeChange.TheVariants.{Start, End, Cancelled}
use Rattle.due_model.specs.declared.notice.Outcome.{Outcome}
use Rattle.due_model.specs.declared.notice.Outcome.TheVariants.{Nothing, Sent, Suppressed}
use Rattle.due_model.specs.declared.zone.Zone.{Zone}
use Rattle.due_model.specs.claims.Histories.{after_notice, last_notice, ready, retry_after}
use Rattle.due_laws.specs.Readings.{IsGreatestStamp, tries_problem, ready_after, starts_downtime, ends_downtime, starts_in, ends_in, Outnumbers}
use Rattle.due_model.specs.claims.Readings.{moment, down, depth, depth_after}
use Rattle.due_model.specs.claims.Rules.{is_problem}
use Rattle.lemmas.proofs.Lists.{All-reverse}

pub reverse_split : {X : Type 0} (front : List X) (x : X) (rest : List X) → reverse (front ++ x ∷ rest) ≡ reverse rest ++ x ∷ reverse front
reverse_split front x rest =
    reverse-append front (x ∷ rest)
    ∙ ap (λ xs. xs ++ reverse front) (reverse-append (x ∷ []) rest)
    ∙ append_assoc (reverse rest) (x ∷ []) (reverse front)

-- the moment

above_each : (past : List Event) → All (λ e. e.moment ≤ moment past) past
above_each [] = All-nil (λ (e : Event). e.moment ≤ 0)
above_each (e ∷ past) =
    All-cons (λ (x : Event). x.moment ≤ moment (e ∷ past)) e past (omega arith)
    (All-weaker (λ (x : Event). x.moment ≤ moment past) (λ x. x.moment ≤ moment (e ∷ past)) (λ x h. omega arith) past (above_each past))

one_of_them : (past : List Event) → 0 < length past → Any (λ e. e.moment ≡ moment past) past
one_of_them [] h = absurd (omega arith)
one_of_them (e ∷ []) h = (0, e, omega arith, refl, omega arith)
one_of_them (e ∷ f ∷ past) h =
    let so_far = one_of_them (f ∷ past) (omega arith) in
    ⊎_elim (λ less. (suc so_far.0, so_far.1, omega (arith, so_far.2), so_far.3, omega (arith, so_far.4, less)))
    (λ more. (0, e, omega arith, refl, omega (arith, more)))
    (cases_lt e.moment (moment (f ∷ past)))

Any-reverse : {X : Type 0} (P : X → Type 0) (xs : List X) → Any P (reverse xs) → Any P xs
Any-reverse P xs h =
    let within : h.0 < length xs = omega (arith, h.2, length-reverse xs) in
    (length xs - 1 - h.0, h.1, omega (arith, within), sym (get_or-reverse xs h.0 h.1 within) ∙ h.3, h.4)

pub greatest_stamp : (feed : List Event) → IsGreatestStamp feed (moment (reverse feed))
greatest_stamp feed = record {
  above_each = All-same (λ (e : Event). e.moment ≤ moment (reverse feed)) feed (reverse (reverse feed)) (sym (reverse-reverse feed))
      (All-reverse (λ (e : Event). e.moment ≤ moment (reverse feed)) (reverse feed) (above_each (reverse feed)));
  one_of_them = λ h. Any-reverse (λ (e : Event). e.moment ≡ moment (reverse feed)) feed (one_of_them (reverse feed) (omega (arith, length-reverse feed, h)));
}

-- the ready moment

ready-cons_no : (c : Config) (zone : Zone) (object : Object) (began : ℕ) (x : Outcome) (rest : List Outcome) → tries_problem x ≡ false → ready c zone object began (x ∷ rest) ≡ ready c zone object began rest
ready-cons_no c zone object began Nothing rest h = refl
ready-cons_no c zone object began (Sent k s number m gap reach) rest h = cond-false (is_problem k) (after_notice m gap reach) (ready c zone object began rest) h
ready-cons_no c zone object began (Suppressed k s number m f) rest h = cond-false (is_problem k) (retry_after c zone object began (last_notice rest) m f) (ready c zone object began rest) h

ready-append_no : (c : Config) (zone : Zone) (object : Object) (began : ℕ) (later rest : List Outcome) → All (λ y. tries_problem y ≡ false) later
    → ready c zone object began (later ++ rest) ≡ ready c zone object began rest
ready-append_no c zone object began [] rest h = refl
ready-append_no c zone object began (x ∷ later) rest h =
    ready-cons_no c zone object began x (later ++ rest) (All-head (λ y. tries_problem y ≡ false) x later h)
    ∙ ready-append_no c zone object began later rest (All-tail (λ y. tries_problem y ≡ false) x later h)

ready-cons_yes : (c : Config) (zone : Zone) (object : Object) (began : ℕ) (x : Outcome) (front : List Outcome) → tries_problem x ≡ true
    → ready c zone object began (x ∷ reverse front) ≡ ready_after c zone object began front x
ready-cons_yes c zone object began Nothing front h = cc
ready-cons_yes c zone object began (Sent k s number m gap reach) front h = cond-true (is_problem k) (after_notice m gap reach) (ready c zone object began (reverse front)) h
ready-cons_yes c zone object began (Suppressed k s number m f) front h =
    cond-true (is_problem k) (retry_after c zone object began (last_notice (reverse front)) m f) (ready c zone object began (reverse front)) h

pub ready_by_last : (c : Config) (zone : Zone) (object : Object) (began : ℕ) (front : List Outcome) (x : Outcome) (rest : List Outcome)
    → tries_problem x ≡ true → All (λ y. tries_problem y ≡ false) rest → ready c zone object began (reverse (front ++ x ∷ rest)) ≡ ready_after c zone object began front x
ready_by_last c zone object began front x rest h none =
    ap (ready c zone object began) (reverse_split front x rest)
    ∙ ready-append_no c zone object began (reverse rest) (x ∷ reverse front) (All-reverse (λ y. tries_problem y ≡ false) rest none)
    ∙ ready-cons_yes c zone object began x front h

never_by : (c : Config) (zone : Zone) (object : Object) (began : ℕ) (outcomes : List Outcome) → All (λ y. tries_problem y ≡ false) outcomes → ready c zone object began outcomes ≡ None
never_by c zone object began [] h = refl
never_by c zone object began (x ∷ rest) h =
    ready-cons_no c zone object began x rest (All-head (λ y. tries_problem y ≡ false) x rest h)
    ∙ never_by c zone object began rest (All-tail (λ y. tries_problem y ≡ false) x rest h)

pub never_ready : (c : Config) (zone : Zone) (object : Object) (began : ℕ) (outcomes : List Outcome) → All (λ y. tries_problem y ≡ false) outcomes → ready c zone object began (reverse outcomes) ≡ None
never_ready c zone object began outcomes h = never_by c zone object began (reverse outcomes) (All-reverse (λ y. tries_problem y ≡ false) outcomes h)

-- downtime

-- 1 for what counts
abbrev one_if : Bool → ℕ
one_if b = cond b 1 0

-- how one event changes the counts of starts and ends, and the depth
record Counted (start end : Bool) (before after starts ends : ℕ) : Type 0 where
  start_is : cond start 1 0 ≡ starts
  end_is : cond end 1 0 ≡ ends
  after_is : after ≡ before + starts - ends
  one : starts + ends ≤ 1

abbrev IsCounted : (start end : Bool) → (before after : ℕ) → Type 0
IsCounted start end before after = (starts : ℕ) × (ends : ℕ) × Counted start end before after starts ends

nothing_counted : (d : ℕ) → IsCounted false false d d
nothing_counted d = (0, 0, record { start_is = refl; end_is = refl; after_is = omega arith; one = omega arith })

start_counted : (b : Bool) (d : ℕ) → IsCounted b false d (if b then d + 1 else d)
start_counted true d = (1, 0, record { start_is = refl; end_is = refl; after_is = omega arith; one = omega arith })
start_counted false d = nothing_counted d

end_counted : (b : Bool) (d : ℕ) → IsCounted false b d (if b then d - 1 else d)
end_counted true d = (0, 1, record { start_is = refl; end_is = refl; after_is = omega arith; one = omega arith })
end_counted false d = nothing_counted d

counted : (o : ℕ) (k : EventKind) (d : ℕ) → IsCounted (starts_downtime o k) (ends_downtime o k) d (depth_after o k d)
counted o Clock d = nothing_counted d
counted o (Program on) d = nothing_counted d
counted o (Hard p s) d = nothing_counted d
counted o (Flapping p starts) d = nothing_counted d
counted o (Ack p ack) d = nothing_counted d
counted o (AckRemoved p) d = nothing_counted d
counted o (OwnSwitch p on) d = nothing_counted d
counted o (Downtime p Start) d = start_counted (p.0 == o) d
counted o (Downtime p End) d = end_counted (p.0 == o) d
counted o (Downtime p Cancelled) d = end_counted (p.0 == o) d

starts-cons : (o : ℕ) (e : Event) (events : List Event) → starts_in o (e ∷ events) ≡ cond (starts_downtime o e.kind) 1 0 + starts_in o events
starts-cons o e events = sum_by-cons (λ (x : Event). cond (starts_downtime o x.kind) 1 0) e events

ends-cons : (o : ℕ) (e : Event) (events : List Event) → ends_in o (e ∷ events) ≡ cond (ends_downtime o e.kind) 1 0 + ends_in o events
ends-cons o e events = sum_by-cons (λ (x : Event). cond (ends_downtime o x.kind) 1 0) e events

-- counts don't look at the order
pub count-reverse : {X : Type 0} (p : X → Bool) (xs : List X) → count_by p (reverse xs) ≡ count_by p xs
count-reverse p [] = refl
count-reverse {X} p (x ∷ xs) =
    let f : X → ℕ = λ y. one_if (p y) in
    let so_far = count-reverse p xs in
    let split : count_by p (reverse (x ∷ xs)) ≡ count_by p (reverse xs) + count_by p (x ∷ []) = ap (count_by p) (reverse-append (x ∷ []) xs) ∙ sum_by-append f (reverse xs) (x ∷ []) in
    let whole : count_by p (x ∷ xs) ≡ one_if (p x) + count_by p xs = sum_by-cons f x xs in
    let single : count_by p (x ∷ []) ≡ one_if (p x) + 0 = sum_by-cons f x [] in
    omega (arith, split, whole, single, so_far)

-- at each event after a start, the newest first, no more ends than starts came after it
abbrev Along : ℕ → List Event → Type 0
Along o [] = Unit {0}
Along o (e ∷ later) = (ends_in o (e ∷ later) ≤ starts_in o (e ∷ later)) × Along o later

along_here : (o : ℕ) (later : List Event) → Along o later → ends_in o later ≤ starts_in o later
along_here o [] h = omega arith
along_here o (e ∷ later) h = h.0

along_rest : (o : ℕ) (newer later : List Event) → Along o (newer ++ later) → Along o later
along_rest o [] later h = h
along_rest o (e ∷ newer) later h = along_rest o newer later h.1

along_from : (o : ℕ) (later : List Event) → ((newer older : List Event) → later ≡ newer ++ older → ends_in o older ≤ starts_in o older) → Along o later
along_from o [] h = tt
along_from o (e ∷ later) h = (h [] (e ∷ later) refl, along_from o later (λ newer older is. h (e ∷ newer) older (ap (λ xs. e ∷ xs) is)))

-- the depth is at least what starts have over ends
depth_at_least : (o : ℕ) (s : Event) (later earlier : List Event) → starts_downtime o s.kind ≡ true → Along o later → 1 + starts_in o later ≤ depth o (later ++ s ∷ earlier) + ends_in o later
depth_at_least o s [] earlier start h =
    let w = counted o s.kind (depth o earlier) in
    let one : one_if (starts_downtime o s.kind) ≡ 1 = ap one_if start in
    omega (arith, w.2.start_is, w.2.after_is, w.2.one, one)
depth_at_least o s (e ∷ later) earlier start h =
    let w = counted o e.kind (depth o (later ++ s ∷ earlier)) in
    let so_far = depth_at_least o s later earlier start h.1 in
    omega (arith, w.2.start_is, w.2.end_is, w.2.after_is, w.2.one, so_far, along_here o later h.1, starts-cons o e later, ends-cons o e later)

-- since when the object is in downtime
record DownSince (o : ℕ) (past later : List Event) (s : Event) (earlier : List Event) : Type 0 where
  split : past ≡ later ++ s ∷ earlier
  start : starts_downtime o s.kind ≡ true
  along : Along o later
  depth_is : 1 + starts_in o later ≡ depth o past + ends_in o later

abbrev HasStart : ℕ → List Event → Type 0
HasStart o past = (later : List Event) × (s : Event) × (earlier : List Event) × DownSince o past later s earlier

counts_one : (b : Bool) (n : ℕ) → cond b 1 0 ≡ n → 0 < n → b ≡ true
counts_one true n is h = refl
counts_one false n is h = absurd (omega (arith, is, h))

down_since_more : (o : ℕ) (e : Event) (past : List Event) → (0 < depth o past → HasStart o past) → 0 < depth o (e ∷ past) → HasStart o (e ∷ past)
down_since_more o e past so_far h =
    let w = counted o e.kind (depth o past) in
    ⊎_elim (λ was_down.
    let since = so_far was_down in
    let n : 1 + starts_in o (e ∷ since.0) ≡ depth o (e ∷ past) + ends_in o (e ∷ since.0) =
    omega (arith, w.2.start_is, w.2.end_is, w.2.after_is, w.2.one, since.3.depth_is, starts-cons o e since.0, ends-cons o e since.0, was_down)
    in (
      e ∷ since.0,
      since.1,
      since.2,
      record {
        split = ap (λ xs. e ∷ xs) since.3.split;
        start = since.3.start;
        along = (omega (arith, n, h), since.3.along);
        depth_is = n;
      },
    ))
    (λ was_up. (
      [],
      e,
      past,
      record {
        split = refl;
        start = counts_one (starts_downtime o e.kind) w.0 w.2.start_is (omega (arith, w.2.after_is, h, was_up));
        along = tt;
        depth_is = omega (arith, w.2.after_is, w.2.one, h, was_up);
      },
    ))
    (cases_lt 0 (depth o past))

down_since : (o : ℕ) (past : List Event) → 0 < depth o past → HasStart o past
down_since o [] h = absurd (omega arith)
down_since o (e ∷ past) h = down_since_more o e past (down_since o past) h

-- in the order of the feed

start_counts : (o : ℕ) (s : Event) → starts_downtime o s.kind ≡ true → (one_if (starts_downtime o s.kind) ≡ 1) × (one_if (ends_downtime o s.kind) ≡ 0)
start_counts o s start =
    let w = counted o s.kind 0 in
    let one : one_if (starts_downtime o s.kind) ≡ 1 = ap one_if start in
    (one, omega (arith, one, w.2.start_is, w.2.end_is, w.2.one))

outnumbers_from : (o : ℕ) (s : Event) (later : List Event) → starts_downtime o s.kind ≡ true → Along o later → Outnumbers o s (reverse later)
outnumbers_from o s later start along = record {
  start = start;
  at_each = λ front rest is.
      let split : later ≡ reverse rest ++ reverse front = sym (reverse-reverse later) ∙ ap reverse is ∙ reverse-append front rest in
      let here = along_here o (reverse front) (along_rest o (reverse rest) (reverse front) (subst (Along o) split along)) in
      let s_counts = start_counts o s start in
      omega (arith, here, count-reverse (λ (e : Event). starts_downtime o e.kind) front, count-reverse (λ (e : Event). ends_downtime o e.kind) front, starts-cons o s front, ends-cons o s front, s_counts.0, s_counts.1);
}

along_outnumbers : (o : ℕ) (s : Event) (later : List Event) → Outnumbers o s later → Along o (reverse later)
along_outnumbers o s later h = along_from o (reverse later) (λ newer older is.
    let split : later ≡ reverse older ++ reverse newer = sym (reverse-reverse later) ∙ ap reverse is ∙ reverse-append newer older in
    let s_counts = start_counts o s h.start in
    omega (
      arith,
      h.at_each (reverse older) (reverse newer) split,
      count-reverse (λ (e : Event). starts_downtime o e.kind) older,
      count-reverse (λ (e : Event). ends_downtime o e.kind) older,
      starts-cons o s (reverse older),
      ends-cons o s (reverse older),
      s_counts.0,
      s_counts.1,
    ))

abbrev IsOutnumbered : ℕ → List Event → Type 0
IsOutnumbered o feed = (earlier : List Event) × (s : Event) × (later : List Event) × (feed ≡ earlier ++ s ∷ later) × Outnumbers o s later

down_to : (o : ℕ) (feed : List Event) → IsTrue (down o (reverse feed)) → IsOutnumbered o feed
down_to o feed h =
    let since = down_since o (reverse feed) (ltb-true 0 (depth o (reverse feed)) h) in
    let split : feed ≡ reverse since.2 ++ since.1 ∷ reverse since.0 = sym (reverse-reverse feed) ∙ ap reverse since.3.split ∙ reverse_split since.0 since.1 since.2 in
    (reverse since.2, since.1, reverse since.0, split, outnumbers_from o since.1 since.0 since.3.start since.3.along)

down_from : (o : ℕ) (feed : List Event) → IsOutnumbered o feed → IsTrue (down o (reverse feed))
down_from o feed h =
    let along = along_outnumbers o h.1 h.2 h.4 in
    let split : reverse feed ≡ reverse h.2 ++ h.1 ∷ reverse h.0 = ap reverse h.3 ∙ reverse_split h.0 h.1 h.2 in
    let deep : 0 < depth o (reverse feed) =
    omega (arith, depth_at_least o h.1 (reverse h.2) (reverse h.0) h.4.start along, along_here o (reverse h.2) along, ap (depth o) split)
    in
    lt-ltb 0 (depth o (reverse feed)) deep

pub down_where_outnumbered : (o : ℕ) (feed : List Event) → IsTrue (down o (reverse feed)) ↔ IsOutnumbered o feed
down_where_outnumbered o feed = (down_to o feed, down_from o feed)
