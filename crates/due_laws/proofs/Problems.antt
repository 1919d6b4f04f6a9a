-- How the outcomes of one problem follow one another.
use Rattle.std.proofs.Common.{length, ◌≡◌, ℕ, suc, zero, ◌+◌, ◌<◌, ◌≤◌, Bool, true, false, cond, not, ◌==◌, List, [], ◌∷◌, ◌++◌, reverse, slice_get, filter_map, All, Option, None, Some, is_some, if◌then◌else◌, refl, sym, ap, ap₂, ◌∙◌, subst, arith, ◌⊎◌, inl, inr, append-nil, zero-add, leb-true, ◌||◌, ◌&&◌}
use Rattle.std.specs.List.{range_with_len, cons_option}
use Rattle.std.proofs.lemmas.Bool.{eqb-false, not-false, cond_both, false≢true}
use Rattle.std.proofs.lemmas.List.{reverse-append}
use Rattle.std.proofs.lemmas.List.Elements.{filter_map-append}
use Rattle.std.proofs.lemmas.List.Sums.{sum_by-cons}
use Rattle.lemmas.proofs.Numbers.{range_more}
use Rattle.due_model.specs.declared.config.Config.{Config}
use Rattle.due_model.specs.declared.config.Object.{Object}
use Rattle.due_model.specs.declared.event.Event.{Event}
use Rattle.due_model.specs.declared.notice.Kind.{Kind}
use Rattle.due_model.specs.declared.notice.Kind.TheVariants as kind
use Rattle.due_model.specs.declared.notice.Outcome.{Outcome}
use Rattle.due_model.specs.declared.notice.Outcome.TheVariants.{Nothing, Sent, Suppressed}
use Rattle.due_model.specs.declared.state.State.{State}
use Rattle.due_model.specs.declared.state.State.TheVariants as state
use Rattle.due_model.specs.declared.zone.Zone.{Zone}
use Rattle.due_model.specs.claims.Histories.{before, of_problem, hist, outcome, view, number_after, notice_of, notices_sent, last_notice, gap_of, down_with_host, ended, ended_at, ended_within, host_holds, lapses, waiting, reach_of}
use Rattle.due_model.specs.claims.Receivers.{is_heard}
use Rattle.due_laws.proofs.Unheard.{silent}
use Rattle.due_model.specs.declared.notice.Reach.{Reach}
use Rattle.due_model.specs.claims.Due.{due_for, due_at, notices}
use Rattle.due_laws.specs.Laws.{last_problem, notice_number, number_carried, up_to, WaitsAreOwn}
use Rattle.due_laws.proofs.EachNotice.{notices_each, due_for_each, due_at_each}
use Rattle.due_model.specs.claims.Readings.{begins, is_hard_of}
use Rattle.due_model.specs.declared.rules.Attempt.{Attempt}
use Rattle.due_model.specs.declared.rules.Last.{Last}
use Rattle.due_model.specs.claims.Rules.{has_come, is_problem, is_recovery, is_too_soon, next_notice, same_state}
use Rattle.due_laws.proofs.Verdicts.{Passes, passes_from_none, and_second, attempt_at, outcome_cases}

-- the outcomes of the last problem after one more event
pub last_problem-cons : (c : Config) (zone : Zone) (o : ℕ) (object : Object) (e : Event) (past : List Event)
    → last_problem c zone o object (e ∷ past) ≡ outcome c zone o object e past (hist c zone o object past) ∷ before o e past (hist c zone o object past)
unfolding hist
last_problem-cons c zone o object e past = refl

pub notices_sent-cons : (x : Outcome) (rest : List Outcome) → notices_sent (x ∷ rest) ≡ cond (is_some (notice_of x)) 1 0 + notices_sent rest
notices_sent-cons x rest = sum_by-cons (λ y. cond (is_some (notice_of y)) 1 0) x rest

same_state_self : (s : State) → same_state s s ≡ true
same_state_self state.Pending = refl
same_state_self state.Up = refl
same_state_self state.Down = refl
same_state_self state.Unreachable = refl
same_state_self state.Fine = refl
same_state_self state.Warning = refl
same_state_self state.Unknown = refl
same_state_self state.Critical = refl

come_by : (b : Bool) (gap moment t : ℕ) → (gap == 0) ≡ b → has_come (if b then None else Some (moment + gap)) t ≡ true → (0 < gap) × (moment + gap ≤ t)
come_by true gap moment t is h = absurd (false≢true h)
come_by false gap moment t is h = let some : gap ≡ 0 → ⊥ = eqb-false gap 0 is in let come = leb-true (moment + gap) t h in (omega (arith, some), come)

-- the gap has passed where the last notice isn't too soon
spaced_by : (last : Last) (a : Attempt) → is_too_soon (Some last) a.state a.moment ≡ false → a.state ≡ last.state → (0 < last.gap) × (last.moment + last.gap ≤ a.moment)
spaced_by last a h same =
    let one : same_state last.state a.state ≡ true = ap (same_state last.state) same ∙ same_state_self last.state in
    let come = not-false (has_come (next_notice last.moment last.gap) a.moment) (and_second (same_state last.state a.state) (not (has_come (next_notice last.moment last.gap) a.moment)) h one) in
    come_by (last.gap == 0) last.gap last.moment a.moment refl come

-- how a notice that goes out follows the outcomes of its problem before it
pub record SentFollows (c : Config) (object : Object) (k : Kind) (s : State) (number m : ℕ) (earlier : List Outcome) : Type 0 where
  pub numbered : is_problem k ≡ true → number ≡ notices_sent earlier + 1
  pub spaced : WaitsAreOwn c object → is_problem k ≡ true → (last : Last) → last_notice earlier ≡ Some last → last.state ≡ s → (0 < last.gap) × (last.moment + last.gap ≤ m)
  pub recovers : is_recovery k ≡ true → 0 < notices_sent earlier

abbrev pub Follows : Config → Object → Outcome → List Outcome → Type 0
Follows c object Nothing earlier = Unit {0}
Follows c object (Sent k s number m gap reach) earlier = SentFollows c object k s number m earlier
Follows c object (Suppressed k s number m f) earlier = Unit {0}

number_of_problem : (k : Kind) (sent : ℕ) → is_problem k ≡ true → number_after sent k ≡ sent + 1
number_of_problem kind.Problem sent h = refl
number_of_problem kind.Recovery sent h = cc
number_of_problem kind.FlappingStart sent h = cc
number_of_problem kind.FlappingStop sent h = cc
number_of_problem kind.DowntimeStart sent h = cc
number_of_problem kind.DowntimeEnd sent h = cc
number_of_problem kind.DowntimeCancelled sent h = cc
number_of_problem kind.Acknowledgement sent h = cc

pub sent_follows : (c : Config) (zone : Zone) (o : ℕ) (object : Object) (e : Event) (past : List Event) (earlier : List Outcome) (over : Bool) (k : Kind)
    → (WaitsAreOwn c object → over ≡ false)
    → Passes (view c zone o object e past earlier over) (attempt_at o e past k)
    → SentFollows c object k (attempt_at o e past k).state (number_after (notices_sent earlier) k) (attempt_at o e past k).moment earlier
sent_follows c zone o object e past earlier over k goes_on passes = record {
  numbered = λ h. number_of_problem k (notices_sent earlier) h;
  spaced = λ own h last is same.
      let a = attempt_at o e past k in
      let soon : is_too_soon (last_notice earlier) a.state a.moment ≡ false =
      sym (ap (λ b. is_too_soon (waiting b (last_notice earlier)) a.state a.moment) (goes_on own))
      ∙ and_second (is_problem k && not (object.volatile && is_hard_of o e.kind)) (is_too_soon (waiting over (last_notice earlier)) a.state a.moment) passes.interval
      (ap₂ (λ x y. x && not (y && is_hard_of o e.kind)) h own.not_volatile) in
      spaced_by last a (ap (λ x. is_too_soon x a.state a.moment) (sym is) ∙ soon) (sym same);
  recovers = λ h.
      let none = and_second (is_recovery k) (notices_sent earlier == 0) passes.sent h in
      let some : notices_sent earlier ≡ 0 → ⊥ = eqb-false (notices_sent earlier) 0 none in
      omega (arith, some);
}

or_false : (a b : Bool) → a ≡ false → b ≡ false → (a || b) ≡ false
or_false true b h i = cc
or_false false b h i = i

and_no : (a b : Bool) → a ≡ false → (a && b) ≡ false
and_no true b h = cc
and_no false b h = refl

no_and : (a b : Bool) → b ≡ false → (a && b) ≡ false
no_and true b h = h
no_and false b h = refl

never_lapses : (c : Config) (zone : Zone) (object : Object) (down held : Bool) (x : Outcome) → WaitsAreOwn c object → lapses c zone object down held x ≡ false
never_lapses c zone object down held Nothing own = refl
never_lapses c zone object down held (Sent k s number m gap reach) own = refl
never_lapses c zone object down held (Suppressed k s number m f) own =
    no_and (not (is_problem k && held)) _ (or_false _ _ (and_no c.choices.period_wait _ own.no_period) (and_no c.choices.downtime_wait _ own.no_downtime))

never_within : (c : Config) (object : Object) (o : ℕ) (e : Event) (past : List Event) (over : Bool) → WaitsAreOwn c object → over ≡ false → ended_within c o e past over ≡ false
never_within c object o e past over own h = or_false over _ h (and_no c.choices.reset_wait _ own.no_reset)

never_ended : (c : Config) (zone : Zone) (o : ℕ) (object : Object) (past : List Event) (history : List Outcome) → WaitsAreOwn c object → ended c zone o object past history ≡ false
never_ended c zone o object [] history own = refl
never_ended c zone o object (e ∷ past) [] own = refl
never_ended c zone o object (e ∷ past) (x ∷ history) own =
    no_and (not (is_some (notice_of x))) _
    (or_false (ended_within c o e past (ended c zone o object past history)) _ (never_within c object o e past _ own (never_ended c zone o object past history own))
    (and_no (lapses c zone object (down_with_host o object (e ∷ past)) (host_holds c object (e ∷ past)) x) _
    (never_lapses c zone object (down_with_host o object (e ∷ past)) (host_holds c object (e ∷ past)) x own)))

never_at : (c : Config) (zone : Zone) (o : ℕ) (object : Object) (e : Event) (past : List Event) (history : List Outcome) → WaitsAreOwn c object → ended_at c zone o object e past history ≡ false
never_at c zone o object e past history own = never_within c object o e past (ended c zone o object past history) own (never_ended c zone o object past history own)

outcome_follows : (c : Config) (zone : Zone) (o : ℕ) (object : Object) (e : Event) (past : List Event) (history : List Outcome)
    → Follows c object (outcome c zone o object e past history) (before o e past history)
outcome_follows c zone o object e past history =
    let earlier = before o e past history in
    outcome_cases c zone o object e past history (λ x. Follows c object x earlier) tt
    (λ k none. sent_follows c zone o object e past earlier (ended_at c zone o object e past history) k (never_at c zone o object e past history)
    (passes_from_none c zone (view c zone o object e past earlier (ended_at c zone o object e past history)) (attempt_at o e past k) none))
    (λ k f. tt)

-- each outcome follows those before it
abbrev pub EachFollows : Config → Object → List Outcome → Type 0
EachFollows c object [] = Unit {0}
EachFollows c object (x ∷ rest) = Follows c object x rest × EachFollows c object rest

pub problem_follows : (c : Config) (zone : Zone) (o : ℕ) (object : Object) (past : List Event) → EachFollows c object (last_problem c zone o object past)
problem_follows c zone o object [] = tt
problem_follows c zone o object (e ∷ past) =
    let history = hist c zone o object past in
    subst (EachFollows c object) (sym (last_problem-cons c zone o object e past)) (
      outcome_follows c zone o object e past history,
      cond_both (begins o e past) [] (of_problem o past history) (EachFollows c object) (λ _. tt) (λ _. problem_follows c zone o object past),
    )

-- an outcome is no problem notice, or one that is numbered and keeps the gap of the one before it
record IsNext (c : Config) (object : Object) (x : Outcome) (rest : List Outcome) (now : Last) (number : ℕ) : Type 0 where
  notice : notice_of x ≡ Some now
  numbered : notice_number x ≡ Some number
  next : number ≡ notices_sent rest + 1
  spaced : WaitsAreOwn c object → (last : Last) → last_notice rest ≡ Some last → last.state ≡ now.state → (0 < last.gap) × (last.moment + last.gap ≤ now.moment)

record IsNone (x : Outcome) : Type 0 where
  notice : notice_of x ≡ None
  numbered : notice_number x ≡ None

abbrev Told : Config → Object → Outcome → List Outcome → Type 0
Told c object x rest = IsNone x ⊎ ((now : Last) × (number : ℕ) × IsNext c object x rest now number)

first_of : (a b : Bool) → (a && b) ≡ true → a ≡ true
first_of true b h = refl
first_of false b h = cc

told_by : (c : Config) (object : Object) (b : Bool) (k : Kind) (s : State) (number m gap : ℕ) (reach : Reach) (rest : List Outcome) → (is_problem k && reach.heard) ≡ b → SentFollows c object k s number m rest → Told c object (Sent k s number m gap reach) rest
told_by c object true k s number m gap reach rest is h =
    let now : Last = record { state = s; moment = m; gap = gap } in
    inr (
      now,
      number,
      record {
        notice = ap (λ t. if t then Some now else None) is;
        numbered = ap (λ t. if t then Some number else None) is;
        next = h.numbered (first_of (is_problem k) reach.heard is);
        spaced = λ own. h.spaced own (first_of (is_problem k) reach.heard is);
      },
    )
told_by c object false k s number m gap reach rest is h =
    let now : Last = record { state = s; moment = m; gap = gap } in
    inl (record { notice = ap (λ t. if t then Some now else None) is; numbered = ap (λ t. if t then Some number else None) is })

told_of : (c : Config) (object : Object) (x : Outcome) (rest : List Outcome) → Follows c object x rest → Told c object x rest
told_of c object Nothing rest h = inl (record { notice = refl; numbered = refl })
told_of c object (Sent k s number m gap reach) rest h = told_by c object (is_problem k && reach.heard) k s number m gap reach rest refl h
told_of c object (Suppressed k s number m f) rest h = inl (record { notice = refl; numbered = refl })

-- the numbers go up by one

abbrev numbers_of : List Outcome → List ℕ
numbers_of outcomes = filter_map notice_number (reverse outcomes)

numbers-cons : (x : Outcome) (rest : List Outcome) → numbers_of (x ∷ rest) ≡ numbers_of rest ++ filter_map notice_number (x ∷ [])
numbers-cons x rest = ap (filter_map notice_number) (reverse-append (x ∷ []) rest) ∙ filter_map-append notice_number (reverse rest) (x ∷ [])

abbrev listed : Option ℕ → List ℕ
listed None = []
listed (Some n) = n ∷ []

listed_is : (x : Outcome) (number : Option ℕ) → notice_number x ≡ number → filter_map notice_number (x ∷ []) ≡ listed number
listed_is x None h = rw h refl
listed_is x (Some n) h = rw h refl

numbers_more : (c : Config) (object : Object) (x : Outcome) (rest : List Outcome) → Told c object x rest → numbers_of rest ≡ range_with_len 1 (notices_sent rest) → numbers_of (x ∷ rest) ≡ range_with_len 1 (notices_sent (x ∷ rest))
numbers_more c object x rest (inl none) so_far =
    let sent : notices_sent (x ∷ rest) ≡ notices_sent rest = notices_sent-cons x rest ∙ ap (λ o. cond (is_some o) 1 0 + notices_sent rest) none.notice ∙ zero-add (notices_sent rest) in
    numbers-cons x rest ∙ ap (λ xs. numbers_of rest ++ xs) (listed_is x None none.numbered) ∙ append-nil (numbers_of rest) ∙ so_far ∙ ap (range_with_len 1) (sym sent)
numbers_more c object x rest (inr told) so_far =
    let n = notices_sent rest in
    let counted : Option Last → ℕ = λ o. cond (is_some o) 1 0 in
    let one : counted (notice_of x) ≡ counted (Some told.0) = ap counted told.2.notice in
    let sent : notices_sent (x ∷ rest) ≡ n + 1 = omega (arith, notices_sent-cons x rest, one) in
    let number : told.1 ≡ 1 + n = omega (arith, told.2.next) in
    numbers-cons x rest
    ∙ ap₂ (λ xs ys. xs ++ ys) so_far (listed_is x (Some told.1) told.2.numbered)
    ∙ ap (λ m. range_with_len 1 n ++ m ∷ []) number
    ∙ sym (range_more 1 n)
    ∙ ap (range_with_len 1) (sym sent)

pub numbers_go_up : (c : Config) (object : Object) (outcomes : List Outcome) → EachFollows c object outcomes → numbers_of outcomes ≡ range_with_len 1 (notices_sent outcomes)
numbers_go_up c object [] h = refl
numbers_go_up c object (x ∷ rest) h = numbers_more c object x rest (told_of c object x rest h.0) (numbers_go_up c object rest h.1)

-- the gaps are kept

notices_none : (x : Outcome) (rest : List Outcome) → notice_of x ≡ None → filter_map notice_of (x ∷ rest) ≡ filter_map notice_of rest
notices_none x rest h = rw h refl

notices_some : (x : Outcome) (rest : List Outcome) (now : Last) → notice_of x ≡ Some now → filter_map notice_of (x ∷ rest) ≡ now ∷ filter_map notice_of rest
notices_some x rest now h = rw h refl

last_by : (seen : Option Last) (rest : List Last) (last : Option Last) → last ≡ slice_get rest 0
    → (elim seen as (λ _. Option Last) [ None ↦ last | Some n ↦ Some n ]) ≡ slice_get (cons_option seen rest) 0
last_by None rest last h = h
last_by (Some n) rest last h = refl

-- the last notice is the first of the notices, the newest first
last_is_first : (outcomes : List Outcome) → last_notice outcomes ≡ slice_get (filter_map notice_of outcomes) 0
last_is_first [] = refl
last_is_first (x ∷ rest) = last_by (notice_of x) (filter_map notice_of rest) (last_notice rest) (last_is_first rest)

abbrev KeepsGaps : List Last → Type 0
KeepsGaps notices = (i : ℕ) (earlier later : Last) → slice_get notices i ≡ Some later → slice_get notices (suc i) ≡ Some earlier → earlier.state ≡ later.state
    → (0 < earlier.gap) × (earlier.moment + earlier.gap ≤ later.moment)

gaps_push : (now : Last) (rest : List Last) → KeepsGaps rest
    → ((last : Last) → slice_get rest 0 ≡ Some last → last.state ≡ now.state → (0 < last.gap) × (last.moment + last.gap ≤ now.moment))
    → KeepsGaps (now ∷ rest)
gaps_push now rest kept first zero earlier later is_later is_earlier same =
    let one : now ≡ later = cc in
    let state : earlier.state ≡ now.state = cc in
    let h = first earlier is_earlier state in
    let moment : now.moment ≡ later.moment = ap (λ (n : Last). n.moment) one in
    (h.0, omega (arith, h.1))
gaps_push now rest kept first (suc i) earlier later is_later is_earlier same = kept i earlier later is_later is_earlier same

gaps_more : (c : Config) (object : Object) → WaitsAreOwn c object → (x : Outcome) (rest : List Outcome) → Told c object x rest → KeepsGaps (filter_map notice_of rest) → KeepsGaps (filter_map notice_of (x ∷ rest))
gaps_more c object own x rest (inl none) kept = subst KeepsGaps (sym (notices_none x rest none.notice)) kept
gaps_more c object own x rest (inr told) kept =
    subst KeepsGaps (sym (notices_some x rest told.0 told.2.notice))
    (gaps_push told.0 (filter_map notice_of rest) kept (λ last is same. told.2.spaced own last (last_is_first rest ∙ is) same))

pub gaps_are_kept : (c : Config) (object : Object) → WaitsAreOwn c object → (outcomes : List Outcome) → EachFollows c object outcomes → KeepsGaps (filter_map notice_of outcomes)
gaps_are_kept c object own [] h = λ i earlier later is_later is_earlier same. let none : None ≡ Some later = is_later in cc
gaps_are_kept c object own (x ∷ rest) h = gaps_more c object own x rest (told_of c object x rest h.0) (gaps_are_kept c object own rest h.1)

-- a recovery goes out after a problem notice

recovery_after : (c : Config) (zone : Zone) (o : ℕ) (object : Object) (e : Event) (past : List Event) (k : Kind)
    → Passes (view c zone o object e past (before o e past (hist c zone o object past)) (ended_at c zone o object e past (hist c zone o object past))) (attempt_at o e past k)
    → is_recovery k ≡ true → 0 < notices_sent (last_problem c zone o object (e ∷ past))
recovery_after c zone o object e past k passes h =
    let history = hist c zone o object past in
    let x = outcome c zone o object e past history in
    let earlier = before o e past history in
    let some = (sent_follows c zone o object e past earlier (ended_at c zone o object e past history) k (never_at c zone o object e past history) passes).recovers h in
    omega (arith, some, notices_sent-cons x earlier, ap notices_sent (last_problem-cons c zone o object e past))

pub due_for_recoveries : (c : Config) (zone : Zone) (o : ℕ) (object : Object) (l : ℕ) (past : List Event)
    → All (λ n. is_recovery n.kind ≡ true → 0 < notices_sent (last_problem c zone o object (up_to past n.event))) (due_for c zone o object l past)
due_for_recoveries c zone o object l past =
    due_for_each c zone o object l (λ so_far n. is_recovery n.kind ≡ true → 0 < notices_sent (last_problem c zone o object so_far))
    (λ e earlier. due_at_each c zone o object l e earlier (λ n. is_recovery n.kind ≡ true → 0 < notices_sent (last_problem c zone o object (e ∷ earlier)))
    (λ k number contact passes h. recovery_after c zone o object e earlier k passes h))
    past

-- a notice carries the number of its problem's notices so far

abbrev counted_once : Option Last → ℕ
counted_once seen = cond (is_some seen) 1 0

counts_so : (b : Bool) (last : Last) → b ≡ true → counted_once (if b then Some last else None) ≡ 1
counts_so true last h = refl
counts_so false last h = cc

number_is : (k : Kind) (s : State) (m gap : ℕ) (reach : Reach) (earlier : List Outcome) → reach.heard ≡ true
    → number_after (notices_sent earlier) k ≡ number_carried k (notices_sent (Sent k s (number_after (notices_sent earlier) k) m gap reach ∷ earlier))
number_is kind.Problem s m gap reach earlier h =
    omega (arith, notices_sent-cons (Sent kind.Problem s (notices_sent earlier + 1) m gap reach) earlier, counts_so reach.heard (record { state = s; moment = m; gap = gap }) h)
number_is kind.Recovery s m gap reach earlier h = omega (arith, notices_sent-cons (Sent kind.Recovery s (notices_sent earlier + 1) m gap reach) earlier)
number_is kind.FlappingStart s m gap reach earlier h = refl
number_is kind.FlappingStop s m gap reach earlier h = refl
number_is kind.DowntimeStart s m gap reach earlier h = refl
number_is kind.DowntimeEnd s m gap reach earlier h = refl
number_is kind.DowntimeCancelled s m gap reach earlier h = refl
number_is kind.Acknowledgement s m gap reach earlier h = refl

-- each notice of an outcome carries the number, and where it doesn't count there is none
numbered_by : (c : Config) (zone : Zone) (o : ℕ) (object : Object) (l event : ℕ) (k : Kind) (s : State) (m gap : ℕ) (reach : Reach) (earlier : List Outcome) (b : Bool) → reach.heard ≡ b
    → reach.heard ≡ is_heard c zone o object (record { kind = k; state = s; moment = m }) (number_after (notices_sent earlier) k) reach.told reach.standing
    → (λ (x : Outcome). All (λ n. n.number ≡ number_carried n.kind (notices_sent (x ∷ earlier))) (notices c zone o object l event x))
    (Sent k s (number_after (notices_sent earlier) k) m gap reach)
numbered_by c zone o object l event k s m gap reach earlier true heard is =
    let x = Sent k s (number_after (notices_sent earlier) k) m gap reach in
    notices_each c zone o object l event (λ n. n.number ≡ number_carried n.kind (notices_sent (x ∷ earlier))) x (λ contact. number_is k s m gap reach earlier heard)
numbered_by c zone o object l event k s m gap reach earlier false heard is =
    let x = Sent k s (number_after (notices_sent earlier) k) m gap reach in
    silent c zone o object l event (number_after (notices_sent earlier) k) (record { kind = k; state = s; moment = m }) reach.told
    (λ n. n.number ≡ number_carried n.kind (notices_sent (x ∷ earlier))) reach.standing (sym is ∙ heard)

due_at_numbered : (c : Config) (zone : Zone) (o : ℕ) (object : Object) (l : ℕ) (e : Event) (past : List Event)
    → All (λ n. n.number ≡ number_carried n.kind (notices_sent (last_problem c zone o object (e ∷ past)))) (due_at c zone o object l e past)
due_at_numbered c zone o object l e past =
    let history = hist c zone o object past in
    let earlier = before o e past history in
    let over = ended_at c zone o object e past history in
    let v = view c zone o object e past earlier over in
    subst (λ xs. All (λ n. n.number ≡ number_carried n.kind (notices_sent xs)) (due_at c zone o object l e past)) (sym (last_problem-cons c zone o object e past))
    (outcome_cases c zone o object e past history
    (λ y. All (λ n. n.number ≡ number_carried n.kind (notices_sent (y ∷ earlier))) (notices c zone o object l (length past) y))
    (λ i d h. absurd (omega (arith, h)))
    (λ k none.
    let a = attempt_at o e past k in
    let reach = reach_of c zone o object v a (number_after v.sent k) in
    numbered_by c zone o object l (length past) k a.state a.moment (gap_of c zone o object a (number_after v.sent k)) reach earlier reach.heard refl refl)
    (λ k f. λ i d h. absurd (omega (arith, h))))

pub due_for_numbered : (c : Config) (zone : Zone) (o : ℕ) (object : Object) (l : ℕ) (past : List Event)
    → All (λ n. n.number ≡ number_carried n.kind (notices_sent (last_problem c zone o object (up_to past n.event)))) (due_for c zone o object l past)
due_for_numbered c zone o object l past =
    due_for_each c zone o object l (λ so_far n. n.number ≡ number_carried n.kind (notices_sent (last_problem c zone o object so_far))) (due_at_numbered c zone o object l) past
