-- What holds of each notice, from what holds of the notices that an event adds.
use Rattle.std.proofs.Common.{◌≡◌, ℕ, suc, ◌+◌, ◌-◌, ◌<◌, Bool, true, false, not, ◌||◌, ◌&&◌, List, [], ◌∷◌, length, get_or, drop, All, Option, None, Some, refl, sym, ap, ◌∙◌, subst, arith}
use Rattle.std.proofs.lemmas.Bool.{or_parts}
use Rattle.std.proofs.lemmas.List.Elements.{All-nil, All-append}
use Rattle.due_model.specs.declared.config.Config.{Config}
use Rattle.due_model.specs.declared.config.Object.{Object}
use Rattle.due_model.specs.declared.config.ObjectId.{ObjectId}
use Rattle.due_model.specs.declared.event.Event.{Event}
use Rattle.due_model.specs.declared.notice.Kind.{Kind}
use Rattle.due_model.specs.declared.notice.Notice.{Notice}
use Rattle.due_model.specs.declared.notice.Outcome.{Outcome}
use Rattle.due_model.specs.declared.notice.Outcome.TheVariants.{Nothing, Sent, Suppressed}
use Rattle.due_model.specs.declared.zone.Zone.{Zone}
use Rattle.due_model.specs.claims.Due.{notices, due_for, due_at}
use Rattle.due_model.specs.claims.Histories.{before, outcome, hist, host_holds, view, down_with_host, ended_at}
use Rattle.due_laws.specs.Laws.{up_to, TellsOfEvent, NothingHoldsBack}
use Rattle.due_model.specs.claims.Readings.{moment, hard, flapping, down, is_problem_state}
use Rattle.due_model.specs.declared.rules.Attempt.{Attempt}
use Rattle.due_model.specs.claims.Rules.{is_of_problem, is_told_in_downtime}
use Rattle.due_model.specs.claims.Receivers.{receivers}
use Rattle.lemmas.proofs.Notices.{the_notice, notices_to_each}
use Rattle.due_laws.proofs.NoticeOrder.{due_at_event, due_for_below}
use Rattle.due_laws.proofs.Verdicts.{Passes, passes_from_none, and_second, problem_waits_for_downtimes, attempt_at, outcome_cases}

up_to-cons : (e : Event) (past : List Event) (i : ℕ) → i < length past → up_to (e ∷ past) i ≡ up_to past i
up_to-cons e past i h =
    let n : length (e ∷ past) - (i + 1) ≡ suc (length past - (i + 1)) = omega arith in
    ap (λ k. drop k (e ∷ past)) n

up_to-all : (past : List Event) (i : ℕ) → i + 1 ≡ length past → up_to past i ≡ past
up_to-all past i h = let n : length past - (i + 1) ≡ 0 = omega arith in ap (λ k. drop k past) n

-- what holds of the notices that each event adds, with the events up to it, holds of each notice
pub due_for_each : (c : Config) (zone : Zone) (o : ℕ) (object : Object) (l : ℕ) (Q : List Event → Notice → Type 0)
    → ((e : Event) (past : List Event) → All (Q (e ∷ past)) (due_at c zone o object l e past))
    → (past : List Event) → All (λ n. Q (up_to past n.event) n) (due_for c zone o object l past)
due_for_each c zone o object l Q each [] = All-nil (λ n. Q (up_to [] n.event) n)
due_for_each c zone o object l Q each (e ∷ past) =
    let so_far = due_for c zone o object l past in
    let now = due_at c zone o object l e past in
    let below = due_for_below c zone o object l past in
    let at = due_at_event c zone o object l e past in
    let before_it = due_for_each c zone o object l Q each past in
    All-append (λ n. Q (up_to (e ∷ past) n.event) n) so_far now
    (λ k d h. subst (λ xs. Q xs (get_or so_far k d)) (sym (up_to-cons e past (get_or so_far k d).event (below k d h))) (before_it k d h))
    (λ k d h.
    let here : (get_or now k d).event ≡ length past = at k d h in
    let whole : (get_or now k d).event + 1 ≡ length (e ∷ past) = omega arith in
    subst (λ xs. Q xs (get_or now k d)) (sym (up_to-all (e ∷ past) (get_or now k d).event whole)) (each e past k d h))

pub due_each : (c : Config) (o : ℕ) (found : Option Object) (Q : Notice → Type 0) (list : Object → List Notice)
    → ((object : Object) → found ≡ Some object → All Q (list object)) → All Q (elim found as (λ _. List Notice) [ None ↦ [] | Some object ↦ list object ])
due_each c o None Q list h = All-nil Q
due_each c o (Some object) Q list h = h object refl

-- what holds of an outcome's notice to each contact
abbrev pub SentGives : (o l event : ℕ) → (Notice → Type 0) → Outcome → Type 0
SentGives o l event Q Nothing = Unit {0}
SentGives o l event Q (Sent k s number m gap reach) = (contact : ℕ) → Q (the_notice o l event number (record { kind = k; state = s; moment = m }) contact)
SentGives o l event Q (Suppressed k s number m f) = Unit {0}

-- what holds of an outcome's notice to each contact holds of each of its notices
pub notices_each : (c : Config) (zone : Zone) (o : ℕ) (object : Object) (l event : ℕ) (Q : Notice → Type 0) (x : Outcome) → SentGives o l event Q x → All Q (notices c zone o object l event x)
notices_each c zone o object l event Q Nothing h = All-nil Q
notices_each c zone o object l event Q (Sent k s number m gap reach) h =
    let a : Attempt = record { kind = k; state = s; moment = m } in
    let ks = receivers c zone o object a number reach.standing in
    notices_to_each c zone o object l event number a reach.told Q ks (λ i d within. h (get_or ks i d))
notices_each c zone o object l event Q (Suppressed k s number m f) h = All-nil Q

-- what holds of the notice of each attempt that passes the filters holds of each notice that an event adds
pub due_at_each : (c : Config) (zone : Zone) (o : ℕ) (object : Object) (l : ℕ) (e : Event) (past : List Event) (Q : Notice → Type 0)
    → ((k : Kind) (number contact : ℕ) → Passes (view c zone o object e past (before o e past (hist c zone o object past)) (ended_at c zone o object e past (hist c zone o object past))) (attempt_at o e past k)
    → Q (the_notice o l (length past) number (attempt_at o e past k) contact))
    → All Q (due_at c zone o object l e past)
due_at_each c zone o object l e past Q h =
    let history = hist c zone o object past in
    notices_each c zone o object l (length past) Q (outcome c zone o object e past history)
    (outcome_cases c zone o object e past history (SentGives o l (length past) Q) tt
    (λ k none contact. h k _ contact (passes_from_none c zone (view c zone o object e past (before o e past history) (ended_at c zone o object e past history)) (attempt_at o e past k) none))
    (λ k f. tt))

-- each notice tells of one of the events

tells_at : (c : Config) (zone : Zone) (o : ℕ) (object : Object) (l : ℕ) (e : Event) (past : List Event)
    → All (λ n. (n.moment ≡ moment (e ∷ past)) × (n.state ≡ hard o (e ∷ past)) × (n.object.0 ≡ o) × (n.lane.0 ≡ l)) (due_at c zone o object l e past)
tells_at c zone o object l e past =
    due_at_each c zone o object l e past (λ n. (n.moment ≡ moment (e ∷ past)) × (n.state ≡ hard o (e ∷ past)) × (n.object.0 ≡ o) × (n.lane.0 ≡ l))
    (λ k number contact passes. (refl, refl, refl, refl))

pub due_for_tells : (c : Config) (zone : Zone) (o : ℕ) (object : Object) (l : ℕ) (past : List Event) → All (TellsOfEvent past o l) (due_for c zone o object l past)
due_for_tells c zone o object l past =
    let below = due_for_below c zone o object l past in
    let told = due_for_each c zone o object l (λ so_far n. (n.moment ≡ moment so_far) × (n.state ≡ hard o so_far) × (n.object.0 ≡ o) × (n.lane.0 ≡ l)) (tells_at c zone o object l) past in
    λ k d h. record { event = below k d h; moment = (told k d h).0; state = (told k d h).1; object = (told k d h).2; lane = (told k d h).3 }

-- nothing holds a problem or a recovery back that goes out

host_is_up : (o : ℕ) (object : Object) (past : List Event) (host : Option ObjectId) → (down o past || elim host as (λ _. Bool) [ None ↦ false | Some h ↦ down h.0 past ]) ≡ false
    → (h : ObjectId) → host ≡ Some h → down h.0 past ≡ false
host_is_up o object past None e h is = cc
host_is_up o object past (Some g) e h is =
    let same : g ≡ h = cc in
    ap (λ (x : ObjectId). down x.0 past) (sym same) ∙ (or_parts (down o past) (down g.0 past) e).1

nothing_holds_back : (c : Config) (zone : Zone) (o : ℕ) (object : Object) (e : Event) (past : List Event) (earlier : List Outcome) (over : Bool) (k : Kind)
    → Passes (view c zone o object e past earlier over) (attempt_at o e past k) → is_of_problem k ≡ true → NothingHoldsBack o object (e ∷ past)
nothing_holds_back c zone o object e past earlier over k passes of =
    let up : down_with_host o object (e ∷ past) ≡ false = and_second (not (is_told_in_downtime k)) (down_with_host o object (e ∷ past)) passes.down (problem_waits_for_downtimes k of) in
    record {
      switched_on = passes.program;
      steady = and_second (is_of_problem k) (flapping o (e ∷ past)) passes.flapping of;
      no_downtime = (or_parts (down o (e ∷ past)) (elim object.host as (λ _. Bool) [ None ↦ false | Some host ↦ down host.0 (e ∷ past) ]) up).0;
      no_downtime_of_host = host_is_up o object (e ∷ past) object.host up;
    }

pub due_for_held_back : (c : Config) (zone : Zone) (o : ℕ) (object : Object) (l : ℕ) (past : List Event)
    → All (λ n. is_of_problem n.kind ≡ true → NothingHoldsBack o object (up_to past n.event)) (due_for c zone o object l past)
due_for_held_back c zone o object l past =
    due_for_each c zone o object l (λ so_far n. is_of_problem n.kind ≡ true → NothingHoldsBack o object so_far)
    (λ e earlier. due_at_each c zone o object l e earlier (λ n. is_of_problem n.kind ≡ true → NothingHoldsBack o object (e ∷ earlier))
    (λ k number contact passes of. nothing_holds_back c zone o object e earlier (before o e earlier (hist c zone o object earlier)) (ended_at c zone o object e earlier (hist c zone o object earlier)) k passes of))
    past

-- a host that isn't UP holds its services back, where that is chosen

no_problem : (choice : Bool) (past : List Event) (host : Option ObjectId) → choice ≡ true
    → (choice && elim host as (λ _. Bool) [ None ↦ false | Some h ↦ is_problem_state (hard h.0 past) ]) ≡ false
    → (h : ObjectId) → host ≡ Some h → is_problem_state (hard h.0 past) ≡ false
no_problem choice past None chosen none h is = cc
no_problem choice past (Some g) chosen none h is =
    let same : g ≡ h = cc in
    ap (λ (x : ObjectId). is_problem_state (hard x.0 past)) (sym same) ∙ and_second choice (is_problem_state (hard g.0 past)) none chosen

pub due_for_hosts : (c : Config) (zone : Zone) (o : ℕ) (object : Object) (l : ℕ) (past : List Event) → c.choices.host_down ≡ true
    → All (λ n. is_of_problem n.kind ≡ true → (h : ObjectId) → object.host ≡ Some h → is_problem_state (hard h.0 (up_to past n.event)) ≡ false) (due_for c zone o object l past)
due_for_hosts c zone o object l past chosen =
    due_for_each c zone o object l (λ so_far n. is_of_problem n.kind ≡ true → (h : ObjectId) → object.host ≡ Some h → is_problem_state (hard h.0 so_far) ≡ false)
    (λ e earlier. due_at_each c zone o object l e earlier (λ n. is_of_problem n.kind ≡ true → (h : ObjectId) → object.host ≡ Some h → is_problem_state (hard h.0 (e ∷ earlier)) ≡ false)
    (λ k number contact passes of.
    no_problem c.choices.host_down (e ∷ earlier) object.host chosen (and_second (is_of_problem k) (host_holds c object (e ∷ earlier)) passes.host of)))
    past
