-- The statuses after an event are the definitions'.
use Rattle.std.proofs.Common.{◌≡◌, ◌≢◌, ℕ, zero, suc, ◌<◌, ◌≤◌, Bool, true, false, cond, ◌&&◌, ◌==◌, List, [], ◌∷◌, length, set, get_or, replicate, Option, Some, None, refl, sym, ap, subst, ◌∙◌, arith, inl, inr, get_or-set_same, get_or-set_other, length-set}
use Rattle.std.proofs.lemmas.Bool.{cases_eq, eq-eqb, ne_eqb}
use Rattle.std.proofs.lemmas.List.{length-replicate, set-set, set-get_or}
use Rattle.std.proofs.lemmas.Option.{same_Some, slice_get_within}
use Rattle.due_model.specs.declared.config.Config.{Config}
use Rattle.due_model.specs.declared.config.ObjectId.{ObjectId}
use Rattle.due_model.specs.declared.event.Acknowledgement.{Acknowledgement}
use Rattle.due_model.specs.declared.event.DowntimeChange.{DowntimeChange}
use Rattle.due_model.specs.declared.event.DowntimeChange.TheVariants as change
use Rattle.due_model.specs.declared.event.Event.{Event}
use Rattle.due_model.specs.declared.event.EventKind.{EventKind}
use Rattle.due_model.specs.declared.event.EventKind.TheVariants as event
use Rattle.due_model.specs.declared.rules.ObjectStatus.{ObjectStatus}
use Rattle.due_model.specs.declared.state.State.{State}
use Rattle.due_model.specs.declared.state.State.TheVariants.{Pending}
use Rattle.due_model.specs.Acknowledgements.{ack_after, kept_in_state}
use Rattle.due_model.specs.claims.Histories.{status_after}
use Rattle.due_model.specs.claims.Proper.{IsProper, KindIsProper}
use Rattle.due_model.specs.claims.Readings.{depth, depth_after, depth_changed, flapping, hard, is_problem_state, switched, switched_after}
use Rattle.lemmas.proofs.Acknowledgements.{acknowledgement_after}
use Rattle.decider.specs.claims.Statuses.{StatusLists, StatusesFit, status_at}
use Rattle.decider.specs.Statuses.{named_by, no_statuses, status_by, statuses_after, with_ack, with_depth, with_flapping, with_state, with_status, with_switch}

-- ---- one status of a list

abbrev made : State → ℕ → Bool → Option Bool → Option Bool → ObjectStatus
made state depth flaps ack switched = record { state = state; depth = depth; flapping = flaps; acknowledged = ack; switched = switched }

module _ (s : StatusLists) (n p : ℕ) (x : ObjectStatus) (states : length s.states ≡ n) (depths : length s.depths ≡ n) (flaps : length s.flaps ≡ n) (acks : length s.acks ≡ n) (switches : length s.switches ≡ n) (within : p < n)
  where
    written : status_at (with_status s p x) p ≡ x
    written =
        let flaps_of = get_or (set s.flaps p x.flapping) p false in
        let ack_of = get_or (set s.acks p x.acknowledged) p None in
        let switch_of = get_or (set s.switches p x.switched) p None in
        ap (λ (state : State). made state (get_or (set s.depths p x.depth) p 0) flaps_of ack_of switch_of) (get_or-set_same s.states p x.state Pending (omega (arith, states, within)))
        ∙ ap (λ (depth : ℕ). made x.state depth flaps_of ack_of switch_of) (get_or-set_same s.depths p x.depth 0 (omega (arith, depths, within)))
        ∙ ap (λ (flaps : Bool). made x.state x.depth flaps ack_of switch_of) (get_or-set_same s.flaps p x.flapping false (omega (arith, flaps, within)))
        ∙ ap (λ (ack : Option Bool). made x.state x.depth x.flapping ack switch_of) (get_or-set_same s.acks p x.acknowledged None (omega (arith, acks, within)))
        ∙ ap (λ (switched : Option Bool). made x.state x.depth x.flapping x.acknowledged switched) (get_or-set_same s.switches p x.switched None (omega (arith, switches, within)))

others : (s : StatusLists) (p o : ℕ) (x : ObjectStatus) → o ≢ p → status_at (with_status s p x) o ≡ status_at s o
others s p o x ne =
    let flaps_of = get_or (set s.flaps p x.flapping) o false in
    let ack_of = get_or (set s.acks p x.acknowledged) o None in
    let switch_of = get_or (set s.switches p x.switched) o None in
    ap (λ (state : State). made state (get_or (set s.depths p x.depth) o 0) flaps_of ack_of switch_of) (get_or-set_other s.states p o x.state Pending ne)
    ∙ ap (λ (depth : ℕ). made (get_or s.states o Pending) depth flaps_of ack_of switch_of) (get_or-set_other s.depths p o x.depth 0 ne)
    ∙ ap (λ (flaps : Bool). made (get_or s.states o Pending) (get_or s.depths o 0) flaps ack_of switch_of) (get_or-set_other s.flaps p o x.flapping false ne)
    ∙ ap (λ (ack : Option Bool). made (get_or s.states o Pending) (get_or s.depths o 0) (get_or s.flaps o false) ack switch_of) (get_or-set_other s.acks p o x.acknowledged None ne)
    ∙ ap (λ (switched : Option Bool). made (get_or s.states o Pending) (get_or s.depths o 0) (get_or s.flaps o false) (get_or s.acks o None) switched) (get_or-set_other s.switches p o x.switched None ne)

-- a state that is replaced, and put back
pub put_back : (s : StatusLists) (p : ℕ) (state : State) → with_state (with_state s p state) p (get_or s.states p Pending) ≡ s
put_back s p state =
    ap (λ (states : List State). let lists : StatusLists = record { states = states; depths = s.depths; flaps = s.flaps; acks = s.acks; switches = s.switches } in lists)
    (set-set s.states p state (get_or s.states p Pending) ∙ set-get_or s.states p Pending)

-- ---- an event

-- an event leaves the status of an object that it doesn't name
left_alone : (k : EventKind) (p : ObjectId) → named_by k ≡ Some p → (o : ℕ) → p.0 ≢ o → (x : ObjectStatus) → status_by o k x ≡ x
left_alone event.Clock p is o ne x = refl
left_alone (event.Program on) p is o ne x = refl
left_alone (event.Hard q state) p is o ne x =
    ap (λ (b : Bool). made (cond b state x.state) x.depth x.flapping (cond b (kept_in_state x.acknowledged x.state state) x.acknowledged) x.switched) (ne_eqb q.0 o (λ e. ne (sym (ap (λ (i : ObjectId). i.0) (same_Some q p is)) ∙ e)))
left_alone (event.Downtime q change) p is o ne x =
    ap (λ (b : Bool). made x.state (cond b (depth_changed change x.depth) x.depth) x.flapping x.acknowledged x.switched) (ne_eqb q.0 o (λ e. ne (sym (ap (λ (i : ObjectId). i.0) (same_Some q p is)) ∙ e)))
left_alone (event.Flapping q starts) p is o ne x =
    ap (λ (b : Bool). made x.state x.depth (cond b starts x.flapping) x.acknowledged x.switched) (ne_eqb q.0 o (λ e. ne (sym (ap (λ (i : ObjectId). i.0) (same_Some q p is)) ∙ e)))
left_alone (event.Ack q ack) p is o ne x =
    ap (λ (b : Bool). made x.state x.depth x.flapping (cond (b && is_problem_state x.state) (Some ack.sticky) x.acknowledged) x.switched)
    (ne_eqb q.0 o (λ e. ne (sym (ap (λ (i : ObjectId). i.0) (same_Some q p is)) ∙ e)))
left_alone (event.AckRemoved q) p is o ne x =
    ap (λ (b : Bool). made x.state x.depth x.flapping (cond b None x.acknowledged) x.switched) (ne_eqb q.0 o (λ e. ne (sym (ap (λ (i : ObjectId). i.0) (same_Some q p is)) ∙ e)))
left_alone (event.OwnSwitch q on) p is o ne x =
    ap (λ (b : Bool). made x.state x.depth x.flapping x.acknowledged (cond b (Some on) x.switched)) (ne_eqb q.0 o (λ e. ne (sym (ap (λ (i : ObjectId). i.0) (same_Some q p is)) ∙ e)))

-- an event that names nothing leaves all
pub none_named : (k : EventKind) → named_by k ≡ None → (o : ℕ) (x : ObjectStatus) → status_by o k x ≡ x
none_named event.Clock is o x = refl
none_named (event.Program on) is o x = refl
none_named (event.Hard q state) is o x = cc
none_named (event.Downtime q change) is o x = cc
none_named (event.Flapping q starts) is o x = cc
none_named (event.Ack q ack) is o x = cc
none_named (event.AckRemoved q) is o x = cc
none_named (event.OwnSwitch q on) is o x = cc

-- the status after an event is that before it, told the event
pub status_step : (o : ℕ) (e : Event) (past : List Event) → status_by o e.kind (status_after o past) ≡ status_after o (e ∷ past)
status_step o e past = ap (λ (ack : Option Bool). made (hard o (e ∷ past)) (depth o (e ∷ past)) (flapping o (e ∷ past)) ack (switched o (e ∷ past))) (sym (acknowledgement_after o e past))

-- an object that a proper event names is there
pub named_within : (c : Config) (k : EventKind) → KindIsProper c k → (p : ObjectId) → named_by k ≡ Some p → p.0 < length c.objects
named_within c event.Clock proper p is = cc
named_within c (event.Program on) proper p is = cc
named_within c (event.Hard q state) proper p is = subst (λ (i : ObjectId). i.0 < length c.objects) (same_Some q p is) (slice_get_within c.objects q.0 proper.0 proper.1)
named_within c (event.Downtime q change) proper p is = subst (λ (i : ObjectId). i.0 < length c.objects) (same_Some q p is) proper
named_within c (event.Flapping q starts) proper p is = subst (λ (i : ObjectId). i.0 < length c.objects) (same_Some q p is) proper
named_within c (event.Ack q ack) proper p is = subst (λ (i : ObjectId). i.0 < length c.objects) (same_Some q p is) proper
named_within c (event.AckRemoved q) proper p is = subst (λ (i : ObjectId). i.0 < length c.objects) (same_Some q p is) proper
named_within c (event.OwnSwitch q on) proper p is = subst (λ (i : ObjectId). i.0 < length c.objects) (same_Some q p is) proper

module _ (c : Config) (e : Event) (past : List Event) (s : StatusLists) (fit : StatusesFit (length c.objects) past s) (proper : IsProper c e) where
  counted : (named : Option ObjectId) → named_by e.kind ≡ named
      → StatusesFit (length c.objects) (e ∷ past) (elim named as (λ _. StatusLists) [ None ↦ s | Some o ↦ with_status s o.0 (status_by o.0 e.kind (status_at s o.0)) ])
  counted None is = record {
    states = fit.states;
    depths = fit.depths;
    flaps = fit.flaps;
    acks = fit.acks;
    switches = fit.switches;
    each = λ o. fit.each o ∙ sym (none_named e.kind is o (status_after o past)) ∙ status_step o e past;
  }
  counted (Some p) is =
      let within : p.0 < length c.objects = named_within c e.kind proper.kind p is in
      let x : ObjectStatus = status_by p.0 e.kind (status_at s p.0) in
      record {
        states = length-set s.states p.0 x.state ∙ fit.states;
        depths = length-set s.depths p.0 x.depth ∙ fit.depths;
        flaps = length-set s.flaps p.0 x.flapping ∙ fit.flaps;
        acks = length-set s.acks p.0 x.acknowledged ∙ fit.acks;
        switches = length-set s.switches p.0 x.switched ∙ fit.switches;
        each = λ o. elim (cases_eq p.0 o) [
          | inl e' ↦ subst (λ (i : ℕ). status_at (with_status s p.0 x) i ≡ status_after i (e ∷ past)) e'
              (written s (length c.objects) p.0 x fit.states fit.depths fit.flaps fit.acks fit.switches within ∙ ap (status_by p.0 e.kind) (fit.each p.0) ∙ status_step p.0 e past)
          | inr ne ↦ others s p.0 o x (λ e'. ne (sym e')) ∙ fit.each o ∙ sym (left_alone e.kind p is o ne (status_after o past)) ∙ status_step o e past
        ];
      }

  pub statuses_fit : StatusesFit (length c.objects) (e ∷ past) (statuses_after e.kind s)
  statuses_fit = counted (named_by e.kind) refl

-- an event changes one thing of the object that it names
abbrev lists_of : List State → List ℕ → List Bool → List (Option Bool) → List (Option Bool) → StatusLists
lists_of states depths flaps acks switches = record { states = states; depths = depths; flaps = flaps; acks = acks; switches = switches }

itself : (o : ℕ) → (o == o) ≡ true
itself o = eq-eqb o o refl

-- with what is left of an acknowledgement after an event
abbrev pub acked_by : StatusLists → (o : ℕ) → EventKind → StatusLists
acked_by s o k = with_ack s o (ack_after o k (get_or s.states o Pending) (get_or s.acks o None))

-- with the own switch after an event
abbrev pub switched_by : StatusLists → (o : ℕ) → EventKind → StatusLists
switched_by s o k = with_switch s o (switched_after o k (get_or s.switches o None))

-- what is written over itself stays
module _ (s : StatusLists) (p : ℕ) where
  abbrev same_states : List State
  same_states = set s.states p (get_or s.states p Pending)

  abbrev same_depths : List ℕ
  same_depths = set s.depths p (get_or s.depths p 0)

  abbrev same_flaps : List Bool
  same_flaps = set s.flaps p (get_or s.flaps p false)

  abbrev same_acks : List (Option Bool)
  same_acks = set s.acks p (get_or s.acks p None)

  abbrev same_switches : List (Option Bool)
  same_switches = set s.switches p (get_or s.switches p None)

pub hard_counted : (s : StatusLists) (p : ObjectId) (state : State) → with_state (acked_by s p.0 (event.Hard p state)) p.0 state ≡ statuses_after (event.Hard p state) s
hard_counted s p state =
    let acks = set s.acks p.0 (ack_after p.0 (event.Hard p state) (get_or s.states p.0 Pending) (get_or s.acks p.0 None)) in
    sym (
    ap (λ (b : Bool). lists_of (set s.states p.0 (cond b state (get_or s.states p.0 Pending))) (same_depths s p.0) (same_flaps s p.0) acks (same_switches s p.0)) (itself p.0)
    ∙ ap (λ (xs : List ℕ). lists_of (set s.states p.0 state) xs (same_flaps s p.0) acks (same_switches s p.0)) (set-get_or s.depths p.0 0)
    ∙ ap (λ (xs : List Bool). lists_of (set s.states p.0 state) s.depths xs acks (same_switches s p.0)) (set-get_or s.flaps p.0 false)
    ∙ ap (λ (xs : List (Option Bool)). lists_of (set s.states p.0 state) s.depths s.flaps acks xs) (set-get_or s.switches p.0 None))

pub depth_counted : (s : StatusLists) (p : ObjectId) (change : DowntimeChange) → with_depth s p.0 (depth_changed change (get_or s.depths p.0 0)) ≡ statuses_after (event.Downtime p change) s
depth_counted s p change =
    let d = get_or s.depths p.0 0 in
    let depths = set s.depths p.0 (depth_changed change d) in
    sym (
    ap (λ (b : Bool). lists_of (same_states s p.0) (set s.depths p.0 (cond b (depth_changed change d) d)) (same_flaps s p.0) (same_acks s p.0) (same_switches s p.0)) (itself p.0)
    ∙ ap (λ (xs : List State). lists_of xs depths (same_flaps s p.0) (same_acks s p.0) (same_switches s p.0)) (set-get_or s.states p.0 Pending)
    ∙ ap (λ (xs : List Bool). lists_of s.states depths xs (same_acks s p.0) (same_switches s p.0)) (set-get_or s.flaps p.0 false)
    ∙ ap (λ (xs : List (Option Bool)). lists_of s.states depths s.flaps xs (same_switches s p.0)) (set-get_or s.acks p.0 None)
    ∙ ap (λ (xs : List (Option Bool)). lists_of s.states depths s.flaps s.acks xs) (set-get_or s.switches p.0 None))

pub flapping_counted : (s : StatusLists) (p : ObjectId) (starts : Bool) → with_flapping s p.0 starts ≡ statuses_after (event.Flapping p starts) s
flapping_counted s p starts =
    let flaps = set s.flaps p.0 starts in
    sym (
    ap (λ (b : Bool). lists_of (same_states s p.0) (same_depths s p.0) (set s.flaps p.0 (cond b starts (get_or s.flaps p.0 false))) (same_acks s p.0) (same_switches s p.0)) (itself p.0)
    ∙ ap (λ (xs : List State). lists_of xs (same_depths s p.0) flaps (same_acks s p.0) (same_switches s p.0)) (set-get_or s.states p.0 Pending)
    ∙ ap (λ (xs : List ℕ). lists_of s.states xs flaps (same_acks s p.0) (same_switches s p.0)) (set-get_or s.depths p.0 0)
    ∙ ap (λ (xs : List (Option Bool)). lists_of s.states s.depths flaps xs (same_switches s p.0)) (set-get_or s.acks p.0 None)
    ∙ ap (λ (xs : List (Option Bool)). lists_of s.states s.depths flaps s.acks xs) (set-get_or s.switches p.0 None))

-- with these acknowledgements, and all else as it was
acks_alone : (s : StatusLists) (p : ℕ) (acks : List (Option Bool)) → lists_of (same_states s p) (same_depths s p) (same_flaps s p) acks (same_switches s p) ≡ record s { acks = acks }
acks_alone s p acks =
    ap (λ (xs : List State). lists_of xs (same_depths s p) (same_flaps s p) acks (same_switches s p)) (set-get_or s.states p Pending)
    ∙ ap (λ (xs : List ℕ). lists_of s.states xs (same_flaps s p) acks (same_switches s p)) (set-get_or s.depths p 0)
    ∙ ap (λ (xs : List Bool). lists_of s.states s.depths xs acks (same_switches s p)) (set-get_or s.flaps p false)
    ∙ ap (λ (xs : List (Option Bool)). lists_of s.states s.depths s.flaps acks xs) (set-get_or s.switches p None)

pub ack_counted : (s : StatusLists) (p : ObjectId) (ack : Acknowledgement) → acked_by s p.0 (event.Ack p ack) ≡ statuses_after (event.Ack p ack) s
ack_counted s p ack = sym (acks_alone s p.0 (set s.acks p.0 (ack_after p.0 (event.Ack p ack) (get_or s.states p.0 Pending) (get_or s.acks p.0 None))))

pub removal_counted : (s : StatusLists) (p : ObjectId) → acked_by s p.0 (event.AckRemoved p) ≡ statuses_after (event.AckRemoved p) s
removal_counted s p = sym (acks_alone s p.0 (set s.acks p.0 (ack_after p.0 (event.AckRemoved p) (get_or s.states p.0 Pending) (get_or s.acks p.0 None))))

pub switch_counted : (s : StatusLists) (p : ObjectId) (on : Bool) → switched_by s p.0 (event.OwnSwitch p on) ≡ statuses_after (event.OwnSwitch p on) s
switch_counted s p on =
    let switches = set s.switches p.0 (switched_after p.0 (event.OwnSwitch p on) (get_or s.switches p.0 None)) in
    sym (
    ap (λ (xs : List State). lists_of xs (same_depths s p.0) (same_flaps s p.0) (same_acks s p.0) switches) (set-get_or s.states p.0 Pending)
    ∙ ap (λ (xs : List ℕ). lists_of s.states xs (same_flaps s p.0) (same_acks s p.0) switches) (set-get_or s.depths p.0 0)
    ∙ ap (λ (xs : List Bool). lists_of s.states s.depths xs (same_acks s p.0) switches) (set-get_or s.flaps p.0 false)
    ∙ ap (λ (xs : List (Option Bool)). lists_of s.states s.depths s.flaps xs switches) (set-get_or s.acks p.0 None))

-- ---- how many downtimes can run

depth_changed_few : (change : DowntimeChange) (d : ℕ) → depth_changed change d ≤ suc d
depth_changed_few change.Start d = omega arith
depth_changed_few change.End d = omega arith
depth_changed_few change.Cancelled d = omega arith

depth_after_few : (o : ℕ) (k : EventKind) (d : ℕ) → depth_after o k d ≤ suc d
depth_after_few o event.Clock d = omega arith
depth_after_few o (event.Program on) d = omega arith
depth_after_few o (event.Hard p state) d = omega arith
depth_after_few o (event.Downtime p change) d = by_test (p.0 == o)
  where
    by_test : (b : Bool) → cond b (depth_changed change d) d ≤ suc d
    by_test true = depth_changed_few change d
    by_test false = omega arith
depth_after_few o (event.Flapping p starts) d = omega arith
depth_after_few o (event.Ack p ack) d = omega arith
depth_after_few o (event.AckRemoved p) d = omega arith
depth_after_few o (event.OwnSwitch p on) d = omega arith

-- no more than there were events
pub depth_few : (o : ℕ) (past : List Event) → depth o past ≤ length past
depth_few o [] = omega arith
depth_few o (e ∷ past) = omega (arith, depth_after_few o e.kind (depth o past), depth_few o past)

-- ---- nothing has happened

all_same : {X : Type 0} (n o : ℕ) (x : X) → get_or (replicate n x) o x ≡ x
all_same zero o x = refl
all_same (suc n) zero x = refl
all_same (suc n) (suc o) x = all_same n o x

abbrev no_ack : Option Bool
no_ack = None

pub none_fit : (n : ℕ) → StatusesFit n [] (no_statuses n)
none_fit n = record {
  states = length-replicate n Pending;
  depths = length-replicate n 0;
  flaps = length-replicate n false;
  acks = length-replicate n no_ack;
  switches = length-replicate n no_ack;
  each = λ o.
      let acks = get_or (replicate n no_ack) o no_ack in
      ap (λ (state : State). made state (get_or (replicate n 0) o 0) (get_or (replicate n false) o false) acks acks) (all_same n o Pending)
      ∙ ap (λ (depth : ℕ). made Pending depth (get_or (replicate n false) o false) acks acks) (all_same n o 0)
      ∙ ap (λ (flaps : Bool). made Pending 0 flaps acks acks) (all_same n o false)
      ∙ ap (λ (ack : Option Bool). made Pending 0 false ack ack) (all_same n o no_ack);
}
