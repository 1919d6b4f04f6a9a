-- An acknowledgement goes on step by step.
use Rattle.std.proofs.Common.{◌≡◌, ℕ, Bool, true, false, not, ◌&&◌, ◌||◌, ◌==◌, List, [], ◌∷◌, Option, None, Some, is_some, get_or, if◌then◌else◌, refl, sym, ap, ◌∙◌}
use Rattle.std.specs.List.{list_all}
use Rattle.std.specs.Option.{option_map}
use Rattle.std.proofs.lemmas.Bool.{eqb-true}
use Rattle.std.proofs.lemmas.Option.{same_Some}
use Rattle.due_model.specs.declared.event.Event.{Event}
use Rattle.due_model.specs.declared.event.EventKind.{EventKind}
use Rattle.due_model.specs.declared.event.EventKind.TheVariants.{Ack, AckRemoved, OwnSwitch, Clock, Downtime, Flapping, Hard, Program}
use Rattle.due_model.specs.declared.state.State.{State}
use Rattle.due_model.specs.declared.state.State.TheVariants as state
use Rattle.due_model.specs.claims.Acknowledgements.{acked, acknowledgement, acknowledges, ends_ack, last_ack, outlasts, since_ack}
use Rattle.due_model.specs.Acknowledgements.{ack_after}
use Rattle.due_model.specs.claims.Readings.{hard, hard_after, is_ok_state, is_problem_state}
use Rattle.due_model.specs.claims.Rules.{same_state, state_number}

-- ---- states

pub same_state_self : (s : State) → same_state s s ≡ true
same_state_self state.Pending = refl
same_state_self state.Up = refl
same_state_self state.Down = refl
same_state_self state.Unreachable = refl
same_state_self state.Fine = refl
same_state_self state.Warning = refl
same_state_self state.Unknown = refl
same_state_self state.Critical = refl

-- the states in the order of their numbers
abbrev states : List State
states = state.Pending ∷ state.Up ∷ state.Down ∷ state.Unreachable ∷ state.Fine ∷ state.Warning ∷ state.Unknown ∷ state.Critical ∷ []

abbrev of_number : ℕ → State
of_number n = get_or states n state.Pending

of_its_number : (s : State) → of_number (state_number s) ≡ s
of_its_number state.Pending = refl
of_its_number state.Up = refl
of_its_number state.Down = refl
of_its_number state.Unreachable = refl
of_its_number state.Fine = refl
of_its_number state.Warning = refl
of_its_number state.Unknown = refl
of_its_number state.Critical = refl

-- states that are one are equal
pub same_state_is : (a b : State) → same_state a b ≡ true → a ≡ b
same_state_is a b same =
    sym (of_its_number a) ∙ ap of_number (eqb-true (state_number a) (state_number b) same) ∙ of_its_number b

-- ---- booleans

and_first : (a b : Bool) → (a && b) ≡ true → a ≡ true
and_first true b h = refl
and_first false b h = cc

and_second : (a b : Bool) → (a && b) ≡ true → b ≡ true
and_second true b h = h
and_second false b h = cc

or_true : (a b : Bool) → b ≡ true → (a || b) ≡ true
or_true true b h = refl
or_true false b h = h

-- ---- the step

-- unless it is sticky, the state is that of an acknowledgement that outlasts all
same_now : (o : ℕ) (past : List Event) (sticky : Bool) (s : State) → last_ack o past ≡ Some (sticky, s)
    → list_all (outlasts o sticky s) (since_ack o past) ≡ true → (sticky || same_state (hard o past) s) ≡ true
same_now o [] sticky s is all = cc
same_now o (e ∷ past) sticky s is all = by_ack (acknowledges o e.kind (hard o (e ∷ past))) is all
  where
    by_ack : (a : Option Bool)
        → (elim a as (λ _. Option (Bool × State)) [ None ↦ last_ack o past | Some new ↦ Some (new, hard o (e ∷ past)) ]) ≡ Some (sticky, s)
        → list_all (outlasts o sticky s) (elim a as (λ _. List (List Event)) [ None ↦ (e ∷ past) ∷ since_ack o past | Some new ↦ [] ]) ≡ true
        → (sticky || same_state (hard o (e ∷ past)) s) ≡ true
    by_ack None is all = and_second (not (ends_ack o e.kind)) _ (and_first (outlasts o sticky s (e ∷ past)) _ all)
    by_ack (Some new) is all =
        let state : hard o (e ∷ past) ≡ s = ap (λ (p : Bool × State). p.1) (same_Some (new, hard o (e ∷ past)) (sticky, s) is) in
        or_true sticky _ (ap (λ t. same_state t s) state ∙ same_state_self s)

-- what is kept by the last acknowledgement and the pasts since
abbrev kept_by : ℕ → Option (Bool × State) → List (List Event) → Option Bool
kept_by o last since =
    if (elim last as (λ _. Bool) [ None ↦ false | Some ack ↦ list_all (outlasts o ack.0 ack.1) since ])
    then option_map (λ ack. ack.0) last else None

none_kept : (o : ℕ) (k : EventKind) (old : State) → acknowledges o k old ≡ None → ack_after o k old None ≡ None
none_kept o Clock old is = refl
none_kept o (Program on) old is = refl
none_kept o (Hard p s) old is = by_test (p.0 == o)
  where
    by_test : (mine : Bool) → (if mine then None else None) ≡ (let none : Option Bool = None in none)
    by_test true = refl
    by_test false = refl
none_kept o (Downtime p change) old is = refl
none_kept o (Flapping p starts) old is = refl
none_kept o (Ack p ack) old is = is
none_kept o (AckRemoved p) old is = by_test (p.0 == o)
  where
    by_test : (mine : Bool) → (if mine then None else None) ≡ (let none : Option Bool = None in none)
    by_test true = refl
    by_test false = refl
none_kept o (OwnSwitch p on) old is = refl

-- an event that doesn't acknowledge, after an acknowledgement that outlasts all before
goes_on : (o m : ℕ) (k : EventKind) (past : List Event) (sticky : Bool) (s : State) → acknowledges o k (hard o past) ≡ None
    → (sticky || same_state (hard o past) s) ≡ true
    → (if outlasts o sticky s (record { moment = m; kind = k } ∷ past) then Some sticky else None) ≡ ack_after o k (hard o past) (Some sticky)
goes_on o m Clock past sticky s none same = ap (λ (b : Bool). if b then Some sticky else None) same
goes_on o m (Program on) past sticky s none same = ap (λ (b : Bool). if b then Some sticky else None) same
goes_on o m (Downtime p change) past sticky s none same = ap (λ (b : Bool). if b then Some sticky else None) same
goes_on o m (Flapping p starts) past sticky s none same = ap (λ (b : Bool). if b then Some sticky else None) same
goes_on o m (Ack p new) past sticky s none same = by_test (p.0 == o && is_problem_state (hard o past)) none
  where
    by_test : (acks : Bool) → (if acks then Some new.sticky else None) ≡ None
        → (if (sticky || same_state (hard o past) s) then Some sticky else None) ≡ (if acks then Some new.sticky else Some sticky)
    by_test true h = cc
    by_test false h = ap (λ (b : Bool). if b then Some sticky else None) same
goes_on o m (AckRemoved p) past sticky s none same = by_test (p.0 == o)
  where
    by_test : (mine : Bool) → (if (not mine && (sticky || same_state (hard o past) s)) then Some sticky else None) ≡ (if mine then None else Some sticky)
    by_test true = refl
    by_test false = ap (λ (b : Bool). if b then Some sticky else None) same
goes_on o m (OwnSwitch p on) past sticky s none same = ap (λ (b : Bool). if b then Some sticky else None) same
goes_on o m (Hard p t) past sticky s none same = by_test (p.0 == o) (is_ok_state t) sticky same
  where
    by_test : (mine ok st : Bool) → (st || same_state (hard o past) s) ≡ true
        → (if (not (mine && ok) && (st || same_state (if mine then t else hard o past) s)) then Some st else None)
        ≡ (if mine then (if (not ok && (st || same_state t (hard o past))) then Some st else None) else Some st)
    by_test false ok st same = ap (λ (b : Bool). if b then Some st else None) same
    by_test true true st same = refl
    by_test true false true same = refl
    by_test true false false same = ap (λ u. if same_state t u then Some false else None) (sym (same_state_is (hard o past) s same))

pushed : (o m : ℕ) (k : EventKind) (past : List Event) → acknowledges o k (hard o past) ≡ None
    → (last : Option (Bool × State)) → last_ack o past ≡ last
    → kept_by o last ((record { moment = m; kind = k } ∷ past) ∷ since_ack o past) ≡ ack_after o k (hard o past) (kept_by o last (since_ack o past))
pushed o m k past none None is = sym (none_kept o k (hard o past) none)
pushed o m k past none (Some ack) is = by_all (list_all (outlasts o ack.0 ack.1) (since_ack o past)) refl
  where
    by_all : (all : Bool) → list_all (outlasts o ack.0 ack.1) (since_ack o past) ≡ all
        → (if (outlasts o ack.0 ack.1 (record { moment = m; kind = k } ∷ past) && all) then Some ack.0 else None)
        ≡ ack_after o k (hard o past) (if all then Some ack.0 else None)
    by_all true is_all = with_true (outlasts o ack.0 ack.1 (record { moment = m; kind = k } ∷ past))
        ∙ goes_on o m k past ack.0 ack.1 none (same_now o past ack.0 ack.1 is is_all)
      where
        with_true : (b : Bool) → (if (b && true) then Some ack.0 else None) ≡ (if b then Some ack.0 else None)
        with_true true = refl
        with_true false = refl
    by_all false is_all = with_false (outlasts o ack.0 ack.1 (record { moment = m; kind = k } ∷ past)) ∙ sym (none_kept o k (hard o past) none)
      where
        with_false : (b : Bool) → (if (b && false) then Some ack.0 else None) ≡ None
        with_false true = refl
        with_false false = refl

-- an event that acknowledges gives the object no state
acks_state : (o : ℕ) (k : EventKind) (old : State) (a : Option Bool) → acknowledges o k (hard_after o k old) ≡ a → acknowledges o k old ≡ a
acks_state o Clock old a is = is
acks_state o (Program on) old a is = is
acks_state o (Hard p s) old a is = is
acks_state o (Downtime p change) old a is = is
acks_state o (Flapping p starts) old a is = is
acks_state o (Ack p ack) old a is = is
acks_state o (AckRemoved p) old a is = is
acks_state o (OwnSwitch p on) old a is = is

acked_after : (o : ℕ) (k : EventKind) (old : State) (kept : Option Bool) (sticky : Bool) → acknowledges o k old ≡ Some sticky → Some sticky ≡ ack_after o k old kept
acked_after o Clock old kept sticky is = cc
acked_after o (Program on) old kept sticky is = cc
acked_after o (Hard p s) old kept sticky is = cc
acked_after o (Downtime p change) old kept sticky is = cc
acked_after o (Flapping p starts) old kept sticky is = cc
acked_after o (Ack p new) old kept sticky is = by_test (p.0 == o && is_problem_state old) is
  where
    by_test : (acks : Bool) → (if acks then Some new.sticky else None) ≡ Some sticky → Some sticky ≡ (if acks then Some new.sticky else kept)
    by_test true h = sym h
    by_test false h = cc
acked_after o (AckRemoved p) old kept sticky is = cc
acked_after o (OwnSwitch p on) old kept sticky is = cc

step : (o m : ℕ) (k : EventKind) (past : List Event) (a : Option Bool) → acknowledges o k (hard_after o k (hard o past)) ≡ a
    → kept_by o (elim a as (λ _. Option (Bool × State)) [ None ↦ last_ack o past | Some new ↦ Some (new, hard_after o k (hard o past)) ])
    (elim a as (λ _. List (List Event)) [ None ↦ (record { moment = m; kind = k } ∷ past) ∷ since_ack o past | Some new ↦ [] ])
    ≡ ack_after o k (hard o past) (acknowledgement o past)
step o m k past None is = pushed o m k past (acks_state o k (hard o past) None is) (last_ack o past) refl
step o m k past (Some new) is = acked_after o k (hard o past) (acknowledgement o past) new (acks_state o k (hard o past) (Some new) is)

-- the acknowledgement after an event
pub acknowledgement_after : (o : ℕ) (e : Event) (past : List Event)
    → acknowledgement o (e ∷ past) ≡ ack_after o e.kind (hard o past) (acknowledgement o past)
acknowledgement_after o e past = step o e.moment e.kind past (acknowledges o e.kind (hard_after o e.kind (hard o past))) refl

-- a problem is acknowledged where there is an acknowledgement of it
pub acked_is : (o : ℕ) (past : List Event) → acked o past ≡ is_some (acknowledgement o past)
acked_is o past = by_last (last_ack o past)
  where
    by_last : (last : Option (Bool × State))
        → (elim last as (λ _. Bool) [ None ↦ false | Some ack ↦ list_all (outlasts o ack.0 ack.1) (since_ack o past) ])
        ≡ is_some (kept_by o last (since_ack o past))
    by_last None = refl
    by_last (Some ack) = by_all (list_all (outlasts o ack.0 ack.1) (since_ack o past))
      where
        by_all : (all : Bool) → all ≡ is_some (if all then Some ack.0 else None)
        by_all true = refl
        by_all false = refl
