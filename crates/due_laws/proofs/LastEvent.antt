-- A reading that each event either gives anew or leaves is that of the last event that gives it.
use Rattle.std.proofs.Common.{◌≡◌, ℕ, Bool, true, false, ◌==◌, List, [], ◌∷◌, ◌++◌, reverse, Option, None, Some, unwrap_or, if◌then◌else◌, refl, sym, ap, ◌∙◌, subst, inl, inr, append_assoc}
use Rattle.std.proofs.lemmas.List.{reverse-append, reverse-reverse}
use Rattle.std.proofs.lemmas.List.Elements.{All-nil, All-push}
use Rattle.due_model.specs.declared.event.Event.{Event}
use Rattle.due_model.specs.declared.event.EventKind.{EventKind}
use Rattle.due_model.specs.declared.event.EventKind.TheVariants.{Clock, Program, Hard, Downtime, Flapping, Ack, AckRemoved, OwnSwitch}
use Rattle.due_model.specs.declared.state.State.{State}
use Rattle.due_model.specs.declared.state.State.TheVariants.{Pending}
use Rattle.due_model.specs.claims.Readings.{program_on, switch_after, hard, hard_after, flapping, flapping_after, switched, switched_after}
use Rattle.due_model.specs.declared.config.Object.{Object}
use Rattle.due_model.specs.claims.Histories.{is_enabled}
use Rattle.due_laws.specs.Readings.{hard_state_of, flapping_of, own_switch_of, switch_of, IsOfLastEvent}

module _ {X : Type 0} (gives : EventKind → Option X) (first : X) (reading : List Event → X)
    (start : reading [] ≡ first) (step : (e : Event) (past : List Event) → reading (e ∷ past) ≡ unwrap_or (gives e.kind) (reading past)) where
  after_event : (e : Event) (past : List Event) (given : Option X) → gives e.kind ≡ given → IsOfLastEvent gives first (reverse past) (reading past)
      → IsOfLastEvent gives first (reverse past ++ e ∷ []) (reading (e ∷ past))
  after_event e past None is (inl (none, same)) =
      inl (All-push (λ x. gives x.kind ≡ None) (reverse past) e none is, step e past ∙ ap (λ g. unwrap_or g (reading past)) is ∙ same)
  after_event e past None is (inr (front, x, rest, split, it, none)) =
      inr (
        front,
        x,
        rest ++ e ∷ [],
        ap (λ xs. xs ++ e ∷ []) split ∙ append_assoc front (x ∷ rest) (e ∷ []),
        it ∙ ap Some (sym (step e past ∙ ap (λ g. unwrap_or g (reading past)) is)),
        All-push (λ y. gives y.kind ≡ None) rest e none is,
      )
  after_event e past (Some v) is so_far =
      inr (reverse past, e, [], refl, is ∙ ap Some (sym (step e past ∙ ap (λ g. unwrap_or g (reading past)) is)), All-nil (λ (y : Event). gives y.kind ≡ None))

  of_past : (past : List Event) → IsOfLastEvent gives first (reverse past) (reading past)
  of_past [] = inl (All-nil (λ (x : Event). gives x.kind ≡ None), start)
  of_past (e ∷ past) =
      subst (λ (feed : List Event). IsOfLastEvent gives first feed (reading (e ∷ past))) (sym (reverse-append (e ∷ []) past))
      (after_event e past (gives e.kind) refl (of_past past))

  pub of_feed : (feed : List Event) → IsOfLastEvent gives first feed (reading (reverse feed))
  of_feed feed = subst (λ (xs : List Event). IsOfLastEvent gives first xs (reading (reverse feed))) (reverse-reverse feed) (of_past (reverse feed))

given_if : {X : Type 0} (b : Bool) (x old : X) → (if b then x else old) ≡ unwrap_or (if b then Some x else None) old
given_if true x old = refl
given_if false x old = refl

hard_step : (o : ℕ) (k : EventKind) (old : State) → hard_after o k old ≡ unwrap_or (hard_state_of o k) old
hard_step o Clock old = refl
hard_step o (Program on) old = refl
hard_step o (Hard p s) old = given_if (p.0 == o) s old
hard_step o (Downtime p change) old = refl
hard_step o (Flapping p starts) old = refl
hard_step o (Ack p ack) old = refl
hard_step o (AckRemoved p) old = refl
hard_step o (OwnSwitch p on) old = refl

flapping_step : (o : ℕ) (k : EventKind) (old : Bool) → flapping_after o k old ≡ unwrap_or (flapping_of o k) old
flapping_step o Clock old = refl
flapping_step o (Program on) old = refl
flapping_step o (Hard p s) old = refl
flapping_step o (Downtime p change) old = refl
flapping_step o (Flapping p starts) old = given_if (p.0 == o) starts old
flapping_step o (Ack p ack) old = refl
flapping_step o (AckRemoved p) old = refl
flapping_step o (OwnSwitch p on) old = refl

switch_step : (k : EventKind) (old : Bool) → switch_after k old ≡ unwrap_or (switch_of k) old
switch_step Clock old = refl
switch_step (Program on) old = refl
switch_step (Hard p s) old = refl
switch_step (Downtime p change) old = refl
switch_step (Flapping p starts) old = refl
switch_step (Ack p ack) old = refl
switch_step (AckRemoved p) old = refl
switch_step (OwnSwitch p on) old = refl

pub hard_of_last : (o : ℕ) (feed : List Event) → IsOfLastEvent (hard_state_of o) Pending feed (hard o (reverse feed))
hard_of_last o feed = of_feed (hard_state_of o) Pending (hard o) refl (λ e past. hard_step o e.kind (hard o past)) feed

pub flapping_of_last : (o : ℕ) (feed : List Event) → IsOfLastEvent (flapping_of o) false feed (flapping o (reverse feed))
flapping_of_last o feed = of_feed (flapping_of o) false (flapping o) refl (λ e past. flapping_step o e.kind (flapping o past)) feed

pub switch_of_last : (feed : List Event) → IsOfLastEvent switch_of true feed (program_on (reverse feed))
switch_of_last feed = of_feed switch_of true program_on refl (λ e past. switch_step e.kind (program_on past)) feed

own_given : (b on : Bool) (own : Option Bool) (first : Bool) → unwrap_or (if b then Some on else own) first ≡ unwrap_or (if b then Some on else None) (unwrap_or own first)
own_given true on own first = refl
own_given false on own first = refl

own_switch_step : (o : ℕ) (object : Object) (k : EventKind) (own : Option Bool) → is_enabled object (switched_after o k own) ≡ unwrap_or (own_switch_of o k) (is_enabled object own)
own_switch_step o object Clock own = refl
own_switch_step o object (Program on) own = refl
own_switch_step o object (Hard p s) own = refl
own_switch_step o object (Downtime p change) own = refl
own_switch_step o object (Flapping p starts) own = refl
own_switch_step o object (Ack p ack) own = refl
own_switch_step o object (AckRemoved p) own = refl
own_switch_step o object (OwnSwitch p on) own = own_given (p.0 == o) on own object.enabled

pub own_switch_of_last : (o : ℕ) (object : Object) (feed : List Event) → IsOfLastEvent (own_switch_of o) object.enabled feed (is_enabled object (switched o (reverse feed)))
own_switch_of_last o object feed =
    of_feed (own_switch_of o) object.enabled (λ past. is_enabled object (switched o past)) refl (λ e past. own_switch_step o object e.kind (switched o past)) feed
