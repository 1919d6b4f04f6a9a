-- What an event finds of an object is the definitions'.
use Rattle.std.proofs.Common.{◌≡◌, ℕ, ◌<◌, cond, Bool, true, false, Option, ◌&&◌, ◌==◌, List, ◌∷◌, length, set, get_or, slice_get, Some, None, refl, sym, ap, ◌∙◌, arith}
use Rattle.std.proofs.lemmas.Option.{get_or_from_slice_get, same_Some}
use Rattle.due_model.specs.declared.config.Config.{Config}
use Rattle.due_model.specs.declared.config.Object.{Object}
use Rattle.due_model.specs.declared.config.ObjectId.{ObjectId}
use Rattle.due_model.specs.declared.event.Event.{Event}
use Rattle.due_model.specs.declared.event.EventKind.{EventKind}
use Rattle.due_model.specs.declared.event.EventKind.TheVariants as event
use Rattle.due_model.specs.declared.rules.ObjectStatus.{ObjectStatus}
use Rattle.due_model.specs.declared.state.State.{State}
use Rattle.due_model.specs.declared.state.State.TheVariants.{Pending}
use Rattle.due_model.specs.declared.zone.Zone.{Zone}
use Rattle.due_model.specs.claims.Histories.{repeats}
use Rattle.due_model.specs.claims.Readings.{hard, hard_after, is_problem_state, moment}
use Rattle.due_model.specs.claims.Rules.{same_state}
use Rattle.dependency.specs.Entry.{state_of}
use Rattle.lemmas.proofs.Writes.{at_set}
use Rattle.decider.specs.Found.{depends_by, names}
use Rattle.decider.specs.claims.Statuses.{StatusLists, StatusesFit}
use Rattle.decider.specs.Statuses.{hard_by, named_by}

-- an event that gives no hard state leaves them all
no_hard : (k : EventKind) → hard_by k ≡ None → (m : ℕ) (x : State) → hard_after m k x ≡ x
no_hard event.Clock is m x = refl
no_hard (event.Program on) is m x = refl
no_hard (event.Hard p state) is m x = cc
no_hard (event.Downtime p change) is m x = refl
no_hard (event.Flapping p starts) is m x = refl
no_hard (event.Ack p ack) is m x = refl
no_hard (event.AckRemoved p) is m x = refl
no_hard (event.OwnSwitch p on) is m x = refl

-- one that gives it to an object changes that of the object alone
one_hard : (k : EventKind) (p : ObjectId) (state : State) → hard_by k ≡ Some (p, state) → (m : ℕ) (x : State) → hard_after m k x ≡ cond (p.0 == m) state x
one_hard event.Clock p state is m x = cc
one_hard (event.Program on) p state is m x = cc
one_hard (event.Hard q now) p state is m x = ap (λ (given : ObjectId × State). cond (given.0.0 == m) given.1 x) (same_Some (q, now) (p, state) is)
one_hard (event.Downtime q change) p state is m x = cc
one_hard (event.Flapping q starts) p state is m x = cc
one_hard (event.Ack q ack) p state is m x = cc
one_hard (event.AckRemoved q) p state is m x = cc
one_hard (event.OwnSwitch q on) p state is m x = cc

pub hard_named : (k : EventKind) (p : ObjectId) (state : State) → hard_by k ≡ Some (p, state) → named_by k ≡ Some p
hard_named event.Clock p state is = cc
hard_named (event.Program on) p state is = cc
hard_named (event.Hard q now) p state is = ap (λ (given : ObjectId × State). Some given.0) (same_Some (q, now) (p, state) is)
hard_named (event.Downtime q change) p state is = cc
hard_named (event.Flapping q starts) p state is = cc
hard_named (event.Ack q ack) p state is = cc
hard_named (event.AckRemoved q) p state is = cc
hard_named (event.OwnSwitch q on) p state is = cc

-- by states that agree a dependency fails alike
by_states : (c : Config) (zone : Zone) (f g : ℕ → State) (t o : ℕ) (host : Option ObjectId) → ((m : ℕ) → f m ≡ g m) → depends_by c zone f t o host ≡ depends_by c zone g t o host
by_states c zone f g t o host same = ap (λ (states : ℕ → State). depends_by c zone states t o host) (λ i m. same m i)

-- ---- a problem that is attempted again

pub turned : (r x q m : Bool) → (r && x && q && m) ≡ (r && (q && m) && x)
turned false x q m = refl
turned true true true true = refl
turned true true true false = refl
turned true true false m = refl
turned true false true true = refl
turned true false true false = refl
turned true false false m = refl

-- a host is named where it is told
pub named_where : (b : Bool) (host : Option ObjectId) (o : ℕ) → (b && names host o) ≡ names (cond b host None) o
named_where true host o = refl
named_where false host o = refl

-- a hard state attempts the problems again that its service says
pub repeats_service : (c : Config) (p : ObjectId) (s : State) (past : List Event) (o : ℕ) (service : Object) → slice_get c.objects p.0 ≡ Some service
    → repeats c o (event.Hard p s) past ≡ (c.choices.host_repeats && names service.host o && is_problem_state s && same_state s (hard p.0 past))
repeats_service c p s past o service at =
    ap (λ (found : Option Object). c.choices.host_repeats && elim found as (λ _. Bool) [ None ↦ false | Some x ↦ names x.host o ] && is_problem_state s && same_state s (hard p.0 past)) at

pub repeats_given : (c : Config) (k : EventKind) (p : ObjectId) (s : State) (past : List Event) (o : ℕ) → hard_by k ≡ Some (p, s) → repeats c o k past ≡ repeats c o (event.Hard p s) past
repeats_given c event.Clock p s past o is = cc
repeats_given c (event.Program on) p s past o is = cc
repeats_given c (event.Hard q now) p s past o is = ap (λ (given : ObjectId × State). repeats c o (event.Hard given.0 given.1) past) (same_Some (q, now) (p, s) is)
repeats_given c (event.Downtime q change) p s past o is = cc
repeats_given c (event.Flapping q starts) p s past o is = cc
repeats_given c (event.Ack q ack) p s past o is = cc
repeats_given c (event.AckRemoved q) p s past o is = cc
repeats_given c (event.OwnSwitch q on) p s past o is = cc

module _ (c : Config) (zone : Zone) (e : Event) (past : List Event) (s : StatusLists) (fit : StatusesFit (length c.objects) past s) (o t : ℕ) (host : Option ObjectId) (at : t ≡ moment (e ∷ past)) where
  known : (m : ℕ) → state_of s.states m ≡ hard m past
  known m = ap (λ (status : ObjectStatus). status.state) (fit.each m)

  -- by the states that are kept, where the event gives none
  pub depends_without : hard_by e.kind ≡ None
      → depends_by c zone (state_of s.states) t o host ≡ depends_by c zone (λ master. hard master (e ∷ past)) (moment (e ∷ past)) o host
  depends_without none =
      by_states c zone (state_of s.states) (λ master. hard master (e ∷ past)) t o host (λ m. known m ∙ sym (no_hard e.kind none m (hard m past)))
      ∙ ap (λ (n : ℕ). depends_by c zone (λ master. hard master (e ∷ past)) n o host) at

  -- and with the one that it gives
  pub depends_with : (p : ObjectId) (state : State) → hard_by e.kind ≡ Some (p, state) → p.0 < length c.objects
      → depends_by c zone (state_of (set s.states p.0 state)) t o host ≡ depends_by c zone (λ master. hard master (e ∷ past)) (moment (e ∷ past)) o host
  depends_with p state given within =
      by_states c zone (state_of (set s.states p.0 state)) (λ master. hard master (e ∷ past)) t o host
      (λ m. at_set s.states p.0 m state Pending (omega (arith, fit.states, within)) ∙ ap (cond (p.0 == m) state) (known m) ∙ sym (one_hard e.kind p state given m (hard m past)))
      ∙ ap (λ (n : ℕ). depends_by c zone (λ master. hard master (e ∷ past)) n o host) at

-- the settings of an object, as they are read
pub settings_read : (xs ys : List Object) (i k : ℕ) (d settings : Object) → ys ≡ xs → k ≡ i → slice_get xs i ≡ Some settings → get_or ys k d ≡ settings
settings_read xs ys i k d settings same place at =
    ap (λ (zs : List Object). get_or zs k d) same ∙ ap (λ (m : ℕ). get_or xs m d) place ∙ get_or_from_slice_get xs i settings d at
