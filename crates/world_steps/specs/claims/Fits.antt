-- What is kept of a world: the state that it stands for, and what fits what.
use Rattle.std.specs.Prelude.{◌≡◌, ℕ, ◌<◌, ◌≤◌, ◌%◌, false, List, [], All, length, map, take, reverse}
use Rattle.std.specs.Prelude.{Option, Some, None, IsTrue, is_some, slice_get}
use mathlib.Core.Path.{sym, ◌∙◌}
use mathlib.Core.HLevel.{is_prop→PathP}
use Rattle.std.proofs.Props.{props}
use Rattle.std.proofs.lemmas.Option.{same_Some}
use Rattle.due_model.specs.declared.config.Config.{Config}
use Rattle.due_model.specs.declared.config.Dependency.{Dependency}
use Rattle.due_model.specs.declared.config.Object.{Object}
use Rattle.due_model.specs.declared.event.Event.{Event}
use Rattle.due_model.specs.declared.event.EventKind.{EventKind}
use Rattle.due_model.specs.declared.event.EventKind.TheVariants.{Clock, Program, Hard, Downtime, Flapping, Ack, AckRemoved, OwnSwitch}
use Rattle.due_model.specs.declared.notice.Notice.{Notice}
use Rattle.due_model.specs.declared.rules.ObjectStatus.{ObjectStatus}
use Rattle.due_model.specs.declared.zone.Zone.{Zone}
use Rattle.due_model.specs.claims.Accepted.{IsAccepted, IsHost}
use Rattle.due_model.specs.claims.Limits.{max_events}
use Rattle.due_model.specs.claims.Proper.{IsProper, KindIsProper, is_state_of}
use Rattle.problem_count.specs.claims.Book.{BookValues}
use Rattle.decider.specs.claims.Fits.{Kept, kept, settings}
use Rattle.decider.specs.claims.Fits as decider
use Rattle.decider.specs.claims.Outbox.{lists}
use Rattle.world_steps.specs.declared.deciders.KeptDecider.{KeptDecider}
use Rattle.steps.specs.declared.lane.KeptLane.{KeptLane}
use Rattle.steps.specs.claims.Lanes.{lane_state}
use Rattle.world_steps.specs.claims.Worlds.{DeciderState, WorldState, Setup, decider_at, lane_at, outbox_at}
use Rattle.world_steps.specs.claims.Steps.{owner}
use Rattle.world_steps.specs.claims.Lines.{LinesAreDue}

-- ---- the state

-- how many events it has decided
abbrev pub count : KeptDecider → ℕ
count x = (kept x.decider).count

abbrev pub decider_state : KeptDecider → DeciderState
decider_state x = record { decided = count x; outboxes = lists x.outbox }

abbrev pub state_of : List Event → List KeptDecider → List KeptLane → WorldState
state_of posted deciders lanes = record {
  posted = posted;
  deciders = map decider_state deciders;
  lanes = map lane_state lanes;
}

-- ---- what fits

-- What is kept of decider d fits the posted events: it is that of the decider with that number after those that it has
-- decided, with an outbox for each lane.
pub record DeciderFits (s : Setup) (posted : List Event) (d : ℕ) (x : KeptDecider) : Type 0 where
  pub within : count x ≤ length posted
  pub past : decider.Fits (kept x.decider) (reverse (take (count x) posted))
  pub settings : settings (kept x.decider) ≡ (s.config, s.zone, owner s d)
  pub lanes : length (lists x.outbox) ≡ length s.config.lanes

-- A state fits its setup from its beginning on: there are all lanes and deciders, each decider with an outbox for each
-- lane, in which only objects of its share wait; a lane that serves has given nothing up; and the lines are due.
pub record StateFits (s : Setup) (w : WorldState) : Type 0 where
  pub lanes : length w.lanes ≡ length s.config.lanes
  pub deciders : length w.deciders ≡ s.settings.deciders
  pub outboxes : (d : ℕ) → d < length w.deciders
      → length (decider_at w d).outboxes ≡ length s.config.lanes
  pub within : (d : ℕ) → (decider_at w d).decided ≤ length w.posted
  pub share : (d l : ℕ) → All (λ n. n.object.0 % s.settings.deciders ≡ d) (outbox_at w d l)
  pub serving : (l : ℕ) → (lane_at w l).shut ≡ false → (lane_at w l).undelivered ≡ []
  pub due : LinesAreDue s w

-- What is kept of a world fits its setup: the configuration is accepted, the events can be posted, each decider fits
-- them, and so does the state.
pub record Fits (s : Setup) (posted : List Event) (deciders : List KeptDecider)
    (lanes : List KeptLane) : Type 0 where
  pub accepted : IsAccepted s.config
  pub proper : All (IsProper s.config) posted
  pub short : length posted ≤ max_events
  pub each : (d : ℕ) (x : KeptDecider) → slice_get deciders d ≡ Some x → DeciderFits s posted d x
  pub state : StateFits s (state_of posted deciders lanes)

-- ---- and has one proof at most

Object-set : IsSet Object
Object-set = hlevel props

Zone-set : IsSet Zone
Zone-set = hlevel props

Notice-set : IsSet Notice
Notice-set = hlevel props

Dependency-set : IsSet Dependency
Dependency-set = hlevel props

ObjectStatus-set : IsSet ObjectStatus
ObjectStatus-set = hlevel props

BookValues-set : IsSet BookValues
BookValues-set = hlevel props

-- something found, of which a fact is known
found-prop : {X : Type 0} → IsSet X → (a : Option X) (P : X → Type 0) → ((x : X) → IsProp (P x))
    → IsProp ((x : X) × (a ≡ Some x) × P x)
found-prop set a P prop s t =
    let e : s.0 ≡ t.0 = same_Some s.0 t.0 (sym s.1 ∙ t.1) in
    let options : IsSet (Option _) = hlevel (props, set) in
    λ i. (
      e i,
      is_prop→PathP (λ j. a ≡ Some (e j)) (λ j. options a (Some (e j))) s.1 t.1 i,
      is_prop→PathP (λ j. P (e j)) (λ j. prop (e j)) s.2 t.2 i,
    )

IsHost-prop : (c : Config) (h : ℕ) → IsProp (IsHost c h)
IsHost-prop c h =
    found-prop Object-set (slice_get c.objects h) (λ host. host.host ≡ None) (hlevel props)

KindIsProper-prop : (c : Config) (kind : EventKind) → IsProp (KindIsProper c kind)
KindIsProper-prop c Clock = hlevel props
KindIsProper-prop c (Program on) = hlevel props
KindIsProper-prop c (Hard o state) =
    found-prop Object-set (slice_get c.objects o.0)
    (λ object. IsTrue (is_state_of (is_some object.host) state)) (hlevel props)
KindIsProper-prop c (Downtime o change) = hlevel props
KindIsProper-prop c (Flapping o starts) = hlevel props
KindIsProper-prop c (Ack o ack) = hlevel props
KindIsProper-prop c (AckRemoved o) = hlevel props
KindIsProper-prop c (OwnSwitch o on) = hlevel props

IsAccepted-prop : (c : Config) → IsProp (IsAccepted c)
IsAccepted-prop c = hlevel (props, IsHost-prop)

past-prop : (k : Kept) (past : List Event) → IsProp (decider.Fits k past)
past-prop k past =
    hlevel (
      props,
      IsAccepted-prop,
      KindIsProper-prop,
      Dependency-set,
      ObjectStatus-set,
      BookValues-set,
    )

DeciderFits-prop : (s : Setup) (posted : List Event) (d : ℕ) (x : KeptDecider)
    → IsProp (DeciderFits s posted d x)
DeciderFits-prop s posted d x = hlevel (props, past-prop, Zone-set)

StateFits-prop : (s : Setup) (w : WorldState) → IsProp (StateFits s w)
StateFits-prop s w = hlevel (props, Notice-set)

pub Fits-prop : (s : Setup) (posted : List Event) (deciders : List KeptDecider)
    (lanes : List KeptLane)
    → IsProp (Fits s posted deciders lanes)
Fits-prop s posted deciders lanes =
    hlevel (
      props,
      IsAccepted-prop,
      KindIsProper-prop,
      DeciderFits-prop,
      StateFits-prop,
    )
