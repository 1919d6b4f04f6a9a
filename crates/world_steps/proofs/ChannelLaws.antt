-- What a decider has put for a lane, and then what waits in its outbox, is all that it has gained for it.
use Rattle.std.proofs.Common.{◌≡◌, ℕ, ◌<◌, ◌==◌, Bool, if◌then◌else◌, List, [], ◌∷◌, ◌++◌, length, take, slice_get, Option, Some, None, refl, sym, ap, ◌∙◌, subst, arith, eq-eqb, inl, inr, append_assoc}
use Rattle.std.proofs.lemmas.Bool.{cases_eq, ne_eqb}
use Rattle.std.proofs.lemmas.List.{append-nil, take-append-drop}
use Rattle.std.proofs.lemmas.Option.{none-some, slice_get-get_or}
use Rattle.due_model.specs.declared.config.LaneId.{LaneId}
use Rattle.due_model.specs.declared.event.Event.{Event}
use Rattle.due_model.specs.declared.event.EventKind.TheVariants.{Clock}
use Rattle.due_model.specs.declared.notice.Notice.{Notice}
use Rattle.due_laws.specs.Laws.{NoticesTellOfEvents}
use Rattle.decider.specs.claims.Decider.{gained}
use Rattle.steps.specs.declared.step.Step.{Step}
use Rattle.steps.specs.declared.step.Step.TheVariants.{Post, Decide, Put, Lane}
use Rattle.world_steps.specs.claims.Worlds.{WorldState, Setup, decider_at, outbox_at}
use Rattle.world_steps.specs.claims.Steps.{CanDecide, CanPut, IsEnabled, after, decided, owner, past_of, with_decider, without_front}
use Rattle.world_steps.specs.claims.Runs.{AreEnabled, after_all}
use Rattle.world_steps.specs.Runs.{new_world}
use Rattle.world_steps.specs.claims.Fits.{StateFits}
use Rattle.world_steps.specs.Orders.{gains, put_by, puts}
use Rattle.world_steps.proofs.NewWorlds.{new_fits, no_outbox, no_past}
use Rattle.world_steps.proofs.OrderLaws.{nothing_else, step_fits}
use Rattle.world_steps.proofs.StateLaws.{decided_past, front_here, front_other, gained_here, other_past, outbox_other, posted_past, put_past}

-- these were put before, and with the outbox they are all that was gained
abbrev pub IsBoxed : Setup → WorldState → (before : List Notice) → (d l : ℕ) → Type 0
IsBoxed s w before d l = before ++ outbox_at w d l ≡ gains s d l (past_of w d)

-- nothing was put and nothing was gained
same_channel : (s : Setup) (w v : WorldState) (before : List Notice) (d l : ℕ) → outbox_at v d l ≡ outbox_at w d l → past_of v d ≡ past_of w d → IsBoxed s w before d l → IsBoxed s v (before ++ []) d l
same_channel s w v before d l channel past is =
    ap (λ (ns : List Notice). ns ++ outbox_at v d l) (append-nil before)
    ∙ ap (λ (ns : List Notice). before ++ ns) channel
    ∙ is ∙ ap (gains s d l) (sym past)

module _ (s : Setup) (w : WorldState) (fits : StateFits s w) (d l : ℕ) where
  -- ---- a put

  put_channel : (e : ℕ) (m : LaneId) → CanPut s w e m.0 → put_by w (Put e m) d l ++ outbox_at (after s w (Put e m)) d l ≡ outbox_at w d l
  put_channel e m can = elim (cases_eq d e) [
    | inl mine ↦ elim (cases_eq l m.0) [
      | inl here ↦
          ap (λ (b : Bool). (if b then (if m.0 == l then front else []) else []) ++ outbox_at (after s w (Put e m)) d l) (eq-eqb e d (sym mine))
          ∙ ap (λ (b : Bool). (if b then front else []) ++ outbox_at (after s w (Put e m)) d l) (eq-eqb m.0 l (sym here))
          ∙ subst (λ (k : ℕ). front ++ outbox_at (after s w (Put e m)) k l ≡ outbox_at w k l) (sym mine)
          (subst (λ (k : ℕ). front ++ outbox_at (after s w (Put e m)) e k ≡ outbox_at w e k) (sym here)
          (ap (λ (ns : List Notice). front ++ ns) (front_here s w fits e m.0 can) ∙ take-append-drop 1 (outbox_at w e m.0)))
      | inr other ↦
          ap (λ (b : Bool). (if e == d then (if b then front else []) else []) ++ outbox_at (after s w (Put e m)) d l) (ne_eqb m.0 l (λ is. other (sym is)))
          ∙ ap (λ (ns : List Notice). ns ++ outbox_at (after s w (Put e m)) d l) (nothing_else (e == d))
          ∙ subst (λ (k : ℕ). outbox_at (after s w (Put e m)) k l ≡ outbox_at w k l) (sym mine) (front_other s w fits e m.0 can l other)
    ]
    | inr other ↦
        ap (λ (b : Bool). (if b then (if m.0 == l then front else []) else []) ++ outbox_at (after s w (Put e m)) d l) (ne_eqb e d (λ is. other (sym is)))
        ∙ outbox_other s w fits e can.decider (without_front m.0) d l other
  ]
    where
      front : List Notice
      front = take 1 (outbox_at w e m.0)

  put_boxed : (e : ℕ) (m : LaneId) → CanPut s w e m.0 → (before : List Notice) → IsBoxed s w before d l → IsBoxed s (after s w (Put e m)) (before ++ put_by w (Put e m) d l) d l
  put_boxed e m can before is =
      append_assoc before (put_by w (Put e m) d l) (outbox_at (after s w (Put e m)) d l)
      ∙ ap (λ (ns : List Notice). before ++ ns) (put_channel e m can)
      ∙ is ∙ ap (gains s d l) (sym (put_past s w fits e m.0 can d))

  -- ---- a decision

  decide_some : NoticesTellOfEvents → (e : ℕ) (can : CanDecide w e) (event : Event) → slice_get w.posted (decider_at w e).decided ≡ Some event → d < s.settings.deciders → l < length s.config.lanes
      → (before : List Notice) → IsBoxed s w before d l → IsBoxed s (with_decider w e (decided s (owner s e) (Some event) (past_of w e))) (before ++ []) d l
  decide_some law e can event found there in_l before is = elim (cases_eq d e) [
    | inl mine ↦
        let was : IsBoxed s w before e l = subst (λ (k : ℕ). IsBoxed s w before k l) mine is in
        subst (λ (k : ℕ). IsBoxed s later (before ++ []) k l) (sym mine)
        (ap (λ (ns : List Notice). ns ++ outbox_at later e l) (append-nil before)
        ∙ ap (λ (ns : List Notice). before ++ ns) (gained_here s w fits law e can event found l (omega (arith, fits.outboxes e can.there, in_l)))
        ∙ sym (append_assoc before (outbox_at w e l) (gained s.config s.zone (owner s e) l event (past_of w e)))
        ∙ ap (λ (ns : List Notice). ns ++ gained s.config s.zone (owner s e) l event (past_of w e)) was
        ∙ ap (gains s e l) (sym (decided_past s w fits law e can event found)))
    | inr other ↦ same_channel s w later before d l (outbox_other s w fits e can.there (decided s (owner s e) (Some event) (past_of w e)) d l other) (other_past s w fits law e can event found d other) is
  ]
    where
      later : WorldState
      later = with_decider w e (decided s (owner s e) (Some event) (past_of w e))

  decide_boxed : NoticesTellOfEvents → (e : ℕ) → CanDecide w e → (o : Option Event) → slice_get w.posted (decider_at w e).decided ≡ o → d < s.settings.deciders → l < length s.config.lanes
      → (before : List Notice) → IsBoxed s w before d l → IsBoxed s (with_decider w e (decided s (owner s e) o (past_of w e))) (before ++ []) d l
  decide_boxed law e can None none there in_l before is =
      let event : Event = record { moment = 0; kind = Clock } in
      absurd (none-some _ (sym none ∙ slice_get-get_or w.posted (decider_at w e).decided event can.left))
  decide_boxed law e can (Some event) found there in_l before is = decide_some law e can event found there in_l before is

  -- ---- each step

  step_boxed : NoticesTellOfEvents → (step : Step) → IsEnabled s w step → d < s.settings.deciders → l < length s.config.lanes
      → (before : List Notice) → IsBoxed s w before d l → IsBoxed s (after s w step) (before ++ put_by w step d l) d l
  step_boxed law (Post e) can there in_l before is = same_channel s w (after s w (Post e)) before d l refl (posted_past s w fits e d) is
  step_boxed law (Decide e) can there in_l before is = decide_boxed law e can (slice_get w.posted (decider_at w e).decided) refl there in_l before is
  step_boxed law (Put e m) can there in_l before is = put_boxed e m can before is
  step_boxed law (Lane m step) can there in_l before is = same_channel s w (after s w (Lane m step)) before d l refl refl is

-- ---- a list of steps

all_boxed : NoticesTellOfEvents → (s : Setup) (w : WorldState) (steps : List Step) → StateFits s w → AreEnabled s w steps → (d l : ℕ) → d < s.settings.deciders → l < length s.config.lanes
    → (before : List Notice) → IsBoxed s w before d l → IsBoxed s (after_all s w steps) (before ++ puts s w steps d l) d l
all_boxed law s w [] fits can d l there in_l before is = ap (λ (ns : List Notice). ns ++ outbox_at w d l) (append-nil before) ∙ is
all_boxed law s w (step ∷ steps) fits can d l there in_l before is =
    let next = after s w step in
    subst (λ (ns : List Notice). IsBoxed s (after_all s next steps) ns d l) (append_assoc before (put_by w step d l) (puts s next steps d l))
    (all_boxed law s next steps (step_fits s w fits law step can.0) can.1 d l there in_l (before ++ put_by w step d l) (step_boxed s w fits d l law step can.0 there in_l before is))

pub channels_kept : NoticesTellOfEvents → (s : Setup) (served : List ℕ) (steps : List Step) (d l : ℕ) → length served ≡ length s.config.lanes → AreEnabled s (new_world s served) steps
    → d < s.settings.deciders → l < length s.config.lanes
    → puts s (new_world s served) steps d l ++ outbox_at (after_all s (new_world s served) steps) d l ≡ gains s d l (past_of (after_all s (new_world s served) steps) d)
channels_kept law s served steps d l long can there in_l =
    all_boxed law s (new_world s served) steps (new_fits s served long) can d l there in_l []
    (no_outbox s served d l ∙ sym (ap (gains s d l) (no_past s served d)))
