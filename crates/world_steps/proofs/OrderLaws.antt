-- The order of each decider is kept by every step.
use Rattle.std.proofs.Common.{◌≡◌, ℕ, ◌==◌, Bool, true, false, if◌then◌else◌, List, [], ◌∷◌, ◌++◌, length, take, All, refl, sym, ap, ◌∙◌, subst, eq-eqb, inl, inr, append_assoc}
use Rattle.std.proofs.lemmas.Bool.{cases_eq, ne_eqb}
use Rattle.std.proofs.lemmas.List.{append-nil}
use Rattle.std.proofs.lemmas.List.Elements.{All-head, All-tail}
use Rattle.due_model.specs.declared.config.LaneId.{LaneId}
use Rattle.due_model.specs.declared.notice.Notice.{Notice}
use Rattle.due_model.specs.LaneFits.{of}
use Rattle.due_laws.specs.Laws.{NoticesTellOfEvents}
use Rattle.steps.specs.declared.step.Step.{Step}
use Rattle.steps.specs.declared.step.Step.TheVariants.{Post, Decide, Put, Lane}
use Rattle.steps.specs.claims.Lanes.{LaneState, contents}
use Rattle.world_steps.specs.claims.Worlds.{WorldState, Setup, lane_at, outbox_at}
use Rattle.world_steps.specs.claims.Steps.{CanPut, IsEnabled, after}
use Rattle.world_steps.specs.claims.Runs.{AreEnabled, after_all}
use Rattle.world_steps.specs.Runs.{new_world}
use Rattle.world_steps.specs.claims.Fits.{StateFits}
use Rattle.world_steps.specs.Orders.{carried, put_by, puts}
use Rattle.world_steps.proofs.NewWorlds.{lane_is, new_fits}
use Rattle.world_steps.proofs.Shapes.{queued_law}
use Rattle.world_steps.proofs.StateLaws.{change_after, decide_after, front_is_owned, lane_kept, post_after, put_after, queue_here, queue_other}

-- ---- those that carry one decider

choice : {X : Type 0} (b : Bool) (x : X) (xs ys : List X) → (if b then x ∷ (xs ++ ys) else (xs ++ ys)) ≡ (if b then x ∷ xs else xs) ++ ys
choice true x xs ys = refl
choice false x xs ys = refl

abbrev pub none_of : (X : Type 0) → List X
none_of X = []

pub nothing_else : {X : Type 0} (b : Bool) → (if b then none_of X else none_of X) ≡ none_of X
nothing_else true = refl
nothing_else false = refl

module _ {X : Type 0} (carries : X → ℕ) where
  of-append : (d : ℕ) (xs ys : List X) → of carries d (xs ++ ys) ≡ of carries d xs ++ of carries d ys
  of-append d [] ys = refl
  of-append d (x ∷ xs) ys = ap (λ (zs : List X). if carries x == d then x ∷ zs else zs) (of-append d xs ys) ∙ choice (carries x == d) x (of carries d xs) (of carries d ys)

  -- where all carry e
  of_all : (e d : ℕ) (xs : List X) → All (λ x. carries x ≡ e) xs → of carries d xs ≡ (if e == d then xs else [])
  of_all e d [] all = sym (nothing_else (e == d))
  of_all e d (x ∷ xs) all =
      ap (λ (n : ℕ). if n == d then x ∷ of carries d xs else of carries d xs) (All-head (λ y. carries y ≡ e) x xs all)
      ∙ ap (λ (ys : List X). if e == d then x ∷ ys else ys) (of_all e d xs (All-tail (λ y. carries y ≡ e) x xs all))
      ∙ by_test (e == d)
    where
      by_test : (b : Bool) → (if b then x ∷ (if b then xs else []) else (if b then xs else [])) ≡ (if b then x ∷ xs else [])
      by_test true = refl
      by_test false = refl

-- ---- one step

module _ (s : Setup) (w : WorldState) (fits : StateFits s w) where
  -- what lane k holds of decider d, in order
  abbrev held : WorldState → (d k : ℕ) → List Notice
  held v d k = of (carried s) d (contents (lane_at v k))

  same_held : (v : WorldState) (d k : ℕ) → contents (lane_at v k) ≡ contents (lane_at w k) → held v d k ≡ held w d k ++ []
  same_held v d k same = ap (of (carried s) d) same ∙ sym (append-nil (held w d k))

  put_held : (e : ℕ) (m : LaneId) → CanPut s w e m.0 → (d k : ℕ) → held (after s w (Put e m)) d k ≡ held w d k ++ put_by w (Put e m) d k
  put_held e m can d k = elim (cases_eq k m.0) [
    | inl same ↦ subst (λ (j : ℕ). held (after s w (Put e m)) d j ≡ held w d j ++ put_by w (Put e m) d j) (sym same) here
    | inr ne ↦
        let other : (m.0 == k) ≡ false = ne_eqb m.0 k (λ is. ne (sym is)) in
        ap (λ (lane : LaneState). of (carried s) d (contents lane)) (queue_other s w fits e m.0 can k ne)
        ∙ sym (append-nil (held w d k))
        ∙ ap (λ (ns : List Notice). held w d k ++ ns) (sym (ap (λ (b : Bool). if e == d then (if b then front else []) else []) other ∙ nothing_else (e == d)))
  ]
    where
      front : List Notice
      front = take 1 (outbox_at w e m.0)

      here : held (after s w (Put e m)) d m.0 ≡ held w d m.0 ++ put_by w (Put e m) d m.0
      here =
          ap (λ (lane : LaneState). of (carried s) d (contents lane)) (queue_here s w fits e m.0 can)
          ∙ ap (of (carried s) d) (queued_law front (lane_at w m.0))
          ∙ of-append (carried s) d (contents (lane_at w m.0)) front
          ∙ ap (λ (ns : List Notice). held w d m.0 ++ ns) (of_all (carried s) e d front (front_is_owned s w fits e m.0 can)
          ∙ ap (λ (b : Bool). if e == d then (if b then front else []) else []) (sym (eq-eqb m.0 m.0 refl)))

  step_held : (step : Step) → IsEnabled s w step → (d k : ℕ) → held (after s w step) d k ≡ held w d k ++ put_by w step d k
  step_held (Post e) can d k = sym (append-nil (held w d k))
  step_held (Decide e) can d k = sym (append-nil (held w d k))
  step_held (Put e m) can d k = put_held e m can d k
  step_held (Lane m step) can d k = same_held (after s w (Lane m step)) d k (lane_kept s w fits m.0 step can k)

  pub step_fits : NoticesTellOfEvents → (step : Step) → IsEnabled s w step → StateFits s (after s w step)
  step_fits law (Post e) can = post_after s w fits e
  step_fits law (Decide d) can = decide_after s w fits law d can
  step_fits law (Put d l) can = put_after s w fits d l can
  step_fits law (Lane l step) can = change_after s w fits l step can

-- ---- a list of steps

all_held : NoticesTellOfEvents → (s : Setup) (w : WorldState) (steps : List Step) → StateFits s w → AreEnabled s w steps → (d k : ℕ)
    → of (carried s) d (contents (lane_at (after_all s w steps) k)) ≡ of (carried s) d (contents (lane_at w k)) ++ puts s w steps d k
all_held law s w [] fits can d k = sym (append-nil (of (carried s) d (contents (lane_at w k))))
all_held law s w (step ∷ steps) fits can d k =
    all_held law s (after s w step) steps (step_fits s w fits law step can.0) can.1 d k
    ∙ ap (λ (ns : List Notice). ns ++ puts s (after s w step) steps d k) (step_held s w fits step can.0 d k)
    ∙ append_assoc (of (carried s) d (contents (lane_at w k))) (put_by w step d k) (puts s (after s w step) steps d k)

pub order_kept : NoticesTellOfEvents → (s : Setup) (served : List ℕ) (steps : List Step) (l : ℕ) → length served ≡ length s.config.lanes → AreEnabled s (new_world s served) steps
    → (d : ℕ) → of (carried s) d (contents (lane_at (after_all s (new_world s served) steps) l)) ≡ puts s (new_world s served) steps d l
order_kept law s served steps l long can d =
    all_held law s (new_world s served) steps (new_fits s served long) can d l
    ∙ ap (λ (ns : List Notice). ns ++ puts s (new_world s served) steps d l) (lane_is s served (λ lane. of (carried s) d (contents lane) ≡ []) (λ _. refl) served l)
