-- The records of channels that were replaced, over a step.
use Rattle.std.proofs.Common.{◌≡◌, ◌≢◌, ℕ, ◌<◌, ◌==◌, ◌⊎◌, Bool, if◌then◌else◌, List, [], ◌++◌, length, take, refl, sym, ap, ◌∙◌, eq-eqb, inl, inr, get_or-set_same, get_or-set_other}
use Rattle.std.proofs.lemmas.Bool.{cases_eq, ne_eqb}
use Rattle.std.proofs.lemmas.List.{append-nil}
use Rattle.due_model.specs.declared.notice.Notice.{Notice}
use Rattle.steps.specs.declared.step.Step.{Step}
use Rattle.steps.specs.declared.step.Step.TheVariants.{Post, Decide, Put, Lane}
use Rattle.steps.specs.declared.step.LaneStep.{LaneStep}
use Rattle.steps.specs.declared.step.LaneStep.TheVariants.{Pick, Settle, Fail, Ask, Replace, Close, Drain}
use Rattle.steps.specs.claims.Lanes.{LaneState, does, empty_lane, queued}
use Rattle.world_steps.specs.claims.Worlds.{WorldState, Setup, lane_at, outbox_at}
use Rattle.world_steps.specs.claims.Steps.{IsEnabled, after, with_lane, with_decider, without_front}
use Rattle.world_steps.specs.Orders.{ended_by, ends_record}
use Rattle.world_steps.proofs.ListLemmas.{everywhere}
use Rattle.world_steps.proofs.OrderLaws.{nothing_else}

-- what a step of a lane does to its own records
own_records : (step : LaneStep) (lane : LaneState) → (does step lane).ended ≡ lane.ended ++ ends_record step lane
own_records Pick lane = sym (append-nil lane.ended)
own_records Settle lane = sym (append-nil lane.ended)
own_records Fail lane = sym (append-nil lane.ended)
own_records Ask lane = sym (append-nil lane.ended)
own_records Replace lane = refl
own_records Close lane = sym (append-nil lane.ended)
own_records Drain lane = sym (append-nil lane.ended)

module _ (w : WorldState) (m : ℕ) (f : LaneState → LaneState) (there : m < length w.lanes) (records : List (List Notice))
    (own : (f (lane_at w m)).ended ≡ (lane_at w m).ended ++ records) where
  -- and to those of all lanes
  changed_records : (l : ℕ) → (lane_at (with_lane w m f) l).ended ≡ (lane_at w l).ended ++ (if m == l then records else [])
  changed_records = everywhere (λ l. (lane_at (with_lane w m f) l).ended ≡ (lane_at w l).ended ++ (if m == l then records else [])) m
      (ap (λ (lane : LaneState). lane.ended) (get_or-set_same w.lanes m (f (lane_at w m)) empty_lane there) ∙ own
      ∙ ap (λ (b : Bool). (lane_at w m).ended ++ (if b then records else [])) (sym (eq-eqb m m refl)))
      (λ l ne. ap (λ (lane : LaneState). lane.ended) (get_or-set_other w.lanes m l (f (lane_at w m)) empty_lane ne) ∙ sym (append-nil (lane_at w l).ended)
      ∙ ap (λ (b : Bool). (lane_at w l).ended ++ (if b then records else [])) (sym (ne_eqb m l (λ is. ne (sym is)))))

pub records_after : (s : Setup) (w : WorldState) (step : Step) (l : ℕ) → IsEnabled s w step → (lane_at (after s w step) l).ended ≡ (lane_at w l).ended ++ ended_by w step l
records_after s w (Post e) l can = sym (append-nil (lane_at w l).ended)
records_after s w (Decide d) l can = sym (append-nil (lane_at w l).ended)
records_after s w (Put d m) l can =
    changed_records (with_decider w d (without_front m.0)) m.0 (queued (take 1 (outbox_at w d m.0))) can.lane [] (sym (append-nil (lane_at w m.0).ended)) l
    ∙ ap (λ (records : List (List Notice)). (lane_at w l).ended ++ records) (nothing_else (m.0 == l))
records_after s w (Lane m step) l can =
    changed_records w m.0 (does step) can.there (ends_record step (lane_at w m.0)) (own_records step (lane_at w m.0)) l
    ∙ ap (λ (records : List (List Notice)). (lane_at w l).ended ++ records) (same_lane (cases_eq m.0 l))
  where
    same_lane : (m.0 ≡ l) ⊎ (m.0 ≢ l) → (if m.0 == l then ends_record step (lane_at w m.0) else []) ≡ (if m.0 == l then ends_record step (lane_at w l) else [])
    same_lane (inl same) = ap (λ (k : ℕ). if m.0 == l then ends_record step (lane_at w k) else []) same
    same_lane (inr ne) = ap (λ (b : Bool). if b then ends_record step (lane_at w m.0) else []) (ne_eqb m.0 l ne) ∙ sym (ap (λ (b : Bool). if b then ends_record step (lane_at w l) else []) (ne_eqb m.0 l ne))
