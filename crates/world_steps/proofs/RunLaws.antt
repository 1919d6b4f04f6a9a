-- Lists of steps, one more at a time.
use Rattle.std.proofs.Common.{◌≡◌, ℕ, ◌+◌, ◌<◌, ◌≤◌, ◌⊎◌, inl, inr, true, false, List, [], ◌∷◌, ◌++◌, length, take, get_or, refl, sym, ap, ◌∙◌, subst, append_assoc, get_or-set_same, get_or-set_other}
use Rattle.std.proofs.lemmas.Bool.{cases_lt}
use Rattle.std.proofs.lemmas.List.{get_or_past, take_more}
use Rattle.due_model.specs.declared.notice.Notice.{Notice}
use Rattle.steps.specs.declared.step.Step.{Step}
use Rattle.steps.specs.declared.step.Step.TheVariants.{Post, Decide, Put, Lane}
use Rattle.steps.specs.declared.step.LaneStep.TheVariants.{Pick, Settle, Fail, Ask, Replace, Close, Drain}
use Rattle.steps.specs.claims.Lanes.{LaneState, empty_lane}
use Rattle.world_steps.specs.claims.Worlds.{WorldState, Setup, lane_at, outbox_at}
use Rattle.steps.specs.claims.Lanes.{picked, settled, failed, asked, replaced, closed, drained, queued}
use Rattle.world_steps.specs.claims.Steps.{IsEnabled, after, with_lane, with_decider, without_front}
use Rattle.world_steps.specs.claims.Runs.{after_all, AreEnabled, LeadsTo, ReplacedTakeNothing, ShutTakesNothing, StaysShut}
use Rattle.world_steps.specs.Orders.{ended_by}
use Rattle.world_steps.proofs.ListLemmas.{everywhere}
use Rattle.world_steps.proofs.RecordLaws.{records_after}

-- after one more step
after_more : (s : Setup) (w : WorldState) (steps : List Step) (step : Step) → after_all s w (steps ++ step ∷ []) ≡ after s (after_all s w steps) step
after_more s w [] step = refl
after_more s w (first ∷ steps) step = after_more s (after s w first) steps step

enabled_more : (s : Setup) (w : WorldState) (steps : List Step) (step : Step) → AreEnabled s w steps → IsEnabled s (after_all s w steps) step → AreEnabled s w (steps ++ step ∷ [])
enabled_more s w [] step before can = (can, tt)
enabled_more s w (first ∷ steps) step before can = (before.0, enabled_more s (after s w first) steps step before.1 can)

pub leads_more : (s : Setup) (before then later : WorldState) (steps : List Step) (step : Step) → LeadsTo s before steps then → IsEnabled s then step → later ≡ after s then step → LeadsTo s before (steps ++ step ∷ []) later
leads_more s before then later steps step leads can done = record {
  state = done ∙ ap (λ (w : WorldState). after s w step) leads.state ∙ sym (after_more s before steps step);
  enabled = enabled_more s before steps step leads.enabled (subst (λ (w : WorldState). IsEnabled s w step) leads.state can);
}

-- what a step of lane l does to a lane that was shut
module _ (w : WorldState) (l : ℕ) (f : LaneState → LaneState) where
  shut_kept : ((lane_at w l).shut ≡ true → StaysShut (lane_at w l) (f (lane_at w l))) → ShutTakesNothing w (with_lane w l f)
  shut_kept here = everywhere (λ k. (lane_at w k).shut ≡ true → StaysShut (lane_at w k) (lane_at (with_lane w l f) k)) l (at_lane (cases_lt l (length w.lanes)))
      (λ k ne h. subst (StaysShut (lane_at w k)) (sym (get_or-set_other w.lanes l k (f (lane_at w l)) empty_lane ne)) (h, refl, refl))
    where
      at_lane : (l < length w.lanes) ⊎ (length w.lanes ≤ l) → (lane_at w l).shut ≡ true → StaysShut (lane_at w l) (lane_at (with_lane w l f) l)
      at_lane (inl there) h = subst (StaysShut (lane_at w l)) (sym (get_or-set_same w.lanes l (f (lane_at w l)) empty_lane there)) (here h)
      at_lane (inr beyond) h =
          let none : lane_at w l ≡ empty_lane = get_or_past w.lanes l empty_lane beyond in
          let serves : (lane_at w l).shut ≡ false = ap (λ (lane : LaneState). lane.shut) none in
          absurd (cc)

pub shut_after : (s : Setup) (w : WorldState) (step : Step) → IsEnabled s w step → ShutTakesNothing w (after s w step)
shut_after s w (Post e) can = λ l h. (h, refl, refl)
shut_after s w (Decide d) can = λ l h. (h, refl, refl)
shut_after s w (Put d l) can = shut_kept (with_decider w d (without_front l.0)) l.0 (queued (take 1 (outbox_at w d l.0))) (λ h. (h, refl, refl))
shut_after s w (Lane l Pick) can = shut_kept w l.0 picked (λ h. let serving = can.holds.serving in absurd (cc))
shut_after s w (Lane l Settle) can = shut_kept w l.0 settled (λ h. let serving = can.holds.serving in absurd (cc))
shut_after s w (Lane l Fail) can = shut_kept w l.0 failed (λ h. let serving = can.holds.settle.serving in absurd (cc))
shut_after s w (Lane l Ask) can = shut_kept w l.0 asked (λ h. let serving = can.holds.serving in absurd (cc))
shut_after s w (Lane l Replace) can = shut_kept w l.0 replaced (λ h. let serving = can.holds.serving in absurd (cc))
shut_after s w (Lane l Close) can = shut_kept w l.0 closed (λ h. let serving = can.holds.serving in absurd (cc))
shut_after s w (Lane l Drain) can = shut_kept w l.0 drained (λ h. (h, refl, refl))

pub shut_more : (before then later : WorldState) → ShutTakesNothing before then → ShutTakesNothing then later → ShutTakesNothing before later
shut_more before then later first next = λ l h.
    let mid = first l h in
    let end = next l mid.0 in
    (end.0, end.1 ∙ mid.1, end.2 ∙ mid.2)

-- after the next of these steps
pub leads_next : (s t : Setup) (before then later : WorldState) (steps : List Step) (i : ℕ) (d : Step) → t ≡ s → i < length steps → LeadsTo s before (take i steps) then
    → IsEnabled t then (get_or steps i d) → later ≡ after t then (get_or steps i d) → LeadsTo s before (take (i + 1) steps) later
leads_next s t before then later steps i d same within leads can done =
    let step = get_or steps i d in
    subst (λ (xs : List Step). LeadsTo s before xs later) (sym (take_more steps i d within))
    (leads_more s before then later (take i steps) step leads (subst (λ (u : Setup). IsEnabled u then step) same can) (done ∙ ap (λ (u : Setup). after u then step) same))

-- a lane that is shut, over the next
pub shut_next : (t : Setup) (before then later : WorldState) (step : Step) → ShutTakesNothing before then → IsEnabled t then step → later ≡ after t then step → ShutTakesNothing before later
shut_next t before then later step first can done = shut_more before then later first (subst (λ (w : WorldState). ShutTakesNothing then w) (sym done) (shut_after t then step can))

-- the records that ended before, over the next
pub replaced_next : (t : Setup) (before then later : WorldState) (step : Step) → ReplacedTakeNothing before then → IsEnabled t then step → later ≡ after t then step → ReplacedTakeNothing before later
replaced_next t before then later step first can done = λ l.
    let more = subst (λ (w : WorldState). (lane_at w l).ended ≡ (lane_at then l).ended ++ ended_by then step l) (sym done) (records_after t then step l can) in (
      (first l).0 ++ ended_by then step l,
      sym (append_assoc (lane_at before l).ended (first l).0 (ended_by then step l))
          ∙ ap (λ (records : List (List Notice)). records ++ ended_by then step l) (first l).1 ∙ sym more,
    )
