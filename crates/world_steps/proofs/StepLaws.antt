-- Each step of what is kept: the state that it leads to, and that all fits after it.
use Rattle.std.proofs.Common.{◌≡◌, ◌<◌, ℕ, Bool, true, false, cond, ◌+◌, List, [], ◌∷◌, ◌++◌, Option, Some, length, map, set, get_or, take, drop, reverse, slice_get, refl, sym, ap, ◌∙◌, subst, arith, length-set}
use Rattle.std.proofs.lemmas.List.{length-map, length-append}
use Rattle.std.proofs.lemmas.List.Elements.{All-push}
use Rattle.std.proofs.lemmas.Option.{slice_get_read}
use Rattle.due_model.specs.declared.config.Config.{Config}
use Rattle.due_model.specs.declared.config.LaneId.{LaneId}
use Rattle.due_model.specs.declared.event.Event.{Event}
use Rattle.due_model.specs.declared.notice.Notice.{Notice}
use Rattle.due_model.specs.declared.zone.Zone.{Zone}
use Rattle.due_model.specs.claims.Limits.{max_events}
use Rattle.due_model.specs.claims.Proper.{IsProper}
use Rattle.due_laws.specs.Laws.{NoticesTellOfEvents}
use Rattle.lemmas.proofs.Lists.{past_more}
use Rattle.decider.specs.declared.share.Share.{Share}
use Rattle.decider.specs.claims.Decider.{gained}
use Rattle.decider.specs.claims.Fits.{Fits as PastFits, kept, settings}
use Rattle.decider.specs.claims.Outbox.{lists, waiting_at}
use Rattle.lemmas.proofs.Writes.{read_at, map-set_by, map-set_kept}
use Rattle.world_steps.specs.declared.deciders.KeptDecider.{KeptDecider}
use Rattle.steps.specs.declared.lane.KeptLane.{KeptLane}
use Rattle.steps.specs.declared.step.LaneStep.{LaneStep}
use Rattle.steps.specs.declared.step.Step.TheVariants.{Decide, Put, Lane}
use Rattle.steps.specs.claims.Lanes.{LaneState, empty_lane}
use Rattle.world_steps.specs.claims.Worlds.{DeciderState, WorldState, Setup, no_decider, decider_at, outbox_at}
use Rattle.steps.specs.claims.Lanes.{Can, does, queued}
use Rattle.world_steps.specs.claims.Steps.{OfLane, CanDecide, CanPut, after, decided, next_of, owner, past_of, without_front, with_decider}
use Rattle.steps.specs.claims.Lanes.{lane_state}
use Rattle.world_steps.specs.claims.Fits.{decider_state, state_of, count, DeciderFits, Fits}
use Rattle.world_steps.proofs.ListLemmas.{take_found}
use Rattle.world_steps.proofs.FitLaws.{found_fits, fits_then, fits_more, kept_fits, set_found, outbox_read, decided_law, past_length}
use Rattle.world_steps.proofs.StateLaws.{post_after, decide_after, put_after, change_after}

module _ (s : Setup) (posted : List Event) (deciders : List KeptDecider) (lanes : List KeptLane) (fits : Fits s posted deciders lanes) where
  abbrev w : WorldState
  w = state_of posted deciders lanes

  -- ---- posting

  pub fits_posted : (e : Event) → IsProper s.config e → length posted < max_events → Fits s (posted ++ e ∷ []) deciders lanes
  fits_posted e proper room = record {
    accepted = fits.accepted;
    proper = All-push (IsProper s.config) posted e fits.proper proper;
    short = omega (arith, length-append posted (e ∷ []), room);
    each = λ d x found. fits_more s posted d x e (fits.each d x found);
    state = post_after s w fits.state e;
  }

  -- and where the growth may have been refused
  pub fits_pushed : (e : Event) → IsProper s.config e → length posted < max_events → (b : Bool) → Fits s (cond b (posted ++ e ∷ []) posted) deciders lanes
  fits_pushed e proper room true = fits_posted e proper room
  fits_pushed e proper room false = fits

  -- ---- a step of a lane

  pub state_changed : (l : LaneId) (step : LaneStep) (a b : KeptLane) → OfLane w l.0 (Can s.settings.tries step) → a ≡ get_or lanes l.0 a
      → lane_state b ≡ does step (lane_state a) → state_of posted deciders (set lanes l.0 b) ≡ after s w (Lane l step)
  state_changed l step a b can e done =
      ap (λ (all : List LaneState). record w { lanes = all }) (map-set_by lane_state lanes l.0 a b empty_lane (does step) (simp length-map at can.there) e done)

  pub fits_changed : (l : LaneId) (step : LaneStep) (a b : KeptLane) → OfLane w l.0 (Can s.settings.tries step) → a ≡ get_or lanes l.0 a
      → lane_state b ≡ does step (lane_state a) → Fits s posted deciders (set lanes l.0 b)
  fits_changed l step a b can e done =
      fits_then fits deciders (set lanes l.0 b) (after s w (Lane l step)) fits.each (state_changed l step a b can e done) (change_after s w fits.state l step can)

  -- ---- what a refused growth leaves

  pub state_left : (l : ℕ) (a b : KeptLane) → a ≡ get_or lanes l a → lane_state b ≡ lane_state a → state_of posted deciders (set lanes l b) ≡ w
  state_left l a b e same = ap (λ (all : List LaneState). record w { lanes = all }) (map-set_kept lane_state lanes l a b e same)

  pub fits_left : (l : ℕ) (a b : KeptLane) → a ≡ get_or lanes l a → lane_state b ≡ lane_state a → Fits s posted deciders (set lanes l b)
  fits_left l a b e same = fits_then fits deciders (set lanes l b) w fits.each (state_left l a b e same) fits.state

  -- decider d stays, and lane l is another in the same state
  module _ (d l : ℕ) (x : KeptDecider) (a b : KeptLane) (there : d < length (map decider_state deciders)) (at_d : x ≡ get_or deciders d x)
      (at_l : a ≡ get_or lanes l a) (same : lane_state b ≡ lane_state a) where
    pub state_stays : state_of posted (set deciders d x) (set lanes l b) ≡ w
    state_stays =
        ap (λ (all : List DeciderState). record { posted = posted; deciders = all; lanes = map lane_state (set lanes l b) })
        (map-set_kept decider_state deciders d x x at_d refl) ∙ state_left l a b at_l same

    pub fits_stays : Fits s posted (set deciders d x) (set lanes l b)
    fits_stays = fits_then fits (set deciders d x) (set lanes l b) w
        (set_found (DeciderFits s posted) deciders d x fits.each (found_fits s posted deciders fits.each d x (simp length-map at there) at_d)) state_stays fits.state

  -- decider d is another that keeps the same
  pub state_kept : (d : ℕ) (x y : KeptDecider) → x ≡ get_or deciders d x → kept y.decider ≡ kept x.decider → lists y.outbox ≡ lists x.outbox
      → state_of posted (set deciders d y) lanes ≡ w
  state_kept d x y e same outs = ap (λ (all : List DeciderState). record w { deciders = all })
      (map-set_kept decider_state deciders d x y e (ap (λ k. record { decided = k.count; outboxes = lists y.outbox }) same ∙ ap (λ (ls : List (List Notice)). record { decided = count x; outboxes = ls }) outs))

  pub fits_kept : (d : ℕ) (x y : KeptDecider) → d < length (map decider_state deciders) → x ≡ get_or deciders d x → kept y.decider ≡ kept x.decider
      → lists y.outbox ≡ lists x.outbox → Fits s posted (set deciders d y) lanes
  fits_kept d x y there e same outs = fits_then fits (set deciders d y) lanes w
      (set_found (DeciderFits s posted) deciders d y fits.each (kept_fits x y same (ap length outs) (found_fits s posted deciders fits.each d x (simp length-map at there) e)))
      (state_kept d x y e same outs) fits.state

  -- ---- a put

  module _ (d : ℕ) (l : LaneId) (x y : KeptDecider) (a b : KeptLane) (n : Notice) (can : CanPut s w d l.0) (at_d : x ≡ get_or deciders d x) (at_l : a ≡ get_or lanes l.0 a)
      (first : slice_get (waiting_at x.outbox l.0) 0 ≡ Some n) (same : kept y.decider ≡ kept x.decider)
      (rest : lists y.outbox ≡ set (lists x.outbox) l.0 (drop 1 (waiting_at x.outbox l.0))) (back : lane_state b ≡ queued (n ∷ []) (lane_state a)) where
    there : d < length deciders
    there = simp length-map at can.decider

    front : take 1 (outbox_at w d l.0) ≡ n ∷ []
    front = ap (take 1) (outbox_read deciders d x l.0 there at_d) ∙ take_found (waiting_at x.outbox l.0) 0 n first

    emptied : decider_state y ≡ without_front l.0 (decider_state x)
    emptied = ap (λ k. record { decided = k.count; outboxes = lists y.outbox }) same ∙ ap (λ (ls : List (List Notice)). record { decided = count x; outboxes = ls }) rest

    pub state_put : state_of posted (set deciders d y) (set lanes l.0 b) ≡ after s w (Put d l)
    state_put =
        ap (λ (all : List DeciderState). record { posted = posted; deciders = all; lanes = map lane_state (set lanes l.0 b) })
        (map-set_by decider_state deciders d x y no_decider (without_front l.0) there at_d emptied)
        ∙ ap (λ (all : List LaneState). record (with_decider w d (without_front l.0)) { lanes = all })
        (map-set_by lane_state lanes l.0 a b empty_lane (queued (take 1 (outbox_at w d l.0))) (simp length-map at can.lane) at_l
        (back ∙ ap (λ (ns : List Notice). queued ns (lane_state a)) (sym front)))

    pub fits_put : Fits s posted (set deciders d y) (set lanes l.0 b)
    fits_put = fits_then fits (set deciders d y) (set lanes l.0 b) (after s w (Put d l))
        (set_found (DeciderFits s posted) deciders d y fits.each
        (kept_fits x y same (ap length rest ∙ length-set (lists x.outbox) l.0 (drop 1 (waiting_at x.outbox l.0))) (found_fits s posted deciders fits.each d x there at_d)))
        state_put (put_after s w fits.state d l can)

  -- ---- a decision

  module _ (d : ℕ) (x : KeptDecider) (can : CanDecide w d) (at_d : x ≡ get_or deciders d x) where
    within : d < length deciders
    within = simp length-map at can.there

    pub here : DeciderFits s posted d x
    here = found_fits s posted deciders fits.each d x within at_d

    pub counted : (decider_at w d).decided ≡ count x
    counted = ap (λ (z : DeciderState). z.decided) (read_at decider_state deciders d x no_decider within at_d)

    pub left : count x < length posted
    left = omega (arith, counted, can.left)

    module _ (y : KeptDecider) (e : Event) (law : NoticesTellOfEvents) (read : e ≡ get_or posted (count x) e)
        (next : (past : List Event) → PastFits (kept x.decider) past → PastFits (kept y.decider) (e ∷ past))
        (notices : (past : List Event) → PastFits (kept x.decider) past → (l : ℕ) → l < length (lists x.outbox)
        → waiting_at y.outbox l ≡ waiting_at x.outbox l ++ gained (kept x.decider).config (kept x.decider).zone (kept x.decider).share l e past)
        (same : settings (kept y.decider) ≡ settings (kept x.decider)) (long : length (lists y.outbox) ≡ length (lists x.outbox)) where
      found : slice_get posted (count x) ≡ Some e
      found = slice_get_read posted (length posted) (count x) e refl left read

      more : count y ≡ count x + 1
      more = omega (arith, (next (reverse (take (count x) posted)) here.past).count, past_length posted (count x) here.within)

      law_of : decider_state y ≡ decided s (owner s d) (Some e) (reverse (take (count x) posted)) (decider_state x)
      law_of = decided_law s (owner s d) e (reverse (take (count x) posted)) x y more long
          (λ l h. notices (reverse (take (count x) posted)) here.past l h
          ∙ ap (λ (t : Config × Zone × Share). waiting_at x.outbox l ++ gained t.0 t.1 t.2 l e (reverse (take (count x) posted))) here.settings)

      by_table : decider_state y ≡ decided s (owner s d) (next_of w d) (past_of w d) (decider_state x)
      by_table = law_of ∙ sym (ap (λ (n : ℕ). decided s (owner s d) (slice_get posted n) (reverse (take n posted)) (decider_state x)) counted
          ∙ ap (λ (o : Option Event). decided s (owner s d) o (reverse (take (count x) posted)) (decider_state x)) found)

      pub state_decided : state_of posted (set deciders d y) lanes ≡ after s w (Decide d)
      state_decided = ap (λ (all : List DeciderState). record w { deciders = all })
          (map-set_by decider_state deciders d x y no_decider (decided s (owner s d) (next_of w d) (past_of w d)) within at_d by_table)

      decider_fits : DeciderFits s posted d y
      decider_fits = record {
        within = omega (arith, left, more);
        past = subst (λ (n : ℕ). PastFits (kept y.decider) (reverse (take n posted))) (sym more)
            (subst (λ (events : List Event). PastFits (kept y.decider) events)
            (sym (past_more posted (count x) e left ∙ ap (λ (event : Event). event ∷ reverse (take (count x) posted)) (sym read)))
            (next (reverse (take (count x) posted)) here.past));
        settings = same ∙ here.settings;
        lanes = long ∙ here.lanes;
      }

      pub fits_decided : Fits s posted (set deciders d y) lanes
      fits_decided = fits_then fits (set deciders d y) lanes (after s w (Decide d))
          (set_found (DeciderFits s posted) deciders d y fits.each decider_fits) state_decided (decide_after s w fits.state law d can)
