use Rattle.std.proofs.Common.{◌≡◌, ℕ, List, [], ◌∷◌, ◌++◌, Some, length, map, replicate, take, reverse, slice_get, sym, ap, ◌∙◌, subst, arith}
use Rattle.std.proofs.lemmas.List.{length-map, length-replicate, map-append, replicate-append-replicate}
use Rattle.decider.specs.claims.Fits.{Fits, kept}
use Rattle.decider.specs.claims.Outbox.{lists}
use Rattle.due_model.specs.declared.notice.Notice.{Notice}
use Rattle.world_steps.specs.declared.deciders.KeptDecider.{KeptDecider}
use Rattle.world_steps.specs.claims.Worlds.{DeciderState, setup_for}
use Rattle.world_steps.specs.Worlds.{new_decider}
use Rattle.world_steps.specs.claims.Fits.{decider_state, DeciderFits, count}
use Rattle.world_steps.proofs.FitLaws.{push_found}
use Rattle.world_steps.proofs.deciders.new_deciders.Goals as goal

pub loop-decider-preserved : goal.loop-decider-preserved
loop-decider-preserved c =
    let made = c.loop-decider.made.items in
    let x : KeptDecider = record { decider = c.in_ok-new.field-0; outbox = c.in_ok-new-2.field-0 } in
    let d = c.loop-decider.decider in
    let s = setup_for c.args.config.now c.args.zone.now c.args.settings in
    let new = new_decider (length c.args.config.now.lanes) in
    let was = c.loop-decider.invariant in
    let fresh = c.in_ok-new.ensures in
    let none : count x ≡ 0 = fresh.fits.count in
    let outs : lists x.outbox ≡ replicate (length c.args.config.now.lanes) [] = c.in_ok-new-2.ensures ∙ ap (λ (n : ℕ). replicate n []) c.len.ensures in
    let state : decider_state x ≡ new =
    ap (λ (n : ℕ). record { decided = n; outboxes = lists x.outbox }) none
    ∙ ap (λ (outs : List (List Notice)). record { decided = 0; outboxes = outs }) outs in
    let long : length made ≡ d = sym (length-map made decider_state) ∙ ap length was.states ∙ length-replicate d new in
    record {
      states = ap (map decider_state) c.in_ok-push.ensures.items ∙ map-append decider_state made (x ∷ [])
          ∙ ap (λ (y : DeciderState). map decider_state made ++ y ∷ []) state ∙ ap (λ (ys : List DeciderState). ys ++ new ∷ []) was.states
          ∙ replicate-append-replicate d 1 new;
      fits = subst (λ (xs : List KeptDecider). (k : ℕ) (y : KeptDecider) → slice_get xs k ≡ Some y → DeciderFits s [] k y) (sym c.in_ok-push.ensures.items)
          (push_found (DeciderFits s []) made d x long was.fits (record {
            within = omega (arith, none);
            past = subst (λ (n : ℕ). Fits (kept x.decider) (reverse (take n []))) (sym none) fresh.fits;
            settings = fresh.settings;
            lanes = ap length outs ∙ length-replicate (length c.args.config.now.lanes) [];
          }));
    }
