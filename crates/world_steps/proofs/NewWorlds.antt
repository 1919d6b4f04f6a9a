-- A new world is one of which all holds.
use Rattle.std.proofs.Common.{◌≡◌, ℕ, zero, suc, ◌%◌, List, [], ◌∷◌, ◌++◌, length, map, get_or, replicate, take, reverse, slice_get, Option, Some, None, refl, sym, ap, ◌∙◌, subst, arith, inl, inr}
use Rattle.std.proofs.lemmas.Bool.{cases_lt}
use Rattle.std.proofs.lemmas.List.{length-map, length-replicate, get_or-replicate, get_or_past}
use Rattle.std.proofs.lemmas.List.Elements.{All-nil, All-same}
use Rattle.due_model.specs.declared.config.Object.{Object}
use Rattle.due_model.specs.declared.notice.Notice.{Notice}
use Rattle.due_model.specs.claims.Due.{due, due_for}
use Rattle.steps.specs.claims.Lanes.{LaneState, new_lane, empty_lane}
use Rattle.world_steps.specs.claims.Worlds.{DeciderState, Setup, no_decider, decider_at, outbox_at}
use Rattle.world_steps.specs.Worlds.{new_decider}
use Rattle.world_steps.specs.claims.Steps.{past_of}
use Rattle.steps.specs.claims.Lanes.{about, contents}
use Rattle.world_steps.specs.claims.Lines.{decider_of}
use Rattle.world_steps.specs.Runs.{new_world}
use Rattle.world_steps.specs.claims.Fits.{StateFits}

-- nothing is due after no event
nothing_due : (s : Setup) (o l : ℕ) → due s.config s.zone o l [] ≡ []
nothing_due s o l = by_object (slice_get s.config.objects o)
  where
    by_object : (found : Option Object) → elim found as (λ _. List Notice) [ None ↦ [] | Some object ↦ due_for s.config s.zone o object l [] ] ≡ []
    by_object None = refl
    by_object (Some object) = refl

module _ (s : Setup) (served : List ℕ) where
  -- a decider of a new world, or one that isn't there
  decider_is : (P : DeciderState → Type 0) → P (new_decider (length s.config.lanes)) → P no_decider → (d : ℕ) → P (decider_at (new_world s served) d)
  decider_is P new none d = elim (cases_lt d s.settings.deciders) [
    | inl h ↦ subst P (sym (get_or-replicate s.settings.deciders d (new_decider (length s.config.lanes)) no_decider h)) new
    | inr h ↦ subst P (sym (get_or_past (replicate s.settings.deciders (new_decider (length s.config.lanes))) d no_decider (omega (arith, h, length-replicate s.settings.deciders (new_decider (length s.config.lanes)))))) none
  ]

  -- a lane of a new world, or one that isn't there
  pub lane_is : (P : LaneState → Type 0) → ((channels : ℕ) → P (new_lane channels)) → (all : List ℕ) (l : ℕ) → P (get_or (map new_lane all) l empty_lane)
  lane_is P new [] l = new 1
  lane_is P new (channels ∷ all) zero = new channels
  lane_is P new (channels ∷ all) (suc l) = lane_is P new all l

  pub no_outbox : (d l : ℕ) → outbox_at (new_world s served) d l ≡ []
  no_outbox d l = decider_is (λ x. get_or x.outboxes l [] ≡ [])
      (elim (cases_lt l (length s.config.lanes)) [
        | inl h ↦ get_or-replicate (length s.config.lanes) l [] [] h
        | inr h ↦ get_or_past (replicate (length s.config.lanes) []) l [] (omega (arith, h, length-replicate {A = List Notice} (length s.config.lanes) []))
      ]) refl d

  none_decided : (d : ℕ) → (decider_at (new_world s served) d).decided ≡ 0
  none_decided d = decider_is (λ x. x.decided ≡ 0) refl refl d

  pub no_past : (d : ℕ) → past_of (new_world s served) d ≡ []
  no_past d = ap (λ (n : ℕ). reverse (take n [])) (none_decided d)

  pub new_fits : length served ≡ length s.config.lanes → StateFits s (new_world s served)
  new_fits long = record {
    lanes = length-map served new_lane ∙ long;
    deciders = length-replicate s.settings.deciders (new_decider (length s.config.lanes));
    outboxes = λ d h. ap (λ (x : DeciderState). length x.outboxes) (get_or-replicate s.settings.deciders d (new_decider (length s.config.lanes)) no_decider (omega (arith, h, length-replicate s.settings.deciders (new_decider (length s.config.lanes)))))
        ∙ length-replicate (length s.config.lanes) [];
    within = λ d. omega (arith, none_decided d);
    share = λ d l. All-same (λ (n : Notice). n.object.0 % s.settings.deciders ≡ d) (outbox_at (new_world s served) d l) [] (no_outbox d l) (All-nil (λ (n : Notice). n.object.0 % s.settings.deciders ≡ d));
    serving = λ l _. lane_is (λ lane. lane.undelivered ≡ []) (λ _. refl) served l;
    due = λ l o within known.
        ap (λ (held : List Notice). about o (held ++ outbox_at (new_world s served) (decider_of s o) l)) (lane_is (λ lane. contents lane ≡ []) (λ _. refl) served l)
        ∙ ap (about o) (no_outbox (decider_of s o) l)
        ∙ sym (ap (due s.config s.zone o l) (no_past (decider_of s o)) ∙ nothing_due s o l);
  }
