-- What the deciders' threads give back, and what they told their logs.
use Rattle.std.proofs.Common.{◌≡◌, ℕ, ◌<◌, ◌≤◌, ◌∷◌, ◌++◌, Bool, false, List, [], length, slice_get, Some, refl, sym, ap, ◌∙◌, subst, ⊎_elim, arith}
use Rattle.std.proofs.lemmas.Bool.{cases_lt}
use Rattle.std.proofs.lemmas.Option.{same_Some, slice_get_within}
use Rattle.std.specs.declared.alloc.Global.{Global}
use Rattle.rtrb.specs.declared.AnyItems.{AnyItems}
use Rattle.rtrb.specs.declared.consumer.Consumer.{Consumer}
use Rattle.rtrb.specs.declared.producer.Producer.{Producer}
use Rattle.rtrb.specs.Ring.{IsPair}
use Rattle.due_model.specs.declared.config.Config.{Config}
use Rattle.due_model.specs.declared.event.Event.{Event}
use Rattle.due_model.specs.declared.notice.Suppression.{Suppression}
use Rattle.due_model.specs.declared.zone.Zone.{Zone}
use Rattle.channel_queue.specs.declared.LaneQueue.{LaneQueue}
use Rattle.decider.specs.declared.share.Share.{Share}
use Rattle.decider_thread.specs.declared.Signal.{Signal}
use Rattle.decider_thread.specs.declared.Signal.TheVariants.{Over}
use Rattle.decider_thread.specs.declared.ring.DeciderEnd.{DeciderEnd}
use Rattle.decider_thread.specs.Decided.{HasDecided, HasToldAndDecided, heard}
use Rattle.engine_threads.specs.declared.starts.DeciderWork.{DeciderWork}
use Rattle.engine_threads.specs.Joins.{AreEnds, IsEnd}
use Rattle.engine_threads.specs.Sent.{AreSame, HaveSent}
use Rattle.engine_threads.proofs.DueLaws.{share_of}
use Rattle.engine_threads.proofs.SentLaws.{pair_still}
use Rattle.lemmas.proofs.Lists.{some_at}

-- decider d told its log these, and ended
record ToldBy {L : Type 0} (tells : L → List Suppression → L → Type 0) (failed : L → Bool) (c : Config) (zone : Zone) (d : ℕ) (queues : List LaneQueue) (past : List Event) (logs back : List L) (ends : List DeciderEnd)
    (rings : List (Producer Signal Global AnyItems)) (told : List Suppression) : Type 0 where
  pub log : (a u : L) → slice_get logs d ≡ Some a → slice_get back d ≡ Some u → tells a told u
  pub end : (e : DeciderEnd) (p : Producer Signal Global AnyItems) → slice_get ends d ≡ Some e → slice_get rings d ≡ Some p → IsEnd c zone (length ends) d queues past told e p
  pub all : (e : DeciderEnd) (u : L) → slice_get ends d ≡ Some e → slice_get back d ≡ Some u → failed u ≡ false → e.log.items ≡ []

-- Of each handle, what its thread was given, and what it promises; they were started with these works and logs, and gave back these ends and logs.
module _ {H L : Type 0} (config_of : H → Config) (zone_of : H → Zone) (queues_of : H → List LaneQueue) (its_share : H → Share) (ring_of : H → Consumer Signal Global AnyItems) (log_of : H → L)
    (tells : L → List Suppression → L → Type 0) (failed : L → Bool) (c : Config) (zone : Zone) (queues : List LaneQueue) (past : List Event)
    (works : List DeciderWork) (logs : List L) (handles : List H) (ends : List DeciderEnd) (back : List L) (before rings : List (Producer Signal Global AnyItems))
    (started : length handles ≡ length works) (as_logs : length logs ≡ length works) (as_ends : length ends ≡ length handles) (as_back : length back ≡ length handles) (as_rings : length before ≡ length works)
    (each : (d : ℕ) (w : DeciderWork) (h : H) → slice_get works d ≡ Some w → slice_get handles d ≡ Some h
    → (config_of h ≡ c) × (zone_of h ≡ zone) × (queues_of h ≡ queues) × (its_share h ≡ share_of (length works) d) × (ring_of h ≡ w.ring))
    (own : (d : ℕ) (a : L) (h : H) → slice_get logs d ≡ Some a → slice_get handles d ≡ Some h → log_of h ≡ a)
    (joined : (d : ℕ) (h : H) (e : DeciderEnd) (u : L) → slice_get handles d ≡ Some h → slice_get ends d ≡ Some e → slice_get back d ≡ Some u
    → HasToldAndDecided tells failed (config_of h) (zone_of h) (its_share h) (queues_of h) (ring_of h) (log_of h) e u)
    (pairs : (d : ℕ) (w : DeciderWork) (p : Producer Signal Global AnyItems) → slice_get works d ≡ Some w → slice_get before d ≡ Some p → IsPair p w.ring)
    (same : AreSame before rings) (sent : HaveSent (heard past ++ Over ∷ []) rings) where
  told_by : (d : ℕ) → d < length ends → (told : List Suppression) × ToldBy tells failed c zone d queues past logs back ends rings told
  told_by d lt =
      let count : length ends ≡ length works = as_ends ∙ started in
      let below : d < length works = subst (λ n. d < n) count lt in
      let w = some_at works d below in
      let h = some_at handles d (subst (λ n. d < n) (sym started) below) in
      let e0 = some_at ends d lt in
      let u0 = some_at back d (subst (λ n. d < n) (sym (as_back ∙ started)) below) in
      let a0 = some_at logs d (subst (λ n. d < n) (sym as_logs) below) in
      let p0 = some_at before d (subst (λ n. d < n) (sym as_rings) below) in
      let its = each d w.0 h.0 w.1 h.1 in
      let kept = joined d h.0 e0.0 u0.0 h.1 e0.1 u0.1 in
      let share : its_share h.0 ≡ share_of (length ends) d = its.3 ∙ ap (λ n. share_of n d) (sym count) in
      let one = subst (λ (k : Config). HasDecided k (zone_of h.0) (its_share h.0) (queues_of h.0) (ring_of h.0) kept.0 e0.0) its.0 kept.2 in
      let two = subst (λ (z : Zone). HasDecided c z (its_share h.0) (queues_of h.0) (ring_of h.0) kept.0 e0.0) its.1 one in
      let three = subst (λ (qs : List LaneQueue). HasDecided c zone (its_share h.0) qs (ring_of h.0) kept.0 e0.0) its.2 two in
      let mine = subst (λ (s : Share). HasDecided c zone s queues (ring_of h.0) kept.0 e0.0) share three in (
        kept.0,
        record {
          log = λ a u at_a at_u.
              subst (λ (v : L). tells a kept.0 v) (same_Some u0.0 u (sym u0.1 ∙ at_u))
              (subst (λ (b : L). tells b kept.0 u0.0) (own d a h.0 at_a h.1) kept.1);
          end = λ e p at_e at_p.
              subst (λ (f : DeciderEnd). IsEnd c zone (length ends) d queues past kept.0 f p) (same_Some e0.0 e (sym e0.1 ∙ at_e)) (record {
                first = ring_of h.0;
                decided = mine;
                pair = pair_still p0.0 p (ring_of h.0) e0.0.ring (subst (λ r. IsPair p0.0 r) (sym its.4) (pairs d w.0 p0.0 w.1 p0.1)) (same d p0.0 p p0.1 at_p) mine.ring_same;
                sent_all = sent d p at_p;
              });
          all = λ e u at_e at_u unfailed.
              subst (λ (f : DeciderEnd). f.log.items ≡ []) (same_Some e0.0 e (sym e0.1 ∙ at_e))
              (kept.3 (ap failed (same_Some u0.0 u (sym u0.1 ∙ at_u)) ∙ unfailed));
        },
      )

  chosen : (d : ℕ) → (told : List Suppression) × (d < length ends → ToldBy tells failed c zone d queues past logs back ends rings told) × (length ends ≤ d → told ≡ [])
  chosen d = ⊎_elim
      (λ (lt : d < length ends). let its = told_by d lt in (its.0, (λ _. its.1), λ (ge : length ends ≤ d). absurd (omega (arith, lt, ge))))
      (λ (ge : length ends ≤ d). ([], (λ (lt : d < length ends). absurd (omega (arith, lt, ge))), λ _. refl))
      (cases_lt d (length ends))

  -- what each decider told, and that all have ended; one whose log hasn't failed has kept nothing
  pub all_ended : (told : ℕ → List Suppression) × AreEnds c zone queues past told ends rings
      × ((d : ℕ) (a u : L) → slice_get logs d ≡ Some a → slice_get back d ≡ Some u → tells a (told d) u)
      × ((d : ℕ) → length back ≤ d → told d ≡ [])
      × ((d : ℕ) (e : DeciderEnd) (u : L) → slice_get ends d ≡ Some e → slice_get back d ≡ Some u → failed u ≡ false → e.log.items ≡ [])
  all_ended = (
    (λ d. (chosen d).0),
    (λ d e p at_e at_p. ((chosen d).1 (slice_get_within ends d e at_e)).end e p at_e at_p),
    (λ d a u at_a at_u. ((chosen d).1 (subst (λ n. d < n) (as_logs ∙ sym (as_ends ∙ started)) (slice_get_within logs d a at_a))).log a u at_a at_u),
    (λ d ge. (chosen d).2 (omega (arith, ge, as_ends, as_back))),
    λ d e u at_e at_u. ((chosen d).1 (slice_get_within ends d e at_e)).all e u at_e at_u,
  )
