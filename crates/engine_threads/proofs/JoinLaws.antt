-- Deciders' passes, joined to the workers'.
use Rattle.std.proofs.Common.{◌≡◌, ℕ, ◌<◌, ◌+◌, ◌||◌, All, Bool, true, false, true≢false, List, [], ◌∷◌, ◌++◌, length, set, get_or, slice_get, Some, refl, sym, ap, ◌∙◌, subst, ⊎_elim, arith}
use Rattle.std.proofs.lemmas.Bool.{cases_eq}
use Rattle.std.proofs.lemmas.Option.{same_Some, slice_get-get_or, slice_get_within}
use Rattle.due_model.specs.declared.config.Config.{Config}
use Rattle.due_model.specs.declared.event.Event.{Event}
use Rattle.decider_thread.specs.Made.{made_due}
use Rattle.crossbeam_queue.specs.Passes.{Pass}
use Rattle.due_model.specs.declared.item.Item.{Item}
use Rattle.due_model.specs.declared.item.Item.TheVariants as item
use Rattle.due_model.specs.declared.notice.Notice.{Notice}
use Rattle.due_model.specs.declared.notice.Suppression.{Suppression}
use Rattle.due_model.specs.declared.zone.Zone.{Zone}
use Rattle.due_model.specs.Items.{decider_of}
use Rattle.channel_queue.specs.declared.Joined.{Joined}
use Rattle.channel_queue.specs.declared.LaneQueue.{LaneQueue}
use Rattle.channel_queue.specs.declared.Seen.{Seen}
use Rattle.channel_queue.specs.declared.Seen.TheVariants.{Decider, Worker}
use Rattle.channel_queue.specs.Passes.{IsDecider, IsWorker}
use Rattle.channel_queue.specs.Rule.{IsPickedOf, decider_at, decider_seen, joined_of, joined_seen, picked_of, picked_seen, put_of, put_seen}
use Rattle.delivery_worker.specs.declared.worker.Served.{Served}
use Rattle.channel.specs.claims.Channels.{Account, Offer}
use Rattle.delivery_worker.specs.claims.Channels.{HaveServed}
use Rattle.delivery_worker.specs.Channels.{records_in}
use Rattle.delivery_worker.specs.Picked.{joined}
use Rattle.undelivered.specs.Record.{Record}
use Rattle.undelivered.specs.declared.Why.TheVariants as why
use Rattle.engine_threads.specs.Lanes.{HaveTaken}
use Rattle.engine_threads.specs.Joins.{AreKept, ArePickedBelow, AreWorkers, IsKept, IsMet, IsPicked}
use Rattle.decider_thread.specs.Puts.{as_items}
use Rattle.engine_threads.specs.ListLaws.{set_other, set_same}

-- a pass knows what it has
pub own_worker : (q : LaneQueue) (picked : List Item) (joined : List Joined) (p : Pass Item Seen) → IsWorker q picked joined p → IsWorker q (picked_of p) (joined_of p) p
own_worker q picked joined p is = (is.0, is.1 ∙ ap (λ (v : Seen). Worker (picked_seen v) q.deciders (joined_seen v)) (sym is.1))

pub own_decider : (q : LaneQueue) (d : ℕ) (put : List Item) (p : Pass Item Seen) → IsDecider q d put p → IsDecider q (decider_at p) (put_of p) p
own_decider q d put p is = (is.0, is.1 ∙ ap (λ (v : Seen). Decider (decider_seen v) (put_seen v)) (sym is.1))

module _ (queues : List LaneQueue) (served : List Served) (k : ℕ) (q : LaneQueue) (s s' : Served) (at_queue : slice_get queues k ≡ Some q) (at : slice_get served k ≡ Some s) where
  here : (t : Served) → slice_get (set served k s') k ≡ Some t → s' ≡ t
  here t at_t = same_Some s' t (sym (set_same served k s' (slice_get_within served k s at)) ∙ at_t)

  pub joined_workers : (picked : List Item) (joined : List Joined) → IsWorker q picked joined s'.pass → AreWorkers queues served → AreWorkers queues (set served k s')
  joined_workers picked joined is workers l p t at_p at_t = ⊎_elim
      (λ (e : l ≡ k).
      let same_queue : q ≡ p = same_Some q p (sym at_queue ∙ subst (λ (m : ℕ). slice_get queues m ≡ Some p) e at_p) in
      let same : s' ≡ t = here t (subst (λ (m : ℕ). slice_get (set served k s') m ≡ Some t) e at_t) in
      subst (λ (u : Served). IsWorker p (picked_of u.pass) (joined_of u.pass) u.pass) same (subst (λ (r : LaneQueue). IsWorker r (picked_of s'.pass) (joined_of s'.pass) s'.pass) same_queue (own_worker q picked joined s'.pass is)))
      (λ (apart : ¬ (l ≡ k)). workers l p t at_p (sym (set_other served k l s' apart) ∙ at_t))
      (cases_eq l k)

  pub joined_kept : (old : List Served) → IsKept s s' → AreKept old served → AreKept old (set served k s')
  joined_kept old kept are l o t at_o at_t = ⊎_elim
      (λ (e : l ≡ k).
      let same : s' ≡ t = here t (subst (λ (m : ℕ). slice_get (set served k s') m ≡ Some t) e at_t) in
      let was = are l o s at_o (subst (λ (m : ℕ). slice_get served m ≡ Some s) (sym e) at) in
      subst (λ (u : Served). IsKept o u) same (record { held = kept.held ∙ was.held; why = kept.why ∙ was.why; picked = kept.picked ∙ was.picked }))
      (λ (apart : ¬ (l ≡ k)). are l o t at_o (sym (set_other served k l s' apart) ∙ at_t))
      (cases_eq l k)

  pub joined_picked : (old : List Served) (pass : Pass Item Seen) (d : ℕ) (put : ℕ → List Notice) → AreKept old served → IsDecider q d (as_items d (put k) ++ item.End d ∷ []) pass
      → IsPickedOf (decider_at pass) (picked_of s.pass) (put_of pass) → All (λ x. decider_of x < q.deciders) (picked_of s.pass)
      → ArePickedBelow k d queues put old → ArePickedBelow (k + 1) d queues put old
  joined_picked old pass d put are is read numbers below l p o lt at_p at_o = ⊎_elim
      (λ (e : l ≡ k).
      let same_queue : q ≡ p = same_Some q p (sym at_queue ∙ subst (λ (m : ℕ). slice_get queues m ≡ Some p) e at_p) in
      let kept = are l o s at_o (subst (λ (m : ℕ). slice_get served m ≡ Some s) (sym e) at) in
      let mine : IsPickedOf d (picked_of o.pass) (as_items d (put k) ++ item.End d ∷ []) =
      subst (λ (v : Seen). IsPickedOf (decider_seen v) (picked_of o.pass) (put_seen v)) is.1 (subst (λ (xs : List Item). IsPickedOf (decider_at pass) xs (put_of pass)) kept.picked read) in
      subst (λ (m : ℕ). IsPicked d p (put m) o) (sym e) (subst (λ (r : LaneQueue). IsPicked d r (put k) o) same_queue (record {
        read = mine;
        numbers = subst (λ (xs : List Item). All (λ x. decider_of x < q.deciders) xs) kept.picked numbers;
      })))
      (λ (apart : ¬ (l ≡ k)). below l p o (omega (arith, lt, apart)) at_p at_o)
      (cases_eq l k)

-- ---- several deciders

there : {X : Type 0} (old new : List X) (d : ℕ) (p : X) → length new ≡ length old → slice_get new d ≡ Some p → slice_get old d ≡ Some (get_or old d p)
there old new d p same at = slice_get-get_or old d p (subst (λ n. d < n) same (slice_get_within new d p at))

pub kept_then : (a b c : List Served) → length c ≡ length b → AreKept a b → AreKept b c → AreKept a c
kept_then a b c long one two l s t at_s at_t =
    let m = get_or b l t in
    let at_m = there b c l t long at_t in
    let first = one l s m at_s at_m in
    let second = two l m t at_m at_t in record {
      held = second.held ∙ first.held;
      why = second.why ∙ first.why;
      picked = second.picked ∙ first.picked;
    }

-- what is known of a pass is known of what it was
picked_before : (d : ℕ) (q : LaneQueue) (put : List Notice) (s t : Served) → IsKept s t → IsPicked d q put t → IsPicked d q put s
picked_before d q put s t kept is = record {
  read = subst (λ (xs : List Item). IsPickedOf d xs (as_items d put ++ item.End d ∷ [])) kept.picked is.read;
  numbers = subst (λ (xs : List Item). All (λ x. decider_of x < q.deciders) xs) kept.picked is.numbers;
}

pub met_before : (c : Config) (zone : Zone) (n d : ℕ) (queues : List LaneQueue) (events : List Event) (memory more : Bool) (old now : List Served) (told lines : List Suppression) → length old ≡ length now → (more ≡ false → memory ≡ false) → AreKept old now
    → IsMet c zone n d queues events memory now told lines → IsMet c zone n d queues events more old told lines
met_before c zone n d queues events memory more old now told lines long refused kept met = record {
  past = met.past;
  older = met.older;
  whole = λ e. met.whole (refused e);
  picked = λ l q s at_q at_s.
      let t = get_or now l s in
      let at_t = there now old l s long at_s in
      picked_before d q (made_due c zone (record { decider = d; deciders = n }) l met.past) s t (kept l s t at_s at_t) (met.picked l q t at_q at_t);
  log = met.log;
}

pub neither_first : (a b : Bool) → (a || b) ≡ false → a ≡ false
neither_first true b e = absurd (true≢false e)
neither_first false b e = refl

pub neither_second : (a b : Bool) → (a || b) ≡ false → b ≡ false
neither_second true b e = absurd (true≢false e)
neither_second false b e = e

pub kept_self : (a : List Served) → AreKept a a
kept_self a l s t at_s at_t =
    let same : s ≡ t = same_Some s t (sym at_s ∙ at_t) in
    subst (λ (u : Served). IsKept s u) same (record { held = refl; why = refl; picked = refl })

-- the channels of a lane are what they were where only its pass was joined
pub channels_still : {C : Type 0} (account : C → Account) (offered : C → List Offer → C → Type 0) (tries more : ℕ) (c d : Config) (s t : Served) (old given new : List C) → tries ≡ more → c ≡ d → old ≡ given → IsKept s t
    → HaveTaken account offered tries c s old new → HaveTaken account offered more d t given new
channels_still {C} account offered tries more c d s t old given new same_tries same_config same_channels kept h =
    subst (λ (r : Record). HaveServed account offered more d (records_in r) (joined r) (r.why ≡ Some why.Failed) given new) (sym kept.held)
    (subst (λ (l : List C). HaveTaken account offered more d s l new) same_channels
    (subst (λ (k : Config). HaveTaken account offered more k s old new) same_config
    (subst (λ (n : ℕ). HaveTaken account offered n c s old new) same_tries h)))
