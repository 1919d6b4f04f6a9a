-- What the threads begin with.
use Rattle.std.proofs.Common.{◌≡◌, Option, None, ℕ, ◌+◌, ◌<◌, ◌≤◌, set, arith, List, [], ◌∷◌, ◌++◌, length, length-append, slice_get, Some, refl, sym, ap, ◌∙◌, subst, ⊎_elim}
use Rattle.std.proofs.lemmas.Bool.{cases_eq}
use Rattle.std.proofs.lemmas.Option.{none-some, same_Some, slice_get_within}
use Rattle.engine_threads.specs.ListLaws.{pairs_grow, place, set_other, set_same}
use Rattle.lemmas.proofs.Lists.{some_at}
use Rattle.std.specs.declared.alloc.Global.{Global}
use Rattle.rtrb.specs.declared.AnyItems.{AnyItems}
use Rattle.rtrb.specs.declared.producer.Producer.{Producer}
use Rattle.rtrb.specs.Ring.{IsPair, received, sent}
use Rattle.channel_queue.specs.declared.LaneQueue.{LaneQueue}
use Rattle.decider_thread.specs.declared.Signal.{Signal}
use Rattle.decider_thread.specs.declared.seats.Seat.{Seat}
use Rattle.engine_threads.specs.declared.starts.DeciderWork.{DeciderWork}
use Rattle.decider_thread.specs.Puts.{ArePut, Puts}
use Rattle.engine_threads.specs.Works.{AreDeciderWorks, AreLonger, AreRings, IsDeciderWork, IsLonger}

pub rings_grow : (ws : List DeciderWork) (ps : List (Producer Signal Global AnyItems)) (w : DeciderWork) (p : Producer Signal Global AnyItems) → length ps ≡ length ws → sent p ≡ [] → IsPair p w.ring
    → AreRings ws ps → AreRings (ws ++ w ∷ []) (ps ++ p ∷ [])
rings_grow ws ps w p same none pair r = record {
  unsent = λ d o at. ⊎_elim (λ x. r.unsent d o x) (λ x. subst (λ (u : Producer Signal Global AnyItems). sent u ≡ []) x.1 none) (place ps p o d at);
  pairs = pairs_grow (λ d u o. IsPair o u.ring) ws ps w p same r.pairs pair;
}

pub works_grow : (queues : List LaneQueue) (ws : List DeciderWork) (w : DeciderWork) → AreDeciderWorks queues ws → IsDeciderWork (length ws) queues w → AreDeciderWorks queues (ws ++ w ∷ [])
works_grow queues ws w each last d u at = ⊎_elim (λ x. each d u x) (λ x. subst (λ (v : DeciderWork). IsDeciderWork d queues v) x.1 (subst (λ (k : ℕ). IsDeciderWork k queues w) (sym x.0) last)) (place ws w u d at)

-- nothing was put into no queue
pub new_work : (d : ℕ) (w : DeciderWork) → received w.ring ≡ [] → w.seats.items ≡ [] → IsDeciderWork d [] w
new_work d w fresh none = record {
  fresh = fresh;
  count = ap length none;
  puts = λ l q s at_q. absurd (none-some q at_q);
}

-- one lane more
pub longer_work : (d : ℕ) (queues : List LaneQueue) (q : LaneQueue) (w v : DeciderWork) → IsLonger d q w v → IsDeciderWork d queues w → IsDeciderWork d (queues ++ q ∷ []) v
longer_work d queues q w v more is = record {
  fresh = ap received more.ring ∙ is.fresh;
  count = ap length more.seats ∙ length-append w.seats.items (more.seat ∷ []) ∙ ap (λ n. n + 1) is.count ∙ sym (length-append queues (q ∷ []));
  puts = subst (λ (ss : List Seat). ArePut d (queues ++ q ∷ []) ss (λ _. []) (λ _. [])) (sym more.seats)
      (pairs_grow (λ l r s. Puts r d [] [] s.pass) queues w.seats.items q more.seat is.count is.puts (record { put = []; is = more.is; rest = refl }));
}

-- ---- a seat more for each decider, one after another

module _ (q : LaneQueue) (old now : List DeciderWork) (k : ℕ) (w v : DeciderWork) (at : slice_get now k ≡ Some w) where
  pub longer_one : IsLonger k q w v → slice_get old k ≡ Some w
      → ((d : ℕ) (a b : DeciderWork) → d < k → slice_get old d ≡ Some a → slice_get now d ≡ Some b → IsLonger d q a b)
      → (d : ℕ) (a b : DeciderWork) → d < k + 1 → slice_get old d ≡ Some a → slice_get (set now k v) d ≡ Some b → IsLonger d q a b
  longer_one more was below d a b lt at_a at_b = ⊎_elim
      (λ (is : d ≡ k).
      let same_old : w ≡ a = same_Some w a (sym was ∙ subst (λ (m : ℕ). slice_get old m ≡ Some a) is at_a) in
      let same_new : v ≡ b = same_Some v b (sym (set_same now k v (slice_get_within now k w at)) ∙ subst (λ (m : ℕ). slice_get (set now k v) m ≡ Some b) is at_b) in
      subst (λ (m : ℕ). IsLonger m q a b) (sym is) (subst (λ (x : DeciderWork). IsLonger k q x b) same_old (subst (λ (x : DeciderWork). IsLonger k q w x) same_new more)))
      (λ (apart : ¬ (d ≡ k)). below d a b (omega (arith, lt, apart)) at_a (sym (set_other now k d v apart) ∙ at_b))
      (cases_eq d k)

  pub left_one : ((d : ℕ) (b : DeciderWork) → k ≤ d → slice_get now d ≡ Some b → slice_get old d ≡ Some b)
      → (d : ℕ) (b : DeciderWork) → k + 1 ≤ d → slice_get (set now k v) d ≡ Some b → slice_get old d ≡ Some b
  left_one left d b above at_b = left d b (omega (arith, above)) (sym (set_other now k d v (λ is. absurd (omega (arith, above, is)))) ∙ at_b)

-- ---- a lane more

was_there : (old new : List DeciderWork) (d : ℕ) (v : DeciderWork) → length new ≡ length old → slice_get new d ≡ Some v → (w : DeciderWork) × (slice_get old d ≡ Some w)
was_there old new d v long at = some_at old d (subst (λ n. d < n) long (slice_get_within new d v at))

pub rings_longer : (q : LaneQueue) (old new : List DeciderWork) (ps : List (Producer Signal Global AnyItems)) → length new ≡ length old → AreLonger q old new → AreRings old ps → AreRings new ps
rings_longer q old new ps long more r = record {
  unsent = r.unsent;
  pairs = λ d v p at_v at_p.
      let w = was_there old new d v long at_v in
      subst (λ ring. IsPair p ring) (sym (more d w.0 v w.1 at_v).ring) (r.pairs d w.0 p w.1 at_p);
}

pub works_longer : (queues : List LaneQueue) (q : LaneQueue) (old new : List DeciderWork) → length new ≡ length old → AreLonger q old new → AreDeciderWorks queues old → AreDeciderWorks (queues ++ q ∷ []) new
works_longer queues q old new long more works d v at =
    let w = was_there old new d v long at in
    longer_work d queues q w.0 v (more d w.0 v w.1 at) (works d w.0 w.1)

-- a number of the item at each place
abbrev number_in : {W : Type 0} → Option W → (W → ℕ) → ℕ
number_in None of = 0
number_in (Some w) of = of w

abbrev pub number_of : {W : Type 0} → List W → (W → ℕ) → ℕ → ℕ
number_of ws of l = number_in (slice_get ws l) of

pub number_at : {W : Type 0} (ws : List W) (of : W → ℕ) (l : ℕ) (w : W) → slice_get ws l ≡ Some w → of w ≡ number_of ws of l
number_at {W} ws of l w at = sym (ap (λ (o : Option W). number_in o of) at)
