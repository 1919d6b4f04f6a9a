-- A lane and the log at the end of a run.
use Rattle.std.proofs.Common.{◌≡◌, ◌≢◌, ℕ, ◌<◌, ◌≤◌, ◌%◌, ◌==◌, ◌∷◌, [], ◌++◌, All, Bool, true, false, true≢false, ◌||◌, List, length, slice_get, Some, refl, sym, ap, ◌∙◌, subst, ⊎_elim, arith, append-nil, length-append, eq-eqb}
use Rattle.std.proofs.lemmas.Bool.{cases_lt, ne_eqb}
use Rattle.std.proofs.lemmas.List.Elements.{All-nil, All-tail, filter-append}
use Rattle.std.proofs.lemmas.Option.{none-some}
use Rattle.std.proofs.Math.ListN.{get_or-append}
use mathlib.Core.List.{IsPrefix}
use Rattle.due_model.specs.declared.config.Config.{Config}
use Rattle.due_model.specs.declared.event.Event.{Event}
use Rattle.due_model.specs.declared.notice.Notice.{Notice}
use Rattle.due_model.specs.declared.notice.Suppression.{Suppression}
use Rattle.due_model.specs.declared.zone.Zone.{Zone}
use Rattle.due_model.specs.claims.Due.{due, sup}
use Rattle.due_model.specs.Items.{decider_of, notices}
use Rattle.decider.specs.declared.share.Share.{Share}
use Rattle.decider.specs.claims.Decider.{gained, suppressed_gained}
use Rattle.channel_queue.specs.declared.LaneQueue.{LaneQueue}
use Rattle.channel_queue.specs.Rule.{picked_of}
use Rattle.decider_thread.specs.declared.ring.DeciderEnd.{DeciderEnd}
use Rattle.decider_thread.specs.claims.Decided.{IsOlder}
use Rattle.decider_thread.specs.claims.Laws.{of_object}
use Rattle.decider_thread.specs.Laws.{MadeIsDue, MadeIsOwn, SuppressedIsInOrder, SuppressedIsNamed, SuppressedIsOwn, SuppressedIsSup}
use Rattle.decider_thread.specs.Made.{made_due, suppressed}
use Rattle.delivery_worker.specs.declared.worker.Served.{Served}
use Rattle.delivery_worker.specs.Picked.{AllEnded, joined}
use Rattle.std.specs.List.{AllPairs}
use Rattle.lemmas.proofs.Lists.{AllPairs-nil, AllPairs-tail, some_at}
use Rattle.decider_thread.specs.claims.Order.{IsInOrder, place}
use Rattle.due_model.specs.claims.Accepted.{IsAccepted}
use Rattle.steps.specs.claims.Lanes.{about}
use Rattle.undelivered.specs.Record.{Record}
use Rattle.undelivered.specs.declared.Why.{Why}
use Rattle.undelivered.specs.declared.Why.TheVariants.{NoMemory}
use Rattle.engine_threads.specs.Joins.{ArePicked, IsKept, IsMet}
use Rattle.engine_threads.specs.Lanes.{HasCause, IsServed}
use Rattle.engine_threads.specs.Logs.{AreInOrder, HasEach}
use Rattle.engine_threads.specs.Told.{HasRun, HaveTold}
use Rattle.engine_threads.specs.claims.Run.{IsNamed}
use Rattle.engine_threads.specs.Run.{AreLaneEnds, IsLaneEnd, IsLogOf, IsRun}
use Rattle.engine_threads.proofs.DueLaws.{LaneRead, about_front, lane_front, lane_named, lane_whole, owner, prefix_then, share_of}
use Rattle.engine_threads.proofs.JoinLaws.{neither_first, neither_second}
use Rattle.engine_threads.proofs.LogLaws.{named_below}

-- the laws of what is made of a share
pub record Laws : Type 0 where
  pub due : MadeIsDue
  pub own : MadeIsOwn
  pub suppressed : SuppressedIsSup
  pub nothing_else : SuppressedIsOwn
  pub named : SuppressedIsNamed
  pub order : SuppressedIsInOrder

-- ---- what older events make comes first

made_grows : (c : Config) (zone : Zone) (share : Share) (l : ℕ) (newer past : List Event) → IsPrefix (made_due c zone share l past) (made_due c zone share l (newer ++ past))
made_grows c zone share l [] past = ([], append-nil (made_due c zone share l past))
made_grows c zone share l (e ∷ newer) past = prefix_then (made_due c zone share l past) (made_due c zone share l (newer ++ past)) (made_due c zone share l (e ∷ (newer ++ past))) (made_grows c zone share l newer past) (gained c zone share l e (newer ++ past), refl)

suppressed_grows : (c : Config) (zone : Zone) (share : Share) (newer past : List Event) → IsPrefix (suppressed c zone share past) (suppressed c zone share (newer ++ past))
suppressed_grows c zone share [] past = ([], append-nil (suppressed c zone share past))
suppressed_grows c zone share (e ∷ newer) past = prefix_then (suppressed c zone share past) (suppressed c zone share (newer ++ past)) (suppressed c zone share (e ∷ (newer ++ past))) (suppressed_grows c zone share newer past) (suppressed_gained c zone share e (newer ++ past), refl)

of_object_front : (o : ℕ) (a b : List Suppression) → IsPrefix a b → IsPrefix (of_object o a) (of_object o b)
of_object_front o a b front = (of_object o front.0, sym (filter-append (λ (s : Suppression). s.object.0 == o) a front.0) ∙ ap (of_object o) front.1)

owns_it : (n o : ℕ) → ((o % n) == (o % n)) ≡ true
owns_it n o = eq-eqb (o % n) (o % n) refl

module _ (laws : Laws) (c : Config) (zone : Zone) (n o : ℕ) (within : o < length c.objects) where
  abbrev its : Share
  its = share_of n (o % n)

  due_older : (l : ℕ) (newer past : List Event) → IsPrefix (due c zone o l past) (due c zone o l (newer ++ past))
  due_older l newer past =
      subst (λ (ns : List Notice). IsPrefix ns (due c zone o l (newer ++ past))) (laws.due c zone its l o past (owns_it n o) within)
      (subst (λ (ns : List Notice). IsPrefix (about o (made_due c zone its l past)) ns) (laws.due c zone its l o (newer ++ past) (owns_it n o) within)
      (about_front o (made_due c zone its l past) (made_due c zone its l (newer ++ past)) (made_grows c zone its l newer past)))

  sup_older : (newer past : List Event) → IsPrefix (sup c zone o past) (sup c zone o (newer ++ past))
  sup_older newer past =
      subst (λ (ls : List Suppression). IsPrefix ls (sup c zone o (newer ++ past))) (laws.suppressed c zone its o past (owns_it n o) within)
      (subst (λ (ls : List Suppression). IsPrefix (of_object o (suppressed c zone its past)) ls) (laws.suppressed c zone its o (newer ++ past) (owns_it n o) within)
      (of_object_front o (suppressed c zone its past) (suppressed c zone its (newer ++ past)) (suppressed_grows c zone its newer past)))

-- ---- a lane

-- what decider d of n has put for the lanes
record PutBy (c : Config) (zone : Zone) (n d : ℕ) (queues : List LaneQueue) (past : List Event) (refused : Bool) (served : List Served) (decided : List Event) : Type 0 where
  pub older : IsOlder decided past
  pub whole : refused ≡ false → decided ≡ past
  pub picked : ArePicked d queues (λ l. made_due c zone (share_of n d) l decided) served

-- all deciders have met the workers
abbrev pub AllMet : Config → Zone → (n : ℕ) → List LaneQueue → (past : List Event) → (refused : Bool) → List Served → (told : ℕ → List Suppression) → List DeciderEnd → Type 0
AllMet c zone n queues past refused served told ends = (d : ℕ) (e : DeciderEnd) → slice_get ends d ≡ Some e → IsMet c zone n d queues past refused served (told d) e.log.items

module _ (c : Config) (zone : Zone) (n : ℕ) (queues : List LaneQueue) (past : List Event) (refused : Bool) (served : List Served) (told : ℕ → List Suppression) (ends : List DeciderEnd) (long : length ends ≡ n) (met : AllMet c zone n queues past refused served told ends) where
  -- it has decided something, where it is there
  abbrev chosen_by : (d : ℕ) → (decided : List Event) × (d < n → PutBy c zone n d queues past refused served decided)
  chosen_by d = ⊎_elim
      (λ (lt : d < n).
      let e = some_at ends d (subst (λ (m : ℕ). d < m) (sym long) lt) in
      let m = met d e.0 e.1 in
      (m.past, λ _. record { older = m.older; whole = m.whole; picked = m.picked }))
      (λ (ge : n ≤ d). ([], λ (lt : d < n). absurd (omega (arith, lt, ge))))
      (cases_lt d n)

  -- what the decider of an object has decided
  abbrev pub decided_of : (o : ℕ) → List Event
  decided_of o = (chosen_by (o % n)).0

  pub decided_older : 0 < n → (o : ℕ) → IsOlder (decided_of o) past
  decided_older some o = ((chosen_by (o % n)).1 (owner n o some)).older

module _ (laws : Laws) (c : Config) (zone : Zone) (n l : ℕ) (q : LaneQueue) (queues : List LaneQueue) (past : List Event) (refused : Bool) (served : List Served) (told : ℕ → List Suppression) (ends : List DeciderEnd) (s : Served)
    (long : length ends ≡ n) (at_q : slice_get queues l ≡ Some q) (at_s : slice_get served l ≡ Some s) (met : AllMet c zone n queues past refused served told ends) where
  abbrev chosen : (d : ℕ) → (decided : List Event) × (d < n → PutBy c zone n d queues past refused served decided)
  chosen d = chosen_by c zone n queues past refused served told ends long met d

  abbrev put : ℕ → List Notice
  put d = made_due c zone (share_of n d) l (chosen d).0

  lane_read : 0 < n → q.deciders ≡ n → LaneRead c n l (picked_of s.pass) put
  lane_read some count = record {
    read = λ d lt. (((chosen d).1 lt).picked l q s at_q at_s).read;
    numbers = subst (λ (m : ℕ). All (λ x. decider_of x < m) (picked_of s.pass)) count (((chosen 0).1 some).picked l q s at_q at_s).numbers;
    made = λ d lt. laws.own c zone (share_of n d) l (chosen d).0;
  }

  pub lane_end : (channels : ℕ) (t : Served) → 0 < n → q.deciders ≡ n → IsServed q channels s → IsKept s t → IsLaneEnd c zone l channels past refused (decided_of c zone n queues past refused served told ends long met) t
  lane_end channels t some count is kept =
      let read = lane_read some count in
      let due_of : (o : ℕ) → o < length c.objects → about o (put (o % n)) ≡ due c zone o l (chosen (o % n)).0 = λ o within. laws.due c zone (share_of n (o % n)) l o (chosen (o % n)).0 (owns_it n o) within in
      let same : joined t.held ≡ joined s.held = ap joined kept.held in record {
        all_due = λ memory why o within.
            let lt = owner n o some in
            let ended : AllEnded n (picked_of s.pass) = subst (λ (m : ℕ). AllEnded m (picked_of s.pass)) count is.ended in
            ap (about o) (same ∙ is.order (λ e. why (kept.why ∙ e))) ∙ lane_whole c n l (picked_of s.pass) put read o lt ended ∙ due_of o within ∙ ap (due c zone o l) (((chosen (o % n)).1 lt).whole memory);
        kept = λ why o within.
            let ended : AllEnded n (picked_of s.pass) = subst (λ (m : ℕ). AllEnded m (picked_of s.pass)) count is.ended in
            ap (about o) (same ∙ is.order (λ e. why (kept.why ∙ e))) ∙ lane_whole c n l (picked_of s.pass) put read o (owner n o some) ended ∙ due_of o within;
        front = λ o within.
            let lt = owner n o some in
            let older = ((chosen (o % n)).1 lt).older in
            subst (λ (ns : List Notice). IsPrefix (about o ns) (due c zone o l past)) (sym same)
            (prefix_then (about o (joined s.held)) (about o (notices (picked_of s.pass))) (due c zone o l past) (about_front o (joined s.held) (notices (picked_of s.pass)) is.front)
            (prefix_then (about o (notices (picked_of s.pass))) (about o (put (o % n))) (due c zone o l past) (lane_front c n l (picked_of s.pass) put read o lt)
            (subst (λ (ns : List Notice). IsPrefix ns (due c zone o l past)) (sym (due_of o within))
            (subst (λ (es : List Event). IsPrefix (due c zone o l (chosen (o % n)).0) (due c zone o l es)) older.1 (due_older laws c zone n o within l older.0 (chosen (o % n)).0)))));
        named = subst (All (IsNamed c l)) (sym same) (front_all (IsNamed c l) (joined s.held) (notices (picked_of s.pass)) is.front (lane_named c n l (picked_of s.pass) put read));
        cause = subst (λ (r : Record). HasCause channels r t.why) (sym kept.held) (subst (λ (w : Why). HasCause channels s.held w) (sym kept.why) is.cause);
      }
    where
      first_part : (P : Notice → Type 0) (xs rest : List Notice) → All P (xs ++ rest) → All P xs
      first_part P xs rest all = λ k d lt. subst P (get_or-append xs rest d k lt) (all k d (let m = length-append xs rest in omega (arith, m, lt)))

      front_all : (P : Notice → Type 0) (xs ys : List Notice) → IsPrefix xs ys → All P ys → All P xs
      front_all P xs ys front all = first_part P xs front.0 (subst (All P) (sym front.1) all)

-- ---- the log

-- what is true of each of two lists joined is true of each of the second
rest_all : (P : Suppression → Type 0) (xs ys : List Suppression) → All P (xs ++ ys) → All P ys
rest_all P [] ys all = all
rest_all P (x ∷ xs) ys all = rest_all P xs ys (All-tail P x (xs ++ ys) all)

rest_pairs : (R : Suppression → Suppression → Type 0) (xs ys : List Suppression) → AllPairs R (xs ++ ys) → AllPairs R ys
rest_pairs R [] ys all = all
rest_pairs R (x ∷ xs) ys all = rest_pairs R xs ys (AllPairs-tail R x (xs ++ ys) all)

rest_none : (xs ys : List Suppression) → xs ++ ys ≡ [] → ys ≡ []
rest_none [] ys none = none
rest_none (x ∷ xs) ys none = absurd cc

module _ (laws : Laws) (c : Config) (zone : Zone) (n : ℕ) (queues : List LaneQueue) (past : List Event) (refused : Bool) (served : List Served) (told : ℕ → List Suppression) (ends : List DeciderEnd)
    (some : 0 < n) (long : length ends ≡ n) (met : AllMet c zone n queues past refused served told ends) where
  its_end : (d : ℕ) → d < n → (e : DeciderEnd) × (slice_get ends d ≡ Some e)
  its_end d lt = some_at ends d (subst (λ (m : ℕ). d < m) (sym long) lt)

  -- what a decider told is a first part of what its share's events suppress
  pub told_begins : (d : ℕ) → d < n → IsPrefix (told d) (suppressed c zone (share_of n d) past)
  told_begins d lt =
      let e = its_end d lt in
      let m = met d e.0 e.1 in
      prefix_then (told d) (suppressed c zone (share_of n d) m.past) (suppressed c zone (share_of n d) past) (e.0.log.items, m.log)
      (subst (λ (es : List Event). IsPrefix (suppressed c zone (share_of n d) m.past) (suppressed c zone (share_of n d) es)) m.older.1 (suppressed_grows c zone (share_of n d) m.older.0 m.past))

  -- one that keeps nothing told all
  pub told_all : refused ≡ false → (d : ℕ) → d < n → ((e : DeciderEnd) → slice_get ends d ≡ Some e → e.log.items ≡ []) → told d ≡ suppressed c zone (share_of n d) past
  told_all none d lt empty =
      let e = its_end d lt in
      let m = met d e.0 e.1 in
      sym (append-nil (told d)) ∙ ap (λ (ls : List Suppression). told d ++ ls) (sym (empty e.0 e.1)) ∙ m.log ∙ ap (suppressed c zone (share_of n d)) (m.whole none)

  -- of an object the others keep nothing
  none_of_others : (o k : ℕ) (f : DeciderEnd) → ¬ (k ≡ o % n) → slice_get ends k ≡ Some f → of_object o f.log.items ≡ []
  none_of_others o k f apart at =
      let m = met k f at in
      rest_none (of_object o (told k)) (of_object o f.log.items)
      (sym (filter-append (λ (s : Suppression). s.object.0 == o) (told k) f.log.items) ∙ ap (of_object o) m.log ∙ laws.nothing_else c zone (share_of n k) o m.past (ne_eqb (o % n) k (λ is. apart (sym is))))

  -- and where its decider keeps nothing, nothing of it is left
  pub none_left : (log : List Suppression) → HasEach ends log → (o : ℕ) → ((e : DeciderEnd) → slice_get ends (o % n) ≡ Some e → e.log.items ≡ []) → of_object o log ≡ []
  none_left log each o empty =
      let e = its_end (o % n) (owner n o some) in
      each (λ s. s.object.0 == o) (o % n) e.0 e.1 (λ k f apart at. none_of_others o k f apart at) ∙ ap (of_object o) (empty e.0 e.1)

  pub told_front : (o : ℕ) → o < length c.objects → IsPrefix (of_object o (told (o % n))) (sup c zone o past)
  told_front o within =
      subst (λ (ls : List Suppression). IsPrefix (of_object o (told (o % n))) ls) (laws.suppressed c zone (share_of n (o % n)) o past (owns_it n o) within)
      (of_object_front o (told (o % n)) (suppressed c zone (share_of n (o % n)) past) (told_begins (o % n) (owner n o some)))

  pub log_end : (log : List Suppression) → IsAccepted c → (AreInOrder ends → IsInOrder log) → HasEach ends log → IsLogOf c zone past refused (λ o. told (o % n)) log
  log_end log accepted order each = record {
    all = λ none o within. one o within ∙ ap (sup c zone o) ((its_met o).whole none);
    front = λ o within.
        let older = (its_met o).older in
        subst (λ (ls : List Suppression). IsPrefix ls (sup c zone o past)) (sym (one o within))
        (subst (λ (es : List Event). IsPrefix (sup c zone o (its_met o).past) (sup c zone o es)) older.1 (sup_older laws c zone n o within older.0 (its_met o).past));
    named = named_below (length c.objects) ends log (subst (λ (m : ℕ). 0 < m) (sym long) some) each
        (λ d e at. let m = met d e at in rest_all (λ s. s.object.0 < length c.objects) (told d) e.log.items (subst (All (λ s. s.object.0 < length c.objects)) (sym m.log) (laws.named c zone (share_of n d) m.past)));
    order = order (λ d e at. let m = met d e at in rest_pairs (λ a b. place a ≤ place b) (told d) e.log.items (subst IsInOrder (sym m.log) (laws.order c zone (share_of n d) m.past accepted)));
  }
    where
      its_met : (o : ℕ) → IsMet c zone n (o % n) queues past refused served (told (o % n)) (its_end (o % n) (owner n o some)).0.log.items
      its_met o = met (o % n) (its_end (o % n) (owner n o some)).0 (its_end (o % n) (owner n o some)).1

      one : (o : ℕ) → o < length c.objects → of_object o (told (o % n)) ++ of_object o log ≡ sup c zone o (its_met o).past
      one o within =
          let e = its_end (o % n) (owner n o some) in
          ap (λ (ls : List Suppression). of_object o (told (o % n)) ++ ls)
          (each (λ s. s.object.0 == o) (o % n) e.0 e.1 (λ k f apart at. none_of_others o k f apart at))
          ∙ sym (filter-append (λ (s : Suppression). s.object.0 == o) (told (o % n)) e.0.log.items)
          ∙ ap (of_object o) (its_met o).log
          ∙ laws.suppressed c zone (share_of n (o % n)) o (its_met o).past (owns_it n o) within

-- ---- a run's end, put together

pub log_or : (c : Config) (zone : Zone) (past : List Event) (refused more : Bool) (told : ℕ → List Suppression) (log : List Suppression) → (more ≡ false → refused ≡ false) → IsLogOf c zone past refused told log → IsLogOf c zone past more told log
log_or c zone past refused more told log less is = record {
  all = λ none. is.all (less none);
  front = is.front;
  named = is.named;
  order = is.order;
}

pub run_of : (c : Config) (zone : Zone) (channels : ℕ → ℕ) (past : List Event) (refused rest any : Bool) (lanes : List Served) (told : ℕ → List Suppression) (log : List Suppression)
    → (any ≡ false → (l : ℕ) (s : Served) → slice_get lanes l ≡ Some s → s.why ≢ NoMemory)
    → AreLaneEnds c zone channels past refused lanes → IsLogOf c zone past (refused || rest) told log → IsRun c zone channels past ((refused || rest) || any) lanes told log
run_of c zone channels past refused rest any lanes told log none ends log_is = record {
  count = λ _. ends.count;
  all_due = λ m l s at. (ends.each l s at).all_due (neither_first refused rest (neither_first (refused || rest) any m)) (none (neither_second (refused || rest) any m) l s at);
  decided = ends.decided;
  older = ends.older;
  kept = λ l s at. (ends.each l s at).kept;
  front = λ l s at. (ends.each l s at).front;
  named = λ l s at. (ends.each l s at).named;
  memory_is = λ m. none (neither_second (refused || rest) any m);
  causes = λ l s at. (ends.each l s at).cause;
  log_is = log_or c zone past (refused || rest) ((refused || rest) || any) told log (neither_first (refused || rest) any) log_is;
}

-- the log of the deciders, or none where memory ran out for it
pub log_any : (c : Config) (zone : Zone) (past : List Event) (refused stopped unmerged : Bool) (told : ℕ → List Suppression) (log : List Suppression)
    → ((o : ℕ) → o < length c.objects → IsPrefix (of_object o (told o)) (sup c zone o past))
    → (unmerged ≡ false → IsLogOf c zone past refused told log) → (unmerged ≡ true → log ≡ []) → IsLogOf c zone past (refused || (stopped || unmerged)) told log
log_any c zone past refused stopped false told log begins whole none = log_or c zone past refused (refused || (stopped || false)) told log (neither_first refused (stopped || false)) (whole refl)
log_any c zone past refused stopped true told log begins whole none = subst (λ (ls : List Suppression). IsLogOf c zone past (refused || (stopped || true)) told ls) (sym (none refl)) (record {
  all = λ m. absurd (true≢false (neither_second stopped true (neither_second refused (stopped || true) m)));
  front = λ o within. subst (λ (ls : List Suppression). IsPrefix ls (sup c zone o past)) (sym (append-nil (of_object o (told o)))) (begins o within);
  named = All-nil (λ s. s.object.0 < length c.objects);
  order = AllPairs-nil (λ a b. place a ≤ place b);
})

-- nothing is left of an object, also where memory ran out for the log
pub left_any : (unmerged : Bool) (o : ℕ) (log : List Suppression) → (unmerged ≡ false → of_object o log ≡ []) → (unmerged ≡ true → log ≡ []) → of_object o log ≡ []
left_any false o log whole none = whole refl
left_any true o log whole none = ap (of_object o) (none refl)

-- the same told, where memory ran out in more
pub told_or : {L : Type 0} (tells : L → List Suppression → L → Type 0) (failed : L → Bool) (c : Config) (zone : Zone) (n : ℕ) (past : List Event) (refused more : Bool) (given back : List L) (told : ℕ → List Suppression)
    → (more ≡ false → refused ≡ false) → HaveTold tells failed c zone n past refused given back told → HaveTold tells failed c zone n past more given back told
told_or tells failed c zone n past refused more given back told less have = record {
  few = have.few;
  each = have.each;
  absent = have.absent;
  begins = have.begins;
  all = λ none. have.all (less none);
}

-- where no lane is there
no_lane : (lanes : List Served) (l : ℕ) (s : Served) → lanes ≡ [] → slice_get lanes l ≡ Some s → ⊥
no_lane [] l s none at = none-some s at
no_lane (x ∷ lanes) l s none at = absurd (omega (arith, ap length none))

pub run_of_none : (c : Config) (zone : Zone) (channels : ℕ → ℕ) (past : List Event) (memory : Bool) (lanes : List Served) (log : List Suppression) → lanes ≡ [] → log ≡ [] → memory ≡ true → IsRun c zone channels past memory lanes (λ o. []) log
run_of_none c zone channels past memory lanes log none no_log out = record {
  count = λ m. absurd (true≢false (sym out ∙ m));
  all_due = λ m. absurd (true≢false (sym out ∙ m));
  decided = λ o. past;
  older = λ o. ([], refl);
  kept = λ l s at. absurd (no_lane lanes l s none at);
  front = λ l s at. absurd (no_lane lanes l s none at);
  named = λ l s at. absurd (no_lane lanes l s none at);
  memory_is = λ m. absurd (true≢false (sym out ∙ m));
  causes = λ l s at. absurd (no_lane lanes l s none at);
  log_is = record {
    all = λ m. absurd (true≢false (sym out ∙ m));
    front = λ o within. subst (λ (ls : List Suppression). IsPrefix (of_object o ls) (sup c zone o past)) (sym no_log) (sup c zone o past, refl);
    named = subst (All (λ s. s.object.0 < length c.objects)) (sym no_log) (All-nil (λ s. s.object.0 < length c.objects));
    order = subst IsInOrder (sym no_log) (AllPairs-nil (λ a b. place a ≤ place b));
  };
}

pub none_has_run : {L : Type 0} (tells : L → List Suppression → L → Type 0) (failed : L → Bool) (c : Config) (zone : Zone) (channels : ℕ → ℕ) (past : List Event) (memory : Bool) (lanes : List Served) (log : List Suppression) (given back : List L)
    → lanes ≡ [] → log ≡ [] → back ≡ [] → memory ≡ true → HasRun tells failed c zone channels past memory lanes given back log
none_has_run {L} tells failed c zone channels past memory lanes log given back none no_log no_logs out = (
  (λ d. []),
  record {
    few = (let none = ap length no_logs in omega (arith, none));
    absent = λ d ge. refl;
    each = λ d a b at_a at_b. absurd (none-some b (subst (λ (bs : List L). slice_get bs d ≡ Some b) no_logs at_b));
    begins = λ d lt. (suppressed c zone (share_of (length given) d) past, refl);
    all = λ m. absurd (true≢false (sym out ∙ m));
  },
  run_of_none c zone channels past memory lanes log none no_log out,
  λ o b at unfailed. ap (of_object o) no_log,
)
