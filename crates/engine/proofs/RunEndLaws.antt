-- What a run leaves, from what its threads left and what was read.
use Rattle.std.proofs.Common.{arith, ap₂, length-append, ⊎_elim, ◌+◌, ◌%◌, ◌≡◌, ◌≢◌, ◌≤◌, ℕ, ◌<◌, All, Bool, true, false, true≢false, cond, is_some, List, [], ◌∷◌, ◌++◌, length, reverse, slice_get, Option, None, Some, IfSome, refl, sym, ap, subst, ◌∙◌}
use Rattle.std.proofs.lemmas.Bool.{cases_eq, cases_lt}
use Rattle.std.proofs.lemmas.List.Elements.{All-nil, All-same}
use Rattle.std.proofs.lemmas.Option.{IfSome_then, none-some, slice_get_within}
use mathlib.Core.List.{IsPrefix}
use Rattle.due_model.specs.declared.config.Config.{Config}
use Rattle.due_model.specs.declared.event.Event.{Event}
use Rattle.due_model.specs.declared.notice.Notice.{Notice}
use Rattle.due_model.specs.declared.notice.Suppression.{Suppression}
use Rattle.due_model.specs.declared.zone.Zone.{Zone}
use Rattle.due_model.specs.claims.Due.{due, sup}
use Rattle.due_model.specs.claims.Proper.{IsProper}
use Rattle.delivery_worker.specs.declared.worker.Served.{Served}
use Rattle.delivery_worker.specs.claims.Picked.{join_lists}
use Rattle.delivery_worker.specs.Picked.{all_taken, joined as joined_of}
use Rattle.engine_threads.specs.Lanes.{HasCause}
use Rattle.engine_threads.specs.claims.Run.{IsNamed}
use Rattle.engine_threads.specs.Run.{IsRun}
use Rattle.engine_threads.specs.Told.{HaveTold}
use Rattle.decider_thread.specs.claims.Laws.{of_object}
use Rattle.decider_thread.specs.Made.{suppressed}
use Rattle.decider_thread.specs.Told.{tells_nothing}
use Rattle.event_feed.specs.declared.fault.FeedFault.TheVariants as fault
use Rattle.event_feed.specs.declared.fault.RefusedLine.{RefusedLine}
use Rattle.event_feed.specs.claims.Feed.{Answer, AreGiven, Feed, answers_within}
use Rattle.lemmas.proofs.Lists.{AllPairs-nil, some_at}
use Rattle.decider_thread.specs.claims.Order.{place}
use Rattle.steps.specs.claims.Lanes.{about}
use Rattle.text_lines.specs.claims.Lines.{pieces}
use Rattle.undelivered.specs.declared.Why.{Why}
use Rattle.undelivered.specs.declared.Why.TheVariants as why
use Rattle.engine.specs.claims.Due.{BeginsLogAfter, HaveCauses, IsLogAfter, LanesAreDue, LanesBeginDue, LanesKeepDue}
use Rattle.engine.specs.Due.{BeginsLog, IsLog}
use Rattle.engine.specs.claims.Feed.{IsFrontRead, IsWhatWasRead, events_in, events_of, taken_after}
use Rattle.engine.specs.Feed.{IsFirst, IsLeft}
use Rattle.engine.specs.claims.Lanes.{IsCause, LaneParts, joined}
use Rattle.engine.specs.Lanes.{IsEndOf}
use Rattle.engine.specs.claims.Lists.{IsFrontOf}
use Rattle.engine.proofs.RecordLaws.{join_push, records_none, records_some}
use Rattle.engine.specs.claims.Run.{IsReadOf, IsRunAfter, IsRunOf}
use Rattle.engine.specs.Run.{AreThreadsEnd, IsToldRunOf}

-- ---- of a feed of which nothing was read before

module _ (far : ℕ → Bool) (can_fail : Bool) (c : Config) (known : Option (List ℕ)) (start : Feed) (s : IsFirst known start) (memory : Bool) (events : List Event) (refused : List RefusedLine) (cut : Bool) (r : IsLeft far can_fail c start memory events refused cut) where
  abbrev first_answers : (line last : ℕ) → Bool → List ℕ → List Answer
  first_answers line last stopped bytes = cond stopped [] (answers_within far c.objects line last (pieces bytes))

  -- a fact of the bytes and the answers, seen from the start
  from_start : (P : List ℕ → List Answer → ℕ → Type 0) → IfSome start.bytes (λ bytes. P bytes (first_answers start.line start.last (is_some start.stop) bytes) start.line) → IfSome known (λ bytes. P bytes (answers_within far c.objects 0 0 (pieces bytes)) 0)
  from_start P h =
      subst (λ (b : Option (List ℕ)). IfSome b (λ bytes. P bytes (answers_within far c.objects 0 0 (pieces bytes)) 0)) s.bytes
      (subst (λ (n : ℕ). IfSome start.bytes (λ bytes. P bytes (answers_within far c.objects n 0 (pieces bytes)) n)) s.line
      (subst (λ (n : ℕ). IfSome start.bytes (λ bytes. P bytes (answers_within far c.objects start.line n (pieces bytes)) start.line)) s.last
      (subst (λ (b : Bool). IfSome start.bytes (λ bytes. P bytes (first_answers start.line start.last b bytes) start.line)) (ap is_some s.goes_on) h)))

  later : (b : Bool) (k : Option (List ℕ)) (P : List ℕ → Type 0) → (memory ≡ b → IfSome k P) → IfSome k (λ bytes. memory ≡ b → P bytes)
  later b None P h = tt
  later b (Some bytes) P h = h

  pub what_was_read : IfSome known (λ bytes. memory ≡ false → IsWhatWasRead far can_fail c.objects bytes events refused cut)
  what_was_read =
      later false known (λ bytes. IsWhatWasRead far can_fail c.objects bytes events refused cut)
      (λ none. let all = r.read none in IfSome_then known (from_start (λ bytes answers line. AreGiven can_fail all.0 answers line (pieces bytes)) all.1) (λ bytes of. (all.0, of, all.2)))

  pub events_front : IfSome known (λ bytes. IsFrontOf events (events_of far c.objects bytes))
  events_front = from_start (λ bytes all line. IsFrontOf events (events_in (taken_after 0 all))) r.front

  pub front_read : IfSome known (λ bytes. memory ≡ true → IsFrontRead far c.objects bytes events refused)
  front_read =
      later true known (λ bytes. IsFrontRead far c.objects bytes events refused)
      (λ out. let all = r.read_front out in IfSome_then known (from_start (λ bytes answers line. IsFrontOf all.0 (taken_after 0 answers)) all.1) (λ bytes first. (all.0, first, all.2, all.3)))

-- ---- a lane

-- what it has taken and given up is what its worker kept
pub joined_same : (l given : ℕ) (s : Served) (lane : LaneParts) → IsEndOf l given s lane → HasCause given s.held s.why → joined_of s.held ≡ joined lane
joined_same l given s lane e h =
    let same : all_taken s.held ≡ join_lists lane.records = ⊎_elim
    (λ (none : given ≡ 0).
    ap₂ (λ (es : List (List Notice)) (ns : List Notice). join_lists es ++ ns) (h.no_records none) (h.untaken none)
    ∙ sym (ap join_lists (e.records ∙ records_none given s.held none)))
    (λ (some : given ≢ 0). sym (ap join_lists (e.records ∙ records_some given s.held some) ∙ join_push s.held.ended s.held.taken))
    (cases_eq given 0) in
    ap₂ (λ (ns ms : List Notice). ns ++ ms) same (sym e.undelivered)

cause_of : (l given : ℕ) (memory : Bool) (s : Served) (lane : LaneParts) → IsEndOf l given s lane → HasCause given s.held s.why → (memory ≡ false → s.why ≢ why.NoMemory) → IsCause given memory lane
cause_of l given memory s lane e cause out = ⊎_elim unposted posted (cases_eq given 0)
  where
    ran : (m : Bool) → (m ≡ false → s.why ≢ why.NoMemory) → s.why ≡ why.NoMemory → m ≡ true
    ran true never is = refl
    ran false never is = absurd (never refl is)

    unposted : given ≡ 0 → IsCause given memory lane
    unposted none =
        let closed : s.held.why ≡ Some why.NoChannel = cause.no_channel.1 none in
        let is : lane.why ≡ why.NoChannel = e.unposted closed in
        let long : length lane.records ≡ 0 = ap length (e.records ∙ records_none given s.held none) in record {
          channels = e.channels;
          some = λ some. absurd (some none);
          most = omega (arith, long);
          over = λ w. absurd (cc (sym is ∙ w));
          failed = λ w. absurd (cc (sym is ∙ w));
          each_failed = λ w. absurd (cc (sym is ∙ w));
          unposted = λ w. none;
          no_channel = λ z. is;
          ran_out = λ w. absurd (cc (sym is ∙ w));
        }

    posted : given ≢ 0 → IsCause given memory lane
    posted some =
        let other : s.held.why ≢ Some why.NoChannel = λ closed. some (cause.no_channel.0 closed) in
        let is : lane.why ≡ s.why = e.why other in
        let first : (w : Why) → w ≢ why.NoMemory → lane.why ≡ w → s.held.why ≡ Some w = λ w apart at. cause.cause (λ m. apart (sym at ∙ is ∙ m)) ∙ ap (λ (v : Why). Some v) (sym is ∙ at) in
        let long : length lane.records ≡ length s.held.ended + 1 = ap length (e.records ∙ records_some given s.held some) ∙ length-append s.held.ended (s.held.taken ∷ []) in
        let most = cause.records some in record {
          channels = e.channels;
          some = λ _ none. let short : length lane.records ≡ 0 = ap length none in omega (arith, long, short);
          most = omega (arith, long, most);
          over = λ w. e.undelivered ∙ cause.over (first why.FeedOver (λ m. cc) w);
          failed = λ w none. cause.failed (first why.Failed (λ m. cc) w) (sym e.undelivered ∙ none);
          each_failed = λ w. long ∙ cause.each_failed (first why.Failed (λ m. cc) w);
          unposted = λ w. absurd (other (first why.NoChannel (λ m. cc) w));
          no_channel = λ z. absurd (some z);
          ran_out = λ w. ran memory out (sym is ∙ w);
        }

-- ---- all lanes, and the log

module _ (c : Config) (zone : Zone) (given : ℕ → ℕ) (past : List Event) (memory : Bool) (served : List Served) (told : ℕ → List Suppression) (log : List Suppression) (lanes : List LaneParts) (run : IsRun c zone given past memory served told log)
    (long : length lanes ≡ length served) (each : (l : ℕ) (s : Served) (lane : LaneParts) → slice_get served l ≡ Some s → slice_get lanes l ≡ Some lane → IsEndOf l (given l) s lane) where
  -- the worker of a lane
  worker : (l : ℕ) (lane : LaneParts) → slice_get lanes l ≡ Some lane → (s : Served) × (slice_get served l ≡ Some s)
  worker l lane at = some_at served l (subst (λ (n : ℕ). l < n) long (slice_get_within lanes l lane at))

  same_at : (l : ℕ) (lane : LaneParts) (at : slice_get lanes l ≡ Some lane) → joined_of (worker l lane at).0.held ≡ joined lane
  same_at l lane at =
      let s = worker l lane at in
      joined_same l (given l) s.0 lane (each l s.0 lane s.1 at) (run.causes l s.0 s.1)

  pub lanes_are_due : memory ≡ false → LanesAreDue c zone past lanes
  lanes_are_due none = record {
    count = long ∙ run.count none;
    each = λ l lane at.
        let s = worker l lane at in record {
          number = (each l s.0 lane s.1 at).number;
          due = λ o inside. ap (about o) (sym (same_at l lane at)) ∙ run.all_due none l s.0 s.1 o inside;
          named = subst (All (IsNamed c l)) (same_at l lane at) (run.named l s.0 s.1);
        };
  }

  pub lanes_begin_due : LanesBeginDue c zone past lanes
  lanes_begin_due l lane at =
      let s = worker l lane at in record {
        number = (each l s.0 lane s.1 at).number;
        due = λ o inside. subst (λ (ns : List Notice). IsPrefix (about o ns) (due c zone o l past)) (same_at l lane at) (run.front l s.0 s.1 o inside);
        named = subst (All (IsNamed c l)) (same_at l lane at) (run.named l s.0 s.1);
      }

  pub lanes_keep_due : LanesKeepDue c zone past lanes
  lanes_keep_due = record {
    decided = run.decided;
    older = run.older;
    kept = λ l lane at memory channel o inside.
        let s = worker l lane at in
        let e = each l s.0 lane s.1 at in
        let told : lane.why ≡ s.0.why = e.why (λ none. channel (e.unposted none)) in
        ap (about o) (sym (same_at l lane at)) ∙ run.kept l s.0 s.1 (λ m. memory (told ∙ m)) o inside;
  }

  pub lanes_have_causes : HaveCauses given memory lanes
  lanes_have_causes l lane at =
      let s = worker l lane at in
      cause_of l (given l) memory s.0 lane (each l s.0 lane s.1 at) (run.causes l s.0 s.1) (λ none. run.memory_is none l s.0 s.1)

  pub log_is : memory ≡ false → IsLogAfter c zone past told log
  log_is none = record { each = run.log_is.all none; named = run.log_is.named; order = run.log_is.order }

  pub log_begins : BeginsLogAfter c zone past told log
  log_begins = record { each = run.log_is.front; named = run.log_is.named; order = run.log_is.order }

-- ---- the run

pub run_is : (c : Config) (zone : Zone) (given : ℕ → ℕ) (events : List Event) (memory : Bool) (served : List Served) (told : ℕ → List Suppression) (log : List Suppression) (lanes : List LaneParts) → AreThreadsEnd c zone given events memory served told log
    → length lanes ≡ length served → ((l : ℕ) (s : Served) (lane : LaneParts) → slice_get served l ≡ Some s → slice_get lanes l ≡ Some lane → IsEndOf l (given l) s lane)
    → IsRunAfter c zone given events memory lanes told log
run_is c zone given events memory served told log lanes threads long each = record {
  due = lanes_are_due c zone given (reverse events) memory served told log lanes threads.run long each;
  log = log_is c zone given (reverse events) memory served told log lanes threads.run long each;
  due_front = lanes_begin_due c zone given (reverse events) memory served told log lanes threads.run long each;
  log_front = log_begins c zone given (reverse events) memory served told log lanes threads.run long each;
  others = lanes_keep_due c zone given (reverse events) memory served told log lanes threads.run long each;
  whole = λ some. long ∙ threads.whole some;
  causes = lanes_have_causes c zone given (reverse events) memory served told log lanes threads.run long each;
}

pub read_is : (far : ℕ → Bool) (can_fail : Bool) (c : Config) (known : Option (List ℕ)) (start : Feed) (memory : Bool) (events : List Event) (refused : List RefusedLine) (cut : Bool) → IsFirst known start
    → IsLeft far can_fail c start memory events refused cut → IsReadOf far can_fail c known memory events refused cut
read_is far can_fail c known start memory events refused cut first left = record {
  read = what_was_read far can_fail c known start first memory events refused cut left;
  proper = left.proper;
  named = left.named;
  front = events_front far can_fail c known start first memory events refused cut left;
  read_front = front_read far can_fail c known start first memory events refused cut left;
  uncut = left.uncut;
}

-- ---- where memory ran out before anything was read

unread : (known : Option (List ℕ)) (memory : Bool) (P : List ℕ → Type 0) → memory ≡ true → IfSome known (λ bytes. memory ≡ false → P bytes)
unread None memory P h = tt
unread (Some bytes) memory P h = λ e. absurd (true≢false (sym h ∙ e))

no_front : (known : Option (List ℕ)) (f : List ℕ → List Event) (events : List Event) → events ≡ [] → IfSome known (λ bytes. IsFrontOf events (f bytes))
no_front None f events none = tt
no_front (Some bytes) f events none = (f bytes, ap (λ (xs : List Event). xs ++ f bytes) (sym none))

unread_read : (far : ℕ → Bool) (c : Config) (known : Option (List ℕ)) (memory : Bool) (events : List Event) (refused : List RefusedLine) → events ≡ [] → refused ≡ []
    → IfSome known (λ bytes. memory ≡ true → IsFrontRead far c.objects bytes events refused)
unread_read far c None memory events refused no_events no_refused = tt
unread_read far c (Some bytes) memory events refused no_events no_refused = λ out. ([], (taken_after 0 (answers_within far c.objects 0 0 (pieces bytes)), refl), no_events, no_refused)

no_log : (c : Config) (zone : Zone) (past : List Event) (log : List Suppression) → log ≡ [] → BeginsLog c zone past log
no_log c zone past log none = subst (BeginsLog c zone past) (sym none) (record {
  each = λ o inside. (sup c zone o past, refl);
  named = All-nil (λ s. s.object.0 < length c.objects);
  order = AllPairs-nil (λ a b. place a ≤ place b);
})

no_lane : (lanes : List LaneParts) (l : ℕ) (lane : LaneParts) → lanes ≡ [] → slice_get lanes l ≡ Some lane → ⊥
no_lane [] l lane none found = cc
no_lane (x ∷ lanes) l lane none found = cc

pub unread_is : (far : ℕ → Bool) (can_fail : Bool) (c : Config) (known : Option (List ℕ)) (memory : Bool) (events : List Event) (refused : List RefusedLine) (cut : Bool) → events ≡ [] → refused ≡ []
    → memory ≡ true → cut ≡ false → IsReadOf far can_fail c known memory events refused cut
unread_is far can_fail c known memory events refused cut no_events no_refused out uncut = record {
  read = unread known memory (λ bytes. IsWhatWasRead far can_fail c.objects bytes events refused cut) out;
  proper = All-same (IsProper c) events [] no_events (All-nil (IsProper c));
  named = All-same (λ (r : RefusedLine). r.fault ≢ fault.NoMemory) refused [] no_refused (All-nil (λ (r : RefusedLine). r.fault ≢ fault.NoMemory));
  front = no_front known (events_of far c.objects) events no_events;
  read_front = unread_read far c known memory events refused no_events no_refused;
  uncut = λ _. uncut;
}

pub none_ran : (c : Config) (zone : Zone) (given : ℕ → ℕ) (events : List Event) (memory : Bool) (lanes : List LaneParts) (log : List Suppression) → events ≡ [] → lanes ≡ [] → log ≡ [] → memory ≡ true
    → IsRunOf c zone given events memory lanes log
none_ran c zone given events memory lanes log no_events none no_logged out = record {
  due = λ m. absurd (true≢false (sym out ∙ m));
  log = λ m. absurd (true≢false (sym out ∙ m));
  due_front = λ l lane found. absurd (no_lane lanes l lane none found);
  log_front = no_log c zone (reverse events) log no_logged;
  others = record {
    decided = λ o. reverse events;
    older = λ o. ([], refl);
    kept = λ l lane found. absurd (no_lane lanes l lane none found);
  };
  whole = λ some. absurd (some no_events);
  causes = λ l lane found. absurd (no_lane lanes l lane none found);
}

-- ---- where the logs tell nothing

pub none_told_ran : {L : Type 0} (tells : L → List Suppression → L → Type 0) (failed : L → Bool) (c : Config) (zone : Zone) (given : ℕ → ℕ) (events : List Event) (memory : Bool) (lanes : List LaneParts) (log : List Suppression) (logs back : List L)
    → events ≡ [] → lanes ≡ [] → log ≡ [] → back ≡ [] → memory ≡ true → IsToldRunOf tells failed c zone given events memory lanes logs back log
none_told_ran {L} tells failed c zone given events memory lanes log logs back no_events none no_logged no_logs out = (
  (λ d. []),
  record {
    few = (let long = ap length no_logs in omega (arith, long));
    each = λ d a b at_a at_b. absurd (none-some b (subst (λ (bs : List L). slice_get bs d ≡ Some b) no_logs at_b));
    absent = λ d ge. refl;
    begins = λ d lt. (suppressed c zone (record { decider = d; deciders = length logs }) (reverse events), refl);
    all = λ m. absurd (true≢false (sym out ∙ m));
  },
  none_ran c zone given events memory lanes log no_events none no_logged out,
  λ o b at unfailed. ap (of_object o) no_logged,
)

nothing_told : {L : Type 0} (failed : L → Bool) (c : Config) (zone : Zone) (n : ℕ) (past : List Event) (memory : Bool) (given back : List L) (told : ℕ → List Suppression) → HaveTold (λ _ lines _. tells_nothing lines) failed c zone n past memory given back told → (d : ℕ) → told d ≡ []
nothing_told failed c zone n past memory given back told have d = ⊎_elim
    (λ (lt : d < length back).
    let few = have.few in
    let a = some_at given d (omega (arith, lt, few)) in
    let b = some_at back d lt in
    have.each d a.0 b.0 a.1 b.1)
    (λ (ge : length back ≤ d). have.absent d ge)
    (cases_lt d (length back))

pub run_of_kept : {L : Type 0} (failed : L → Bool) (c : Config) (zone : Zone) (given : ℕ → ℕ) (events : List Event) (memory : Bool) (lanes : List LaneParts) (logs back : List L) (lines : List Suppression)
    → IsToldRunOf (λ _ lines _. tells_nothing lines) failed c zone given events memory lanes logs back lines → IsRunOf c zone given events memory lanes lines
run_of_kept failed c zone given events memory lanes logs back lines run = record {
  due = run.2.due;
  log = λ m. record { each = λ o within. without o ((run.2.log m).each o within); named = (run.2.log m).named; order = (run.2.log m).order };
  due_front = run.2.due_front;
  log_front = record {
    each = λ o within. subst (λ (ls : List Suppression). IsPrefix (of_object o ls ++ of_object o lines) (sup c zone o (reverse events))) (none o) (run.2.log_front.each o within);
    named = run.2.log_front.named;
    order = run.2.log_front.order;
  };
  others = run.2.others;
  whole = run.2.whole;
  causes = run.2.causes;
}
  where
    none : (o : ℕ) → run.0 (o % length logs) ≡ []
    none o = nothing_told failed c zone (length logs) (reverse events) memory logs back run.0 run.1 (o % length logs)

    without : (o : ℕ) → of_object o (run.0 (o % length logs)) ++ of_object o lines ≡ sup c zone o (reverse events) → of_object o lines ≡ sup c zone o (reverse events)
    without o is = ap (λ (ls : List Suppression). of_object o ls ++ of_object o lines) (sym (none o)) ∙ is
