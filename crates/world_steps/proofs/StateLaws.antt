-- What holds of a world's state holds after each step.
use Rattle.std.proofs.Common.{◌≡◌, ◌≢◌, ℕ, ◌%◌, ◌<◌, ◌≤◌, true, false, List, [], ◌∷◌, ◌++◌, length, map, get_or, take, drop, reverse, slice_get, All, Option, Some, None, refl, sym, ap, ◌∙◌, subst, arith, eq-eqb, inl, inr, length-set, get_or-set_same, get_or-set_other, append_assoc, ◌==◌}
use Rattle.std.specs.List.{range_with_len}
use Rattle.std.proofs.lemmas.Bool.{cases_eq, cases_lt}
use Rattle.std.proofs.lemmas.List.{append-nil, get_or_past, length-append, take-append-le, take-append-drop}
use Rattle.std.proofs.lemmas.List.Elements.{All-nil, All-append, All-drop, All-take, All-same, All-weaker, filter-append}
use Rattle.std.proofs.lemmas.List.FromFn.{length-map-range_with_len, get_or-map-range_with_len}
use Rattle.std.proofs.lemmas.Option.{get_or_from_slice_get, none-some, slice_get-get_or}
use Rattle.due_model.specs.declared.config.LaneId.{LaneId}
use Rattle.due_model.specs.declared.event.Event.{Event}
use Rattle.due_model.specs.declared.event.EventKind.TheVariants.{Clock}
use Rattle.due_model.specs.declared.notice.Notice.{Notice}
use Rattle.due_model.specs.claims.Due.{due}
use Rattle.due_laws.specs.Laws.{NoticesTellOfEvents}
use Rattle.lemmas.proofs.Lists.{past_more}
use Rattle.decider.specs.claims.Decider.{gained}
use Rattle.decider.specs.DeciderLaws.{due_more}
use Rattle.steps.specs.declared.step.Step.TheVariants.{Post, Decide, Put, Lane}
use Rattle.steps.specs.declared.step.LaneStep.{LaneStep}
use Rattle.steps.specs.declared.step.LaneStep.TheVariants.{Pick, Settle, Fail, Ask, Replace, Close, Drain}
use Rattle.steps.specs.claims.Lanes.{LaneState, empty_lane}
use Rattle.world_steps.specs.claims.Worlds.{DeciderState, WorldState, Setup, no_decider, decider_at, lane_at, outbox_at}
use Rattle.steps.specs.claims.Lanes.{queued, picked, settled, failed, asked, replaced, closed, drained, Can, does}
use Rattle.world_steps.specs.claims.Steps.{after, with_lane, with_decider, decided, without_front, owner, past_of, OfLane, CanPut, CanDecide}
use Rattle.steps.specs.claims.Lanes.{about, contents}
use Rattle.world_steps.specs.claims.Lines.{line, decider_of}
use Rattle.world_steps.specs.claims.Fits.{StateFits}
use Rattle.world_steps.proofs.ListLemmas.{everywhere}
use Rattle.world_steps.proofs.Gains.{about_none, gained_owned, gained_is_owned}
use Rattle.world_steps.proofs.Shapes.{picked_law, settled_law, replaced_law, closed_law, drained_law, queued_law}

-- those of one object in two lists that are joined
pub about-append : (o : ℕ) (xs ys : List Notice) → about o (xs ++ ys) ≡ about o xs ++ about o ys
about-append o xs ys = filter-append (λ (n : Notice). n.object.0 == o) xs ys

module _ (s : Setup) (w : WorldState) (fits : StateFits s w) where
  -- ---- posting

  pub posted_past : (e : Event) (d : ℕ) → past_of (record w { posted = w.posted ++ e ∷ [] }) d ≡ past_of w d
  posted_past e d = ap reverse (take-append-le (decider_at w d).decided w.posted (e ∷ []) (fits.within d))

  post_fits : (e : Event) → StateFits s (record w { posted = w.posted ++ e ∷ [] })
  post_fits e = record {
    lanes = fits.lanes;
    deciders = fits.deciders;
    outboxes = fits.outboxes;
    within = λ d. omega (arith, fits.within d, length-append w.posted (e ∷ []));
    share = fits.share;
    serving = fits.serving;
    due = λ l o within known. fits.due l o within known ∙ ap (λ (past : List Event). due s.config s.zone o l past) (sym (posted_past e (decider_of s o)));
  }

  -- ---- a lane

  module _ (l : ℕ) (there : l < length w.lanes) (f : LaneState → LaneState) where
    lane_here : lane_at (with_lane w l f) l ≡ f (lane_at w l)
    lane_here = get_or-set_same w.lanes l (f (lane_at w l)) empty_lane there

    lane_other : (k : ℕ) → k ≢ l → lane_at (with_lane w l f) k ≡ lane_at w k
    lane_other k ne = get_or-set_other w.lanes l k (f (lane_at w l)) empty_lane ne

    same_contents : contents (f (lane_at w l)) ≡ contents (lane_at w l) → (k : ℕ) → contents (lane_at (with_lane w l f) k) ≡ contents (lane_at w k)
    same_contents same =
        everywhere (λ k. contents (lane_at (with_lane w l f) k) ≡ contents (lane_at w k)) l (ap contents lane_here ∙ same) (λ k ne. ap contents (lane_other k ne))

    serves : ((f (lane_at w l)).shut ≡ false → (f (lane_at w l)).undelivered ≡ []) → (k : ℕ) → (lane_at (with_lane w l f) k).shut ≡ false → (lane_at (with_lane w l f) k).undelivered ≡ []
    serves here = everywhere (λ k. (lane_at (with_lane w l f) k).shut ≡ false → (lane_at (with_lane w l f) k).undelivered ≡ []) l
        (λ serving. ap (λ (lane : LaneState). lane.undelivered) lane_here ∙ here (sym (ap (λ (lane : LaneState). lane.shut) lane_here) ∙ serving))
        (λ k ne serving. ap (λ (lane : LaneState). lane.undelivered) (lane_other k ne) ∙ fits.serving k (sym (ap (λ (lane : LaneState). lane.shut) (lane_other k ne)) ∙ serving))

    lane_fits : contents (f (lane_at w l)) ≡ contents (lane_at w l) → ((f (lane_at w l)).shut ≡ false → (f (lane_at w l)).undelivered ≡ []) → StateFits s (with_lane w l f)
    lane_fits same here = record {
      lanes = length-set w.lanes l (f (lane_at w l)) ∙ fits.lanes;
      deciders = fits.deciders;
      outboxes = fits.outboxes;
      within = fits.within;
      share = fits.share;
      serving = serves here;
      due = λ k o within known. ap (λ (held : List Notice). about o (held ++ outbox_at w (decider_of s o) k)) (same_contents same k) ∙ fits.due k o within known;
    }

  -- ---- an outbox

  module _ (d : ℕ) (there : d < length w.deciders) (f : DeciderState → DeciderState) where
    decider_here : decider_at (with_decider w d f) d ≡ f (decider_at w d)
    decider_here = get_or-set_same w.deciders d (f (decider_at w d)) no_decider there

    decider_other : (k : ℕ) → k ≢ d → decider_at (with_decider w d f) k ≡ decider_at w k
    decider_other k ne = get_or-set_other w.deciders d k (f (decider_at w d)) no_decider ne

    outbox_here : (l : ℕ) → outbox_at (with_decider w d f) d l ≡ get_or (f (decider_at w d)).outboxes l []
    outbox_here l = ap (λ (x : DeciderState). get_or x.outboxes l []) decider_here

    pub outbox_other : (k l : ℕ) → k ≢ d → outbox_at (with_decider w d f) k l ≡ outbox_at w k l
    outbox_other k l ne = ap (λ (x : DeciderState). get_or x.outboxes l []) (decider_other k ne)

  -- ---- a put

  module _ (d l : ℕ) (can : CanPut s w d l) where
    abbrev front : List Notice
    front = take 1 (outbox_at w d l)

    abbrev emptied : WorldState
    emptied = with_decider w d (without_front l)

    abbrev put : WorldState
    put = with_lane emptied l (queued front)

    in_outbox : l < length (decider_at w d).outboxes
    in_outbox = omega (arith, fits.outboxes d can.decider, fits.lanes, can.lane)

    pub front_here : outbox_at emptied d l ≡ drop 1 (outbox_at w d l)
    front_here = outbox_here d can.decider (without_front l) l ∙ get_or-set_same (decider_at w d).outboxes l (drop 1 (outbox_at w d l)) [] in_outbox

    pub front_other : (k : ℕ) → k ≢ l → outbox_at emptied d k ≡ outbox_at w d k
    front_other k ne = outbox_here d can.decider (without_front l) k ∙ get_or-set_other (decider_at w d).outboxes l k (drop 1 (outbox_at w d l)) [] ne

    pub queue_here : lane_at put l ≡ queued front (lane_at w l)
    queue_here = get_or-set_same w.lanes l (queued front (lane_at w l)) empty_lane can.lane

    pub queue_other : (k : ℕ) → k ≢ l → lane_at put k ≡ lane_at w k
    queue_other k ne = get_or-set_other w.lanes l k (queued front (lane_at w l)) empty_lane ne

    pub front_is_owned : All (λ n. n.object.0 % s.settings.deciders ≡ d) front
    front_is_owned = All-take (λ (n : Notice). n.object.0 % s.settings.deciders ≡ d) 1 (outbox_at w d l) (fits.share d l)

    decided_same : (k : ℕ) → (decider_at emptied k).decided ≡ (decider_at w k).decided
    decided_same = everywhere (λ k. (decider_at emptied k).decided ≡ (decider_at w k).decided) d
        (ap (λ (x : DeciderState). x.decided) (decider_here d can.decider (without_front l))) (λ k ne. ap (λ (x : DeciderState). x.decided) (decider_other d can.decider (without_front l) k ne))

    pub put_past : (k : ℕ) → past_of put k ≡ past_of w k
    put_past k = ap (λ (n : ℕ). reverse (take n w.posted)) (decided_same k)

    outbox_elsewhere : (k : ℕ) → k ≢ l → (m : ℕ) → outbox_at emptied m k ≡ outbox_at w m k
    outbox_elsewhere k ne = everywhere (λ m. outbox_at emptied m k ≡ outbox_at w m k) d (front_other k ne) (λ m other. outbox_other d can.decider (without_front l) m k other)

    -- the front goes from the outbox to the queue, for an object of the decider and for another
    front_moved : (o m : ℕ) (held : List Notice) → o % s.settings.deciders ≡ m → about o ((held ++ front) ++ outbox_at emptied m l) ≡ about o (held ++ outbox_at w m l)
    front_moved o m held of = elim (cases_eq m d) [
      | inl e ↦
          ap (λ (k : ℕ). about o ((held ++ front) ++ outbox_at emptied k l)) e
          ∙ ap (λ (out : List Notice). about o ((held ++ front) ++ out)) front_here
          ∙ ap (about o) (append_assoc held front (drop 1 (outbox_at w d l)) ∙ ap (λ (out : List Notice). held ++ out) (take-append-drop 1 (outbox_at w d l)))
          ∙ ap (λ (k : ℕ). about o (held ++ outbox_at w k l)) (sym e)
      | inr ne ↦
          let others : All (λ n. n.object.0 ≢ o) front = All-weaker (λ (n : Notice). n.object.0 % s.settings.deciders ≡ d) (λ (n : Notice). n.object.0 ≢ o)
          (λ n own same. ne (sym of ∙ ap (λ (x : ℕ). x % s.settings.deciders) (sym same) ∙ own)) front front_is_owned in
          ap (λ (out : List Notice). about o ((held ++ front) ++ out)) (outbox_other d can.decider (without_front l) m l ne)
          ∙ about-append o (held ++ front) (outbox_at w m l)
          ∙ ap (λ (v : List Notice). v ++ about o (outbox_at w m l))
          (about-append o held front ∙ ap (λ (v : List Notice). about o held ++ v) (about_none o front others) ∙ append-nil (about o held))
          ∙ sym (about-append o held (outbox_at w m l))
    ]

    put_line : (o k : ℕ) → line s put k o ≡ line s w k o
    put_line o = everywhere (λ k. line s put k o ≡ line s w k o) l
        (ap (λ (lane : LaneState). about o (contents lane ++ outbox_at emptied (decider_of s o) l)) queue_here
        ∙ ap (λ (held : List Notice). about o (held ++ outbox_at emptied (decider_of s o) l)) (queued_law front (lane_at w l))
        ∙ front_moved o (decider_of s o) (contents (lane_at w l)) refl)
        (λ k ne. ap (λ (lane : LaneState). about o (contents lane ++ outbox_at emptied (decider_of s o) k)) (queue_other k ne)
        ∙ ap (λ (out : List Notice). about o (contents (lane_at w k) ++ out)) (outbox_elsewhere k ne (decider_of s o)))

    put_owned : (m k : ℕ) → All (λ n. n.object.0 % s.settings.deciders ≡ m) (outbox_at put m k)
    put_owned = everywhere (λ m. (k : ℕ) → All (λ n. n.object.0 % s.settings.deciders ≡ m) (outbox_at put m k)) d
        (everywhere (λ k. All (λ n. n.object.0 % s.settings.deciders ≡ d) (outbox_at put d k)) l
        (All-same (λ (n : Notice). n.object.0 % s.settings.deciders ≡ d) (outbox_at put d l) (drop 1 (outbox_at w d l)) front_here (All-drop (λ (n : Notice). n.object.0 % s.settings.deciders ≡ d) 1 (outbox_at w d l) (fits.share d l)))
        (λ k ne. All-same (λ (n : Notice). n.object.0 % s.settings.deciders ≡ d) (outbox_at put d k) (outbox_at w d k) (front_other k ne) (fits.share d k)))
        (λ m ne k. All-same (λ (n : Notice). n.object.0 % s.settings.deciders ≡ m) (outbox_at put m k) (outbox_at w m k) (outbox_other d can.decider (without_front l) m k ne) (fits.share m k))

    put_serves : (k : ℕ) → (lane_at put k).shut ≡ false → (lane_at put k).undelivered ≡ []
    put_serves = everywhere (λ k. (lane_at put k).shut ≡ false → (lane_at put k).undelivered ≡ []) l
        (λ serving. ap (λ (lane : LaneState). lane.undelivered) queue_here ∙ fits.serving l (sym (ap (λ (lane : LaneState). lane.shut) queue_here) ∙ serving))
        (λ k ne serving. ap (λ (lane : LaneState). lane.undelivered) (queue_other k ne) ∙ fits.serving k (sym (ap (λ (lane : LaneState). lane.shut) (queue_other k ne)) ∙ serving))

    deciders_same : length put.deciders ≡ length w.deciders
    deciders_same = length-set w.deciders d (without_front l (decider_at w d))

    put_outboxes : (m : ℕ) → m < length put.deciders → length (decider_at put m).outboxes ≡ length s.config.lanes
    put_outboxes = everywhere (λ m. m < length put.deciders → length (decider_at put m).outboxes ≡ length s.config.lanes) d
        (λ h. ap (λ (x : DeciderState). length x.outboxes) (decider_here d can.decider (without_front l)) ∙ length-set (decider_at w d).outboxes l (drop 1 (outbox_at w d l)) ∙ fits.outboxes d can.decider)
        (λ m ne h. ap (λ (x : DeciderState). length x.outboxes) (decider_other d can.decider (without_front l) m ne) ∙ fits.outboxes m (omega (arith, h, deciders_same)))

    put_fits : StateFits s put
    put_fits = record {
      lanes = length-set w.lanes l (queued front (lane_at w l)) ∙ fits.lanes;
      deciders = deciders_same ∙ fits.deciders;
      outboxes = put_outboxes;
      within = λ k. omega (arith, decided_same k, fits.within k);
      share = put_owned;
      serving = put_serves;
      due = λ k o within known. put_line o k ∙ fits.due k o within known ∙ ap (λ (past : List Event). due s.config s.zone o k past) (sym (put_past (decider_of s o)));
    }

  -- ---- a decision

  module _ (law : NoticesTellOfEvents) (d : ℕ) (can : CanDecide w d) (e : Event) (found : slice_get w.posted (decider_at w d).decided ≡ Some e) where
    abbrev past : List Event
    past = past_of w d

    abbrev change : DeciderState → DeciderState
    change = decided s (owner s d) (Some e) past

    abbrev gain_at : ℕ → List Notice
    gain_at l = gained s.config s.zone (owner s d) l e past

    abbrev later : WorldState
    later = with_decider w d change

    abbrev olds : List (List Notice)
    olds = (decider_at w d).outboxes

    abbrev longer : ℕ → List Notice
    longer l = get_or olds l [] ++ gain_at l

    pub gained_here : (l : ℕ) → l < length olds → outbox_at later d l ≡ outbox_at w d l ++ gain_at l
    gained_here l h = outbox_here d can.there change l ∙ get_or-map-range_with_len longer 0 (length olds) l l [] h (omega arith)

    nothing_beyond : (l : ℕ) → length olds ≤ l → outbox_at later d l ≡ []
    nothing_beyond l h = outbox_here d can.there change l ∙ get_or_past (map longer (range_with_len 0 (length olds))) l [] (omega (arith, length-map-range_with_len longer 0 (length olds), h))

    pub decided_past : past_of later d ≡ e ∷ past
    decided_past =
        ap (λ (x : DeciderState). reverse (take x.decided w.posted)) (decider_here d can.there change)
        ∙ past_more w.posted (decider_at w d).decided e can.left ∙ ap (λ (x : Event). x ∷ past) (get_or_from_slice_get w.posted (decider_at w d).decided e e found)

    pub other_past : (k : ℕ) → k ≢ d → past_of later k ≡ past_of w k
    other_past k ne = ap (λ (x : DeciderState). reverse (take x.decided w.posted)) (decider_other d can.there change k ne)

    lanes_long : length olds ≡ length s.config.lanes
    lanes_long = fits.outboxes d can.there

    decide_line : (l o m : ℕ) → o % s.settings.deciders ≡ m → l < length s.config.lanes → o < length s.config.objects
        → about o (contents (lane_at w l) ++ outbox_at later m l) ≡ due s.config s.zone o l (past_of later m)
    decide_line l o m of within known = elim (cases_eq m d) [
      | inl same ↦
          let was : about o (contents (lane_at w l) ++ outbox_at w d l) ≡ due s.config s.zone o l past =
          subst (λ (k : ℕ). about o (contents (lane_at w l) ++ outbox_at w k l) ≡ due s.config s.zone o l (past_of w k)) (of ∙ same) (fits.due l o within known) in
          subst (λ (k : ℕ). about o (contents (lane_at w l) ++ outbox_at later k l) ≡ due s.config s.zone o l (past_of later k)) (sym same)
          (ap (λ (out : List Notice). about o (contents (lane_at w l) ++ out)) (gained_here l (omega (arith, within, lanes_long)))
          ∙ ap (about o) (sym (append_assoc (contents (lane_at w l)) (outbox_at w d l) (gain_at l)))
          ∙ about-append o (contents (lane_at w l) ++ outbox_at w d l) (gain_at l)
          ∙ ap (λ (v : List Notice). v ++ about o (gain_at l)) was
          ∙ ap (λ (v : List Notice). due s.config s.zone o l past ++ v) (gained_owned law s.config s.zone (owner s d) l e past o (eq-eqb (o % s.settings.deciders) d (of ∙ same)) known)
          ∙ sym (due_more s.config s.zone o l e past)
          ∙ ap (due s.config s.zone o l) (sym decided_past))
      | inr ne ↦
          let was : about o (contents (lane_at w l) ++ outbox_at w m l) ≡ due s.config s.zone o l (past_of w m) =
          subst (λ (k : ℕ). about o (contents (lane_at w l) ++ outbox_at w k l) ≡ due s.config s.zone o l (past_of w k)) of (fits.due l o within known) in
          ap (λ (out : List Notice). about o (contents (lane_at w l) ++ out)) (outbox_other d can.there change m l ne)
          ∙ was
          ∙ ap (due s.config s.zone o l) (sym (other_past m ne))
    ]

    decide_owned : (m l : ℕ) → All (λ n. n.object.0 % s.settings.deciders ≡ m) (outbox_at later m l)
    decide_owned = everywhere (λ m. (l : ℕ) → All (λ n. n.object.0 % s.settings.deciders ≡ m) (outbox_at later m l)) d
        (λ l. elim (cases_lt l (length olds)) [
          | inl h ↦ All-same (λ (n : Notice). n.object.0 % s.settings.deciders ≡ d) (outbox_at later d l) (outbox_at w d l ++ gain_at l) (gained_here l h)
              (All-append (λ (n : Notice). n.object.0 % s.settings.deciders ≡ d) (outbox_at w d l) (gain_at l) (fits.share d l) (gained_is_owned law s.config s.zone (owner s d) l e past))
          | inr h ↦ All-same (λ (n : Notice). n.object.0 % s.settings.deciders ≡ d) (outbox_at later d l) [] (nothing_beyond l h) (All-nil (λ (n : Notice). n.object.0 % s.settings.deciders ≡ d))
        ])
        (λ m ne l. All-same (λ (n : Notice). n.object.0 % s.settings.deciders ≡ m) (outbox_at later m l) (outbox_at w m l) (outbox_other d can.there change m l ne) (fits.share m l))

    decide_within : (k : ℕ) → (decider_at later k).decided ≤ length w.posted
    decide_within = everywhere (λ k. (decider_at later k).decided ≤ length w.posted) d
        (omega (arith, ap (λ (x : DeciderState). x.decided) (decider_here d can.there change), can.left))
        (λ k ne. omega (arith, ap (λ (x : DeciderState). x.decided) (decider_other d can.there change k ne), fits.within k))

    later_same : length later.deciders ≡ length w.deciders
    later_same = length-set w.deciders d (change (decider_at w d))

    decide_outboxes : (m : ℕ) → m < length later.deciders → length (decider_at later m).outboxes ≡ length s.config.lanes
    decide_outboxes = everywhere (λ m. m < length later.deciders → length (decider_at later m).outboxes ≡ length s.config.lanes) d
        (λ h. ap (λ (x : DeciderState). length x.outboxes) (decider_here d can.there change) ∙ length-map-range_with_len longer 0 (length olds) ∙ lanes_long)
        (λ m ne h. ap (λ (x : DeciderState). length x.outboxes) (decider_other d can.there change m ne) ∙ fits.outboxes m (omega (arith, h, later_same)))

    decide_fits : StateFits s later
    decide_fits = record {
      lanes = fits.lanes;
      deciders = later_same ∙ fits.deciders;
      outboxes = decide_outboxes;
      within = decide_within;
      share = decide_owned;
      serving = fits.serving;
      due = λ l o within known. decide_line l o (decider_of s o) refl within known;
    }

  -- ---- each step

  decide_any : NoticesTellOfEvents → (d : ℕ) → CanDecide w d → (o : Option Event) → slice_get w.posted (decider_at w d).decided ≡ o
      → StateFits s (with_decider w d (decided s (owner s d) o (past_of w d)))
  decide_any law d can None none =
      let e : Event = record { moment = 0; kind = Clock } in
      absurd (none-some _ (sym none ∙ slice_get-get_or w.posted (decider_at w d).decided e can.left))
  decide_any law d can (Some e) found = decide_fits law d can e found

  lane_after : (l : ℕ) (step : LaneStep) → OfLane w l (Can s.settings.tries step) → StateFits s (with_lane w l (does step))
  lane_after l Pick can = lane_fits l can.there picked (picked_law (lane_at w l) can.holds (fits.serving l can.holds.serving)) (λ serving. fits.serving l serving)
  lane_after l Settle can = lane_fits l can.there settled (settled_law (lane_at w l)) (λ serving. fits.serving l serving)
  lane_after l Fail can = lane_fits l can.there failed refl (λ serving. fits.serving l serving)
  lane_after l Ask can = lane_fits l can.there asked refl (λ serving. fits.serving l serving)
  lane_after l Replace can = lane_fits l can.there replaced (replaced_law (lane_at w l)) (λ serving. fits.serving l serving)
  lane_after l Close can = lane_fits l can.there closed (closed_law (lane_at w l) (fits.serving l can.holds.serving)) (λ serving. absurd (cc))
  lane_after l Drain can = lane_fits l can.there drained (drained_law (lane_at w l)) (λ serving. let shut : (lane_at w l).shut ≡ true = can.holds.shut in absurd (cc))

  -- what a lane holds stays the same in order, whatever its step
  pub lane_kept : (l : ℕ) (step : LaneStep) → OfLane w l (Can s.settings.tries step) → (k : ℕ) → contents (lane_at (with_lane w l (does step)) k) ≡ contents (lane_at w k)
  lane_kept l Pick can = same_contents l can.there picked (picked_law (lane_at w l) can.holds (fits.serving l can.holds.serving))
  lane_kept l Settle can = same_contents l can.there settled (settled_law (lane_at w l))
  lane_kept l Fail can = same_contents l can.there failed refl
  lane_kept l Ask can = same_contents l can.there asked refl
  lane_kept l Replace can = same_contents l can.there replaced (replaced_law (lane_at w l))
  lane_kept l Close can = same_contents l can.there closed (closed_law (lane_at w l) (fits.serving l can.holds.serving))
  lane_kept l Drain can = same_contents l can.there drained (drained_law (lane_at w l))

  -- after any step that is enabled; the law is needed where an event is decided
  pub post_after : (e : Event) → StateFits s (after s w (Post e))
  post_after e = post_fits e

  pub decide_after : NoticesTellOfEvents → (d : ℕ) → CanDecide w d → StateFits s (after s w (Decide d))
  decide_after law d can = decide_any law d can (slice_get w.posted (decider_at w d).decided) refl

  pub put_after : (d : ℕ) (l : LaneId) → CanPut s w d l.0 → StateFits s (after s w (Put d l))
  put_after d l can = put_fits d l.0 can

  pub change_after : (l : LaneId) (step : LaneStep) → OfLane w l.0 (Can s.settings.tries step) → StateFits s (after s w (Lane l step))
  change_after l step can = lane_after l.0 step can
