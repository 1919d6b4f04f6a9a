-- What is kept of a world, seen as its state.
use Rattle.std.proofs.Common.{◌≡◌, ℕ, ◌+◌, ◌%◌, ◌<◌, ◌≤◌, List, [], ◌∷◌, ◌++◌, length, map, set, get_or, take, reverse, slice_get, Some, subst, refl, sym, ap, ◌∙◌, arith, length-set, get_or-set_same, get_or-set_other}
use Rattle.std.proofs.lemmas.List.{length-map, take-append-le, length-append, length-reverse, length-take-le, get_or_push, length_push, get_or_append_left}
use Rattle.std.proofs.Math.Nat.{mod-lt}
use Rattle.std.proofs.lemmas.List.FromFn.{fill_by_all}
use Rattle.std.proofs.lemmas.Option.{slice_get-get_or, slice_get_within, slice_get_read, get_or_from_slice_get}
use Rattle.due_model.specs.declared.event.Event.{Event}
use Rattle.due_model.specs.declared.notice.Notice.{Notice}
use Rattle.decider.specs.claims.Decider.{gained}
use Rattle.decider.specs.claims.Fits.{Kept, Fits as PastFits, kept, settings}
use Rattle.decider.specs.claims.Outbox.{lists, waiting_at}
use Rattle.decider.specs.declared.share.Share.{Share}
use Rattle.lemmas.proofs.Writes.{read_at}
use Rattle.world_steps.specs.declared.deciders.KeptDecider.{KeptDecider}
use Rattle.steps.specs.declared.lane.KeptLane.{KeptLane}
use Rattle.world_steps.specs.claims.Worlds.{DeciderState, WorldState, Setup, no_decider}
use Rattle.world_steps.specs.claims.Steps.{decided}
use Rattle.steps.specs.claims.Lanes.{empty_lane, lane_state}
use Rattle.world_steps.specs.claims.Fits.{decider_state, state_of, DeciderFits, StateFits, Fits, count}
use Rattle.world_steps.proofs.ListLemmas.{everywhere}

-- what is kept of decider d fits
pub found_fits : (s : Setup) (posted : List Event) (deciders : List KeptDecider)
    → ((d : ℕ) (x : KeptDecider) → slice_get deciders d ≡ Some x → DeciderFits s posted d x)
    → (d : ℕ) (x : KeptDecider) → d < length deciders → x ≡ get_or deciders d x → DeciderFits s posted d x
found_fits s posted deciders each d x within e = each d x (slice_get_read deciders (length deciders) d x refl within e)

-- the outbox of decider d among all, for lane l
pub outbox_read : (deciders : List KeptDecider) (d : ℕ) (x : KeptDecider) (l : ℕ) → d < length deciders → x ≡ get_or deciders d x
    → get_or (get_or (map decider_state deciders) d no_decider).outboxes l [] ≡ waiting_at x.outbox l
outbox_read deciders d x l within e = ap (λ (y : DeciderState). get_or y.outboxes l []) (read_at decider_state deciders d x no_decider within e)

-- lane l among all
pub lane_read : (lanes : List KeptLane) (l : ℕ) (a : KeptLane) → l < length (map lane_state lanes) → a ≡ get_or lanes l a
    → get_or (map lane_state lanes) l empty_lane ≡ lane_state a
lane_read lanes l a within e = read_at lane_state lanes l a empty_lane (simp length-map at within) e

-- a decider that has decided one more event
pub decided_law : (s : Setup) (share : Share) (e : Event) (past : List Event) (x y : KeptDecider) → count y ≡ count x + 1
    → length (lists y.outbox) ≡ length (lists x.outbox)
    → ((l : ℕ) → l < length (lists x.outbox) → waiting_at y.outbox l ≡ waiting_at x.outbox l ++ gained s.config s.zone share l e past)
    → decider_state y ≡ decided s share (Some e) past (decider_state x)
decided_law s share e past x y more long each =
    ap (λ (n : ℕ). record { decided = n; outboxes = lists y.outbox }) more
    ∙ ap (λ (outs : List (List Notice)). record { decided = count x + 1; outboxes = outs })
    (fill_by_all (λ (l : ℕ). waiting_at x.outbox l ++ gained s.config s.zone share l e past) (lists y.outbox) (length (lists x.outbox)) [] long each)

-- what is found at d after a write at i
pub set_found : {X : Type 0} (P : ℕ → X → Type 0) (xs : List X) (i : ℕ) (y : X) → ((d : ℕ) (x : X) → slice_get xs d ≡ Some x → P d x) → P i y → (d : ℕ) (x : X) → slice_get (set xs i y) d ≡ Some x → P d x
set_found P xs i y each new = everywhere (λ d. (x : _) → slice_get (set xs i y) d ≡ Some x → P d x) i
    (λ x e. let within : i < length xs = omega (arith, length-set xs i y, slice_get_within (set xs i y) i x e) in
    subst (P i) (sym (get_or-set_same xs i y x within) ∙ get_or_from_slice_get (set xs i y) i x x e) new)
    (λ d ne x e. let within : d < length xs = omega (arith, length-set xs i y, slice_get_within (set xs i y) d x e) in
    each d x (slice_get-get_or xs d x within ∙ ap (λ z. Some z) (sym (get_or-set_other xs i d y x ne) ∙ get_or_from_slice_get (set xs i y) d x x e)))

-- a decider that keeps the same fits the same events
pub kept_fits : {s : Setup} {posted : List Event} {d : ℕ} (x y : KeptDecider) → kept y.decider ≡ kept x.decider
    → length (lists y.outbox) ≡ length (lists x.outbox) → DeciderFits s posted d x → DeciderFits s posted d y
kept_fits {posted = posted} x y same long was = record {
  within = omega (arith, ap (λ (k : Kept). k.count) same, was.within);
  past = subst (λ (k : Kept). PastFits k (reverse (take k.count posted))) (sym same) was.past;
  settings = ap settings same ∙ was.settings;
  lanes = long ∙ was.lanes;
}

-- how many events are decided
pub past_length : (posted : List Event) (n : ℕ) → n ≤ length posted → length (reverse (take n posted)) ≡ n
past_length posted n h = length-reverse (take n posted) ∙ length-take-le n posted h

-- a decider fits the same events once more are posted
pub fits_more : (s : Setup) (posted : List Event) (d : ℕ) (x : KeptDecider) (e : Event) → DeciderFits s posted d x
    → DeciderFits s (posted ++ e ∷ []) d x
fits_more s posted d x e was = record {
  within = omega (arith, was.within, length-append posted (e ∷ []));
  past = subst (λ (past : List Event). PastFits (kept x.decider) (reverse past)) (sym (take-append-le (count x) posted (e ∷ []) was.within)) was.past;
  settings = was.settings;
  lanes = was.lanes;
}

-- what is found in a list with one more
pub push_found : {X : Type 0} (P : ℕ → X → Type 0) (xs : List X) (n : ℕ) (y : X) → length xs ≡ n → ((d : ℕ) (x : X) → slice_get xs d ≡ Some x → P d x) → P n y → (d : ℕ) (x : X) → slice_get (xs ++ y ∷ []) d ≡ Some x → P d x
push_found P xs n y long each new = everywhere (λ d. (x : _) → slice_get (xs ++ y ∷ []) d ≡ Some x → P d x) n
    (λ x e. subst (P n) (sym (get_or_push xs y x n long) ∙ get_or_from_slice_get (xs ++ y ∷ []) n x x e) new)
    (λ d ne x e. let within : d < length xs = omega (arith, long, length_push xs y, slice_get_within (xs ++ y ∷ []) d x e, ne) in
    each d x (slice_get-get_or xs d x within ∙ ap (λ z. Some z) (sym (get_or_append_left xs (y ∷ []) x d within) ∙ get_or_from_slice_get (xs ++ y ∷ []) d x x e)))

-- the outbox of decider d has a list for each lane
pub outbox_there : {s : Setup} {posted : List Event} {deciders : List KeptDecider} {lanes : List KeptLane} → Fits s posted deciders lanes
    → (d l : ℕ) (x : KeptDecider) → d < length (map decider_state deciders) → x ≡ get_or deciders d x → l < length (map lane_state lanes)
    → l < length (lists x.outbox)
outbox_there {s = s} {posted = posted} {deciders = deciders} fits d l x within e lane =
    omega (arith, (found_fits s posted deciders fits.each d x (simp length-map at within) e).lanes, fits.state.lanes, lane)

-- the decider of an object is there
pub owner_there : {s : Setup} {posted : List Event} {deciders : List KeptDecider} {lanes : List KeptLane} → Fits s posted deciders lanes
    → (o n : ℕ) → n ≡ s.settings.deciders → o % n < length (map decider_state deciders)
owner_there {s = s} fits o n e =
    let some : 0 < n = omega (arith, e, s.settings.in_range.number.0) in
    omega (arith, mod-lt o some, e, fits.state.deciders)

-- what fits, after a step that leaves what is posted
pub fits_then : {s : Setup} {posted : List Event} {deciders : List KeptDecider} {lanes : List KeptLane} → Fits s posted deciders lanes
    → (deciders2 : List KeptDecider) (lanes2 : List KeptLane) (w : WorldState)
    → ((d : ℕ) (x : KeptDecider) → slice_get deciders2 d ≡ Some x → DeciderFits s posted d x)
    → state_of posted deciders2 lanes2 ≡ w → StateFits s w → Fits s posted deciders2 lanes2
fits_then {s = s} fits deciders2 lanes2 w each same state = record {
  accepted = fits.accepted;
  proper = fits.proper;
  short = fits.short;
  each = each;
  state = subst (StateFits s) (sym same) state;
}
