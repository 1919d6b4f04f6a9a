-- What one letter that is due does to a comparison, and what is told in the end.
use Rattle.std.proofs.Common.{◌≡◌, ℕ, zero, suc, ◌-◌, ◌<◌, ◌≤◌, ◌&&◌, ◌==◌, Bool, true, false, cond, not, nat_lt, All, List, [], ◌∷◌, ◌++◌, filter, length, map, get_or, Option, None, Some, refl, sym, ap, ◌∙◌, subst, arith}
use Rattle.std.specs.Prelude.{slice_get}
use Rattle.std.specs.Option.{option_map_or}
use Rattle.std.proofs.lemmas.Bool.{eq-eqb, ne_eqb, true≢false}
use Rattle.std.proofs.lemmas.List.{length-map}
use Rattle.std.proofs.lemmas.List.Elements.{All-nil, All-push}
use Rattle.due_model.specs.declared.notice.Notice.{Notice}
use Rattle.journaled.specs.Claims.{IsHeld, is_settled}
use Rattle.earlier_runs.specs.declared.left.LaneState.{LaneState}
use Rattle.earlier_runs.specs.declared.compared.Change.{Change}
use Rattle.earlier_runs.specs.declared.compared.Change.TheVariants as change
use Rattle.earlier_runs.specs.Compared.{AreLong, Differs, HasCompared, IsFirstLeft, IsShort, StopsAt, TellsChange, claims_of, is_claimed}
use Rattle.earlier_runs.specs.State.{past_in}

-- it is of an event from which on letters are handed over, and settled
abbrev was_sent : LaneState → Notice → Bool
was_sent state n = not (nat_lt n.event state.from) && is_settled (past_in state) n

some_is : {A : Type 0} (found : Option A) (x y : A) → found ≡ Some x → found ≡ Some y → x ≡ y
some_is found x y e f = cc

-- how many of one letter are claimed
count_by : (n : Notice) (l : ℕ) (found : Option LaneState) → ((state : LaneState) → found ≡ Some state → is_claimed state l n ≡ false)
    → option_map_or (λ state. length (filter (is_claimed state l) (n ∷ []))) found 0 ≡ 0
count_by n l None h = refl
count_by n l (Some state) h = ap (λ (b : Bool). length (cond b (n ∷ []) [])) (h state refl)

unclaimed : (states : List LaneState) (n : Notice) (l : ℕ) → ((state : LaneState) → slice_get states l ≡ Some state → is_claimed state l n ≡ false)
    → claims_of states l (n ∷ []) ≡ 0
unclaimed states n l h = count_by n l (slice_get states l) h

claimed_by : (n : Notice) (l : ℕ) (found : Option LaneState) (state : LaneState) → found ≡ Some state → is_claimed state l n ≡ true
    → option_map_or (λ state. length (filter (is_claimed state l) (n ∷ []))) found 0 ≡ 1
claimed_by n l found state e h =
    ap (λ (o : Option LaneState). option_map_or (λ s. length (filter (is_claimed s l) (n ∷ []))) o 0) e
    ∙ ap (λ (b : Bool). length (cond b (n ∷ []) [])) h

-- on another lane nothing is
elsewhere : (states : List LaneState) (n : Notice) (l : ℕ) → (n.lane.0 == l) ≡ false → claims_of states l (n ∷ []) ≡ 0
elsewhere states n l other = unclaimed states n l (λ state at. ap (λ (b : Bool). b && was_sent state n) other)

-- ---- what a letter does

one : (P : Notice → Type 0) (n : Notice) → P n → All P (n ∷ [])
one P n h = All-push P [] n (All-nil P) h

-- one that isn't sent
module _ (states : List LaneState) (left : List ℕ) (differs : Option Notice) (n : Notice)
    (unsent : (state : LaneState) → slice_get states n.lane.0 ≡ Some state → was_sent state n ≡ false) where
  sent_differs : Differs states n → ⊥
  sent_differs d =
      let early : nat_lt n.event d.state.from ≡ false = grind (arith, d.from) in
      let sent : was_sent d.state n ≡ true = ap (λ (b : Bool). not b && is_settled (past_in d.state) n) early ∙ d.settled in
      true≢false (sym sent ∙ unsent d.state d.at)

  none_at : (l : ℕ) (b : Bool) → (n.lane.0 == l) ≡ b → claims_of states l (n ∷ []) ≡ 0
  none_at l false other = elsewhere states n l other
  none_at l true here =
      unclaimed states n l (λ state at.
      ap (λ (b : Bool). b && was_sent state n) here
      ∙ unsent state (ap (λ (k : ℕ). slice_get states k) (same_lane l here) ∙ at))
    where
      same_lane : (l : ℕ) → (n.lane.0 == l) ≡ true → n.lane.0 ≡ l
      same_lane l e = grind (arith, e)

  pub unsent_compared : HasCompared states left differs (n ∷ []) states left differs
  unsent_compared = record {
    states_are = refl;
    differs_is = refl;
    each = one (λ m. Differs states m → ⊥) n sent_differs;
    fewer = λ l. let none : claims_of states l (n ∷ []) ≡ 0 = none_at l (n.lane.0 == l) refl in omega (arith, none);
    count = refl;
  }

-- one that was sent just as it is
module _ (states : List LaneState) (left left' : List ℕ) (differs : Option Notice) (n : Notice) (state : LaneState)
    (at : slice_get states n.lane.0 ≡ Some state) (from : state.from ≤ n.event) (settled : is_settled (past_in state) n ≡ true) (held : IsHeld (past_in state) n)
    (fewer : (l : ℕ) → get_or left' l 0 ≡ get_or left l 0 - cond (l == n.lane.0) 1 0) (count : length left' ≡ length left) where
  held_differs : Differs states n → ⊥
  held_differs d = d.other (subst (λ (s : LaneState). IsHeld (past_in s) n) (some_is (slice_get states n.lane.0) state d.state at d.at) held)

  here_claimed : claims_of states n.lane.0 (n ∷ []) ≡ 1
  here_claimed =
      let same : (n.lane.0 == n.lane.0) ≡ true = eq-eqb n.lane.0 n.lane.0 refl in
      let early : nat_lt n.event state.from ≡ false = grind (arith, from) in
      claimed_by n n.lane.0 (slice_get states n.lane.0) state at
      (ap (λ (b : Bool). b && was_sent state n) same
      ∙ ap (λ (b : Bool). not b && is_settled (past_in state) n) early ∙ settled)

  fewer_at : (l : ℕ) (b : Bool) → (l == n.lane.0) ≡ b → get_or left' l 0 ≡ get_or left l 0 - claims_of states l (n ∷ [])
  fewer_at l true here =
      let lane : l ≡ n.lane.0 = grind (arith, here) in
      fewer l ∙ ap (λ (b : Bool). get_or left l 0 - cond b 1 0) here
      ∙ ap (λ (k : ℕ). get_or left l 0 - k) (sym here_claimed ∙ ap (λ (k : ℕ). claims_of states k (n ∷ [])) (sym lane))
  fewer_at l false other =
      let away : (n.lane.0 == l) ≡ false = ne_eqb n.lane.0 l (λ is. true≢false (sym (eq-eqb l n.lane.0 (sym is)) ∙ other)) in
      fewer l ∙ ap (λ (b : Bool). get_or left l 0 - cond b 1 0) other
      ∙ ap (λ (k : ℕ). get_or left l 0 - k) (sym (elsewhere states n l away))

  pub held_compared : HasCompared states left differs (n ∷ []) states left' differs
  held_compared = record {
    states_are = refl;
    differs_is = refl;
    each = one (λ m. Differs states m → ⊥) n held_differs;
    fewer = λ l. fewer_at l (l == n.lane.0) refl;
    count = count;
  }

-- ---- by what is said of it

-- of a lane that there isn't
pub none_compared : (states : List LaneState) (left : List ℕ) (differs : Option Notice) (n : Notice) → slice_get states n.lane.0 ≡ None
    → HasCompared states left differs (n ∷ []) states left differs
none_compared states left differs n none =
    unsent_compared states left differs n (λ state at. absurd (none_is_some state (sym none ∙ at)))
  where
    none_is_some : (state : LaneState) → None ≡ Some state → ⊥
    none_is_some state e = cc

-- of an event before those that count
pub early_compared : (states : List LaneState) (left : List ℕ) (differs : Option Notice) (n : Notice) (state : LaneState) → slice_get states n.lane.0 ≡ Some state
    → n.event < state.from → HasCompared states left differs (n ∷ []) states left differs
early_compared states left differs n state at early =
    unsent_compared states left differs n (λ other there.
    let same : state ≡ other = some_is (slice_get states n.lane.0) state other at there in
    let is : nat_lt n.event state.from ≡ true = grind (arith, early) in
    subst (λ (s : LaneState). was_sent s n ≡ false) same (ap (λ (b : Bool). not b && is_settled (past_in state) n) is))

-- one that no run has settled
pub new_compared : (states : List LaneState) (left : List ℕ) (differs : Option Notice) (n : Notice) (state : LaneState) → slice_get states n.lane.0 ≡ Some state
    → is_settled (past_in state) n ≡ false → HasCompared states left differs (n ∷ []) states left differs
new_compared states left differs n state at new =
    unsent_compared states left differs n (λ other there.
    let same : state ≡ other = some_is (slice_get states n.lane.0) state other at there in
    subst (λ (s : LaneState). was_sent s n ≡ false) same (ap (λ (b : Bool). not (nat_lt n.event state.from) && b) new ∙ and_false (not (nat_lt n.event state.from))))
  where
    and_false : (b : Bool) → (b && false) ≡ false
    and_false true = refl
    and_false false = refl

-- ---- what is told in the end

-- what was sent of a lane
sent_at : (states : List LaneState) (l : ℕ) (state : LaneState) → slice_get states l ≡ Some state → get_or (map (λ s. s.sent) states) l 0 ≡ state.sent
sent_at [] l state at = cc
sent_at (s ∷ states) zero state at = ap (λ (x : LaneState). x.sent) (same_some s state at)
  where
    same_some : (s state : LaneState) → Some s ≡ Some state → s ≡ state
    same_some s state e = cc
sent_at (s ∷ states) (suc l) state at = sent_at states l state at

pub told_left : (states states' : List LaneState) (left left' : List ℕ) (differs differs' : Option Notice) (events : ℕ) (due : List Notice) (result : Option Change)
    → left ≡ map (λ s. s.sent) states → HasCompared states left differs due states' left' differs' → AreLong states events → IsFirstLeft left' result
    → TellsChange states events due result
told_left states states' left left' differs differs' events due None sent h long none = record {
  each = h.each;
  long = long;
  all = λ l state at.
      let was : get_or left l 0 ≡ state.sent = ap (λ (x : List ℕ). get_or x l 0) sent ∙ sent_at states l state at in
      let now : get_or left' l 0 ≡ get_or left l 0 - claims_of states l due = h.fewer l in
      let zero_is : get_or left' l 0 ≡ 0 = none l in
      omega (arith, was, now, zero_is);
}
told_left states states' left left' differs differs' events due (Some (change.Differs n)) sent h long is = absurd is
told_left states states' left left' differs differs' events due (Some (change.Short lane from)) sent h long is = absurd is
told_left states states' left left' differs differs' events due (Some (change.Gone lane count)) sent h long is =
    let many : length left ≡ length states = ap length sent ∙ length-map states (λ s. s.sent) in
    let same : length left' ≡ length left = h.count in
    let inside : lane.0 < length left' = is.2 in
    let within : lane.0 < length states = omega (arith, many, same, inside) in
    let found = state_within states lane.0 within in
    let was : get_or left lane.0 0 ≡ found.0.sent = ap (λ (x : List ℕ). get_or x lane.0 0) sent ∙ sent_at states lane.0 found.0 found.1 in
    (h.each, long, found.0, found.1, is.0 ∙ h.fewer lane.0 ∙ ap (λ n. n - claims_of states lane.0 due) was, is.1)
  where
    state_within : (states : List LaneState) (l : ℕ) → l < length states → (state : LaneState) × (slice_get states l ≡ Some state)
    state_within [] l h = absurd (omega (arith, h))
    state_within (s ∷ states) zero h = (s, refl)
    state_within (s ∷ states) (suc l) h = state_within states l (omega (arith, h))

pub told_short : (states states' : List LaneState) (left left' : List ℕ) (differs differs' : Option Notice) (events : ℕ) (due : List Notice) (it : Change)
    → HasCompared states left differs due states' left' differs' → IsShort states events it → TellsChange states events due (Some it)
told_short states states' left left' differs differs' events due (change.Differs n) h is = absurd is
told_short states states' left left' differs differs' events due (change.Short lane from) h is = (h.each, is)
told_short states states' left left' differs differs' events due (change.Gone lane count) h is = absurd is

pub told_first : (states middle after : List LaneState) (left left' : List ℕ) (differs differs' found : Option Notice) (events : ℕ) (due first others : List Notice) (n : Notice) (result : Option Change)
    → due ≡ first ++ n ∷ others → HasCompared states left differs first middle left' differs' → StopsAt middle n after found → result ≡ Some (change.Differs n)
    → TellsChange states events due result
told_first states middle after left left' differs differs' found events due first others n result are h stops is =
    subst (λ (r : Option Change). TellsChange states events due r) (sym is) (record {
      before = first;
      after = others;
      are = are;
      each = h.each;
      differs = subst (λ (s : List LaneState). Differs s n) h.states_are stops.differs;
    })
