-- What one letter that is due does to who gives up, and what comes of all.
use Rattle.std.proofs.Common.{◌≡◌, ℕ, ◌<◌, ◌≤◌, ◌+◌, ◌&&◌, ◌==◌, ◌||◌, inl, inr, Bool, true, false, cond, not, nat_lt, nat_le, List, [], ◌∷◌, ◌++◌, length, map, Option, None, Some, refl, sym, ap, ◌∙◌, subst, arith, eq-eqb}
use Rattle.std.specs.Prelude.{min, slice_get}
use Rattle.std.specs.List.{list_any}
use Rattle.std.specs.List.Sorted.{IsPermutation}
use Rattle.std.proofs.lemmas.Bool.{and_from, le-leb, or_left, or_right, true≢false}
use Rattle.std.proofs.lemmas.List.Folds.{list_any_at}
use Rattle.std.proofs.lemmas.List.Sorted.{Contains-permutation, IsPermutation-sym}
use Rattle.due_model.specs.declared.config.Config.{Config}
use Rattle.due_model.specs.declared.config.LaneId.{LaneId}
use Rattle.due_model.specs.declared.notice.Notice.{Notice}
use Rattle.journal_folder.specs.declared.lane_past.LanePast.{LanePast}
use Rattle.journal_text.specs.declared.entry.Entry.{Entry}
use Rattle.journal_text.specs.declared.entry.Entry.TheVariants.{GivenUp}
use Rattle.journaled.specs.Claims.{IsHeld, Past, is_settled, settles}
use Rattle.earlier_runs.specs.declared.left.LaneState.{LaneState}
use Rattle.earlier_runs.specs.FromNow.{AreBegun, GivesUpAll, HasGivenUp, IsBegun, TellsHeld, WritesAt, given_up}
use Rattle.earlier_runs.proofs.LeftLaws.{both_more, both_none, longer, there}
use Rattle.earlier_runs.specs.State.{IsState, past_in, past_read}

-- ---- what is held is settled

settles_itself : (n : Notice) → settles n n ≡ true
settles_itself n =
    and_from (n.object.0 == n.object.0) (nat_lt n.event n.event || (n.event == n.event && nat_le n.contact.0 n.contact.0))
    (eq-eqb n.object.0 n.object.0 refl)
    (or_right (nat_lt n.event n.event) (n.event == n.event && nat_le n.contact.0 n.contact.0)
    (and_from (n.event == n.event) (nat_le n.contact.0 n.contact.0) (eq-eqb n.event n.event refl) (le-leb n.contact.0 n.contact.0 (omega arith))))

pub held_settled : (past : Past) (n : Notice) → IsHeld past n → is_settled past n ≡ true
held_settled past n (inl early) =
    let is : nat_lt n.event past.from ≡ true = grind (arith, early) in
    or_left (nat_lt n.event past.from) (list_any (settles n) past.settled) is
held_settled past n (inr among) =
    or_right (nat_lt n.event past.from) (list_any (settles n) past.settled)
    (list_any_at (settles n) past.settled among.0 n among.1 (ap (settles n) among.2 ∙ settles_itself n))

-- ---- one letter

some_is : {A : Type 0} (found : Option A) (x y : A) → found ≡ Some x → found ≡ Some y → x ≡ y
some_is found x y e f = cc

abbrev is_given : (was_held : Notice → Bool) → (l from : ℕ) → Notice → Bool
is_given was_held l from n = (n.lane.0 == l) && (nat_lt n.event from && not (was_held n))

one_by : (n : Notice) (b : Bool) → b ≡ false → cond b (n ∷ []) [] ≡ []
one_by n b is = ap (λ (x : Bool). cond x (n ∷ []) []) is

one_is : (n : Notice) (b : Bool) → b ≡ true → cond b (n ∷ []) [] ≡ n ∷ []
one_is n b is = ap (λ (x : Bool). cond x (n ∷ []) []) is

and_none : (a b : Bool) → b ≡ false → (a && b) ≡ false
and_none true b is = is
and_none false b is = refl

none_and : (a b : Bool) → a ≡ false → (a && b) ≡ false
none_and a b is = ap (λ (x : Bool). x && b) is

module _ {J : Type 0} (wrote : J → List Entry → J → Type 0) (states : List LaneState) (from : ℕ) (n : Notice) where
  -- one that isn't given up
  passed : (stays : (s : J) → wrote s [] s) (journals : List J)
      → ((l : ℕ) (state : LaneState) (was_held : Notice → Bool) → slice_get states l ≡ Some state → TellsHeld (past_in state) was_held → is_given was_held l from n ≡ false)
      → HasGivenUp wrote states from journals (n ∷ []) states from journals
  passed stays journals none = record {
    states_are = refl;
    from_is = refl;
    count = refl;
    each = λ l state before after was_held at first last told.
        subst (λ (x : J). wrote before (map GivenUp (given_up was_held l from (n ∷ []))) x) (some_is (slice_get journals l) before after first last)
        (subst (λ (ns : List Notice). wrote before (map GivenUp ns) before) (sym (one_by n (is_given was_held l from n) (none l state was_held at told))) (stays before));
  }

  -- of an event that isn't before those that count
  pub late_passed : (stays : (s : J) → wrote s [] s) (journals : List J) → from ≤ n.event → HasGivenUp wrote states from journals (n ∷ []) states from journals
  late_passed stays journals late =
      passed stays journals (λ l state was_held at told.
      let is : nat_lt n.event from ≡ false = grind (arith, late) in
      and_none (n.lane.0 == l) (nat_lt n.event from && not (was_held n)) (none_and (nat_lt n.event from) (not (was_held n)) is))

  -- of a lane that there isn't
  pub none_passed : (stays : (s : J) → wrote s [] s) (journals : List J) → slice_get states n.lane.0 ≡ None → HasGivenUp wrote states from journals (n ∷ []) states from journals
  none_passed stays journals none =
      passed stays journals (λ l state was_held at told. none_and (n.lane.0 == l) (nat_lt n.event from && not (was_held n)) (other l state at (n.lane.0 == l) refl))
    where
      none_is_some : (state : LaneState) → None ≡ Some state → ⊥
      none_is_some state e = cc

      same_lane : (l : ℕ) → (n.lane.0 == l) ≡ true → n.lane.0 ≡ l
      same_lane l e = grind (arith, e)

      other : (l : ℕ) (state : LaneState) → slice_get states l ≡ Some state → (b : Bool) → (n.lane.0 == l) ≡ b → (n.lane.0 == l) ≡ false
      other l state at false e = e
      other l state at true e = absurd (none_is_some state (sym none ∙ ap (λ (k : ℕ). slice_get states k) (same_lane l e) ∙ at))

  -- one that was sent
  pub held_passed : (stays : (s : J) → wrote s [] s) (journals : List J) (state : LaneState) → slice_get states n.lane.0 ≡ Some state → IsHeld (past_in state) n
      → HasGivenUp wrote states from journals (n ∷ []) states from journals
  held_passed stays journals state here held =
      passed stays journals (λ l other was_held at told. by l other was_held at told (n.lane.0 == l) refl)
    where
      same_lane : (l : ℕ) → (n.lane.0 == l) ≡ true → n.lane.0 ≡ l
      same_lane l e = grind (arith, e)

      by : (l : ℕ) (other : LaneState) (was_held : Notice → Bool) → slice_get states l ≡ Some other → TellsHeld (past_in other) was_held
          → (b : Bool) → (n.lane.0 == l) ≡ b → is_given was_held l from n ≡ false
      by l other was_held at told false e = none_and (n.lane.0 == l) (nat_lt n.event from && not (was_held n)) e
      by l other was_held at told true e =
          let same : state ≡ other = some_is (slice_get states n.lane.0) state other here (ap (λ (k : ℕ). slice_get states k) (same_lane l e) ∙ at) in
          let is : was_held n ≡ true = (told n).1 (subst (λ (s : LaneState). IsHeld (past_in s) n) same held) in
          and_none (n.lane.0 == l) (nat_lt n.event from && not (was_held n)) (and_none (nat_lt n.event from) (not (was_held n)) (ap not is))

  -- one that wasn't, and is written to the journal of its lane
  pub written_given : (stays : (s : J) → wrote s [] s) (journals journals' : List J) (state : LaneState) → n.event < from → slice_get states n.lane.0 ≡ Some state → (IsHeld (past_in state) n → ⊥)
      → WritesAt wrote journals n.lane.0 (GivenUp n ∷ []) journals' → HasGivenUp wrote states from journals (n ∷ []) states from journals'
  written_given stays journals journals' state early here unsent writes = record {
    states_are = refl;
    from_is = refl;
    count = writes.count;
    each = λ l other before after was_held at first last told. by l other before after was_held at first last told (n.lane.0 == l) refl;
  }
    where
      same_lane : (l : ℕ) → (n.lane.0 == l) ≡ true → n.lane.0 ≡ l
      same_lane l e = grind (arith, e)

      not_there : (l : ℕ) → (n.lane.0 == l) ≡ false → l ≡ n.lane.0 → ⊥
      not_there l e is = true≢false (sym (eq-eqb n.lane.0 l (sym is)) ∙ e)

      not_held : (b : Bool) → (b ≡ true → ⊥) → not b ≡ true
      not_held true h = absurd (h refl)
      not_held false h = refl

      by : (l : ℕ) (other : LaneState) (before after : J) (was_held : Notice → Bool) → slice_get states l ≡ Some other → slice_get journals l ≡ Some before
          → slice_get journals' l ≡ Some after → TellsHeld (past_in other) was_held → (b : Bool) → (n.lane.0 == l) ≡ b
          → wrote before (map GivenUp (given_up was_held l from (n ∷ []))) after
      by l other before after was_held at first last told false e =
          let same : before ≡ after = some_is (slice_get journals l) before after first (sym (writes.others l (not_there l e)) ∙ last) in
          subst (λ (x : J). wrote before (map GivenUp (given_up was_held l from (n ∷ []))) x) same
          (subst (λ (ns : List Notice). wrote before (map GivenUp ns) before)
          (sym (one_by n (is_given was_held l from n) (none_and (n.lane.0 == l) (nat_lt n.event from && not (was_held n)) e))) (stays before))
      by l other before after was_held at first last told true e =
          let lane : n.lane.0 ≡ l = same_lane l e in
          let same : state ≡ other = some_is (slice_get states n.lane.0) state other here (ap (λ (k : ℕ). slice_get states k) lane ∙ at) in
          let new : was_held n ≡ true → ⊥ = λ is. unsent (subst (λ (s : LaneState). IsHeld (past_in s) n) (sym same) ((told n).0 is)) in
          let is : nat_lt n.event from ≡ true = grind (arith, early) in
          let given : is_given was_held l from n ≡ true =
          and_from (n.lane.0 == l) (nat_lt n.event from && not (was_held n)) e (and_from (nat_lt n.event from) (not (was_held n)) is (not_held (was_held n) new)) in
          subst (λ (ns : List Notice). wrote before (map GivenUp ns) after) (sym (one_is n (is_given was_held l from n) given))
          (writes.here before after (ap (λ (k : ℕ). slice_get journals k) lane ∙ first) (ap (λ (k : ℕ). slice_get journals' k) lane ∙ last))

-- ---- what is known of a lane

held_moved : (from : ℕ) (settled settled' begun begun' : List Notice) (n : Notice) → IsPermutation settled settled'
    → IsHeld (record { from = from; settled = settled; begun = begun }) n → IsHeld (record { from = from; settled = settled'; begun = begun' }) n
held_moved from settled settled' begun begun' n moved (inl early) = inl early
held_moved from settled settled' begun begun' n moved (inr among) = inr (Contains-permutation settled settled' n moved among)

-- what tells which were sent by what was read tells it by what is left
pub told_left : (read : LanePast) (state : LaneState) (was_held : Notice → Bool) → IsState read.from read.settled.items read.begun.items state
    → TellsHeld (past_read read) was_held → TellsHeld (past_in state) was_held
told_left read state was_held is told = λ n. (
  λ e. subst (λ (f : ℕ). IsHeld (record { from = f; settled = (past_in state).settled; begun = (past_in state).begun }) n) (sym is.from_is)
      (held_moved read.from read.settled.items (past_in state).settled read.begun.items (past_in state).begun n is.settled_are ((told n).0 e)),
  λ held. (told n).1 (held_moved read.from (past_in state).settled read.settled.items (past_in state).begun read.begun.items n
      (IsPermutation-sym read.settled.items (past_in state).settled is.settled_are)
      (subst (λ (f : ℕ). IsHeld (record { from = f; settled = (past_in state).settled; begun = (past_in state).begun }) n) is.from_is held)),
)

-- ---- lane by lane

-- no lane is begun
pub begun_none : {F J : Type 0} (knows : F → Config → LaneId → LanePast → Type 0) (begins : F → Config → LaneId → ℕ → J → Type 0) (journals : F) (c : Config) (from : ℕ)
    → AreBegun knows begins journals c from 0 [] []
begun_none {F} {J} knows begins journals c from = record {
  states_count = refl;
  begun_count = refl;
  each = both_none (λ (lane : LaneId) (state : LaneState) (journal : J). IsBegun (knows journals c lane) (begins journals c lane from) state journal);
}

-- one lane more
pub begun_more : {F J : Type 0} (knows : F → Config → LaneId → LanePast → Type 0) (begins : F → Config → LaneId → ℕ → J → Type 0) (journals : F) (c : Config) (from count : ℕ)
    (states states' : List LaneState) (begun begun' : List J) (state : LaneState) (journal : J) → AreBegun knows begins journals c from count states begun
    → states' ≡ states ++ state ∷ [] → begun' ≡ begun ++ journal ∷ []
    → ((read : LanePast) × knows journals c (record { 0 = count }) read × IsState read.from read.settled.items read.begun.items state)
    → begins journals c (record { 0 = count }) from journal
    → AreBegun knows begins journals c from (count + 1) states' begun'
begun_more {F} {J} knows begins journals c from count states states' begun begun' state journal h grown grown' left began = record {
  states_count = longer states states' state count h.states_count grown;
  begun_count = longer begun begun' journal count h.begun_count grown';
  each = both_more (λ (lane : LaneId) (s : LaneState) (j : J). IsBegun (knows journals c lane) (begins journals c lane from) s j) states states' begun begun' state journal count
      h.states_count h.begun_count grown grown' h.each (record { read = left.0; known = left.1; is = left.2; began = began });
}

-- all is given up, lane by lane
pub gives_up : {F J : Type 0} (knows : F → Config → LaneId → LanePast → Type 0) (begins : F → Config → LaneId → ℕ → J → Type 0) (replaced : F → Config → LaneId → Type 0)
    (wrote : J → List Entry → J → Type 0) (journals : F) (c : Config) (from : ℕ) (due : List Notice) (states : List LaneState) (begun after : List J)
    → AreBegun knows begins journals c from (min (length c.lanes) 256) states begun → HasGivenUp wrote states from begun due states from after
    → ((lane : LaneId) → lane.0 < min (length c.lanes) 256 → replaced journals c lane) → GivesUpAll knows begins replaced wrote journals c from due
gives_up {F} {J} knows begins replaced wrote journals c from due states begun after are given done = λ lane within.
    let many : length states ≡ min (length c.lanes) 256 = are.states_count in
    let many' : length begun ≡ min (length c.lanes) 256 = are.begun_count in
    let same : length after ≡ length begun = given.count in
    let state = there states lane.0 (subst (λ (n : ℕ). lane.0 < n) (sym many) within) in
    let first = there begun lane.0 (subst (λ (n : ℕ). lane.0 < n) (sym many') within) in
    let last = there after lane.0 (subst (λ (n : ℕ). lane.0 < n) (sym (same ∙ many')) within) in
    let is = are.each lane state.0 first.0 state.1 first.1 in
    record {
      read = is.read;
      known = is.known;
      before = first.0;
      began = is.began;
      after = last.0;
      wrote_all = λ was_held told. given.each lane.0 state.0 first.0 last.0 was_held state.1 first.1 last.1 (told_left is.read state.0 was_held is.is told);
      is_replaced = done lane within;
    }
