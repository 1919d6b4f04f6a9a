-- Periods that are worked out one after the other.
use Rattle.std.proofs.Common.{◌≡◌, ℕ, zero, suc, ◌+◌, ◌-◌, ◌<◌, ◌≤◌, Bool, false, not, ◌&&◌, List, length, get_or, set, slice_get, All, Contains, Option, Some, None, refl, sym, ap, subst, ◌∙◌, arith, ⊎_elim}
use Rattle.std.specs.List.{list_any}
use Rattle.std.proofs.lemmas.Bool.{cases_eq}
use Rattle.std.proofs.lemmas.List.{get_or-drop, get_or-set_same, get_or-set_other, get_or_default, length-drop, length-set}
use Rattle.std.proofs.lemmas.List.Elements.{All-contains}
use Rattle.std.proofs.lemmas.Option.{slice_get_within}
use Rattle.due_model.specs.declared.config.Config.{Config}
use Rattle.due_model.specs.declared.config.Period.{Period}
use Rattle.due_model.specs.declared.config.PeriodId.{PeriodId}
use Rattle.due_model.specs.claims.Accepted.{Excludes, IsAccepted, PeriodFits}
use Rattle.due_model.specs.claims.Local.{Local}
use Rattle.due_model.specs.claims.Periods.{holds, in_range, ranges_at}
use Rattle.lemmas.proofs.Lists.{any_alike, All-slice_get, slice_get_read}
use Rattle.time_period.specs.claims.Days.{AreCompiled, IsCompiled, never, Worked}
use Rattle.time_period.specs.Days.{IsRight, IsTable}
use Rattle.time_period.specs.Needs.{AreForward}
use Rattle.time_period.specs.claims.Steps.{Own}
use Rattle.time_period.specs.Steps.{nothing, own_at, truth}
use Rattle.time_period.proofs.DayLemmas.{found_at}
use Rattle.time_period.specs.Exclusions.{AreDone, AreReady, InOrder, IsSettled}

-- what the definition says of a period, where `inner` says which of the others hold
abbrev holds_if : (PeriodId → Bool) → Local → Option Period → Bool
holds_if inner time None = false
holds_if inner time (Some period) = list_any (in_range time.second) (ranges_at period time) && not (list_any inner period.excludes)

-- one depth more
deeper : (c : Config) (depth p : ℕ) (period : Period) (time : Local) → slice_get c.periods p ≡ Some period
    → holds (suc depth) c.periods p time ≡ holds_if (λ x. holds depth c.periods x.0 time) time (Some period)
deeper c depth p period time at = ap (holds_if (λ x. holds depth c.periods x.0 time) time) at

missing : (c : Config) (depth p : ℕ) (time : Local) → slice_get c.periods p ≡ None → holds (suc depth) c.periods p time ≡ false
missing c depth p time at = ap (holds_if (λ x. holds depth c.periods x.0 time) time) at

-- a number that no period has
pub no-period : (c : Config) (p : ℕ) (time : Local) → length c.periods ≤ p → truth c p time ≡ false
no-period c p time past = by_count (length c.periods) refl
  where
    by_count : (n : ℕ) → length c.periods ≡ n → truth c p time ≡ false
    by_count zero none = ap (λ (depth : ℕ). holds depth c.periods p time) none
    by_count (suc n) is = ap (λ (depth : ℕ). holds depth c.periods p time) is ∙ by_period (slice_get c.periods p) refl
      where
        by_period : (found : Option Period) → slice_get c.periods p ≡ found → holds (suc n) c.periods p time ≡ false
        by_period None at = missing c n p time at
        by_period (Some period) at = let within = slice_get_within c.periods p period at in absurd (omega (arith, within, past))

module _ (c : Config) (accepted : IsAccepted c) (order : List ℕ) (ordered : InOrder c order) (time : Local) where
  -- where a period that one at this place excludes stands
  after : (i : ℕ) (q : ℕ) → i < length order → Excludes c (get_or order i 0) q → q < length c.periods
      → (j : ℕ) × (i < j) × (j < length order) × (get_or order j 0 ≡ q)
  after i q within h known =
      let found : Contains order q = ordered.each q known in
      let is : get_or order found.0 0 ≡ q = get_or_default order found.0 0 q found.1 ∙ found.2 in
      (found.0, ordered.forward i found.0 within found.1 (subst (λ (m : ℕ). Excludes c (get_or order i 0) m) (sym is) h), found.1, is)

  known : (p : ℕ) (period : Period) → slice_get c.periods p ≡ Some period → (x : PeriodId) → Contains period.excludes x → x.0 < length c.periods
  known p period at x found = All-contains (λ (y : PeriodId). y.0 < length c.periods) period.excludes x (All-slice_get (PeriodFits c) c.periods p period accepted.periods at).excludes found

  -- a depth more makes no difference from where chains end
  settled : (k i : ℕ) → i < length order → length order ≤ k + i → holds k c.periods (get_or order i 0) time ≡ holds (suc k) c.periods (get_or order i 0) time
  settled zero i within deep = absurd (omega (arith, within, deep))
  settled (suc k) i within deep = by_period (λ j inside low. settled k j inside low) (slice_get c.periods (get_or order i 0)) refl
    where
      by_period : ((j : ℕ) → j < length order → length order ≤ k + j → holds k c.periods (get_or order j 0) time ≡ holds (suc k) c.periods (get_or order j 0) time)
          → (found : Option Period) → slice_get c.periods (get_or order i 0) ≡ found → holds (suc k) c.periods (get_or order i 0) time ≡ holds (suc (suc k)) c.periods (get_or order i 0) time
      by_period lower None at = missing c k (get_or order i 0) time at ∙ sym (missing c (suc k) (get_or order i 0) time at)
      by_period lower (Some period) at =
          deeper c k (get_or order i 0) period time at
          ∙ ap (λ b. list_any (in_range time.second) (ranges_at period time) && not b)
          (any_alike (λ (x : PeriodId). holds k c.periods x.0 time) (λ (x : PeriodId). holds (suc k) c.periods x.0 time) period.excludes
          (λ x found. one x (after i x.0 within (period, at, found) (known (get_or order i 0) period at x found))))
          ∙ sym (deeper c (suc k) (get_or order i 0) period time at)
        where
          one : (x : PeriodId) → ((j : ℕ) × (i < j) × (j < length order) × (get_or order j 0 ≡ x.0)) → holds k c.periods x.0 time ≡ holds (suc k) c.periods x.0 time
          one x (j, later, inside, is) = subst (λ (m : ℕ). holds k c.periods m time ≡ holds (suc k) c.periods m time) is (lower j inside (omega (arith, deep, later)))

  -- what the definition says of a period, it says by those that it excludes
  by-others : (p : ℕ) (period : Period) → slice_get c.periods p ≡ Some period
      → truth c p time ≡ (list_any (in_range time.second) (ranges_at period time) && not (list_any (λ excluded. truth c excluded.0 time) period.excludes))
  by-others p period at = by_count (length c.periods) refl
    where
      within : p < length c.periods
      within = slice_get_within c.periods p period at

      by_count : (n : ℕ) → length c.periods ≡ n
          → truth c p time ≡ (list_any (in_range time.second) (ranges_at period time) && not (list_any (λ excluded. truth c excluded.0 time) period.excludes))
      by_count zero none = absurd (omega (arith, within, none))
      by_count (suc n) is =
          ap (λ (depth : ℕ). holds depth c.periods p time) is
          ∙ deeper c n p period time at
          ∙ ap (λ b. list_any (in_range time.second) (ranges_at period time) && not b)
          (any_alike (λ (x : PeriodId). holds n c.periods x.0 time) (λ (x : PeriodId). truth c x.0 time) period.excludes
          (λ x found. one x found (ordered.each p within)))
        where
          one : (x : PeriodId) → Contains period.excludes x → Contains order p → holds n c.periods x.0 time ≡ truth c x.0 time
          one x found here =
              let mine : get_or order here.0 0 ≡ p = get_or_default order here.0 0 p here.1 ∙ here.2 in
              let place = after here.0 x.0 here.1 (subst (λ (m : ℕ). Excludes c m x.0) (sym mine) (period, at, found)) (known p period at x found) in
              let few = ordered.few in
              let later = place.1 in
              subst (λ (m : ℕ). holds n c.periods m time ≡ holds (suc n) c.periods m time) place.3 (settled n place.0 place.2 (omega (arith, few, is, later)))
              ∙ ap (λ (depth : ℕ). holds depth c.periods x.0 time) (sym is)

pub is-settled : (c : Config) (order : List ℕ) → IsAccepted c → InOrder c order → IsSettled c
is-settled c order accepted ordered p period time at = by-others c accepted order ordered time p period at

module _ (c : Config) (accepted : IsAccepted c) (order : List ℕ) (ordered : InOrder c order) (left : ℕ) (done : List Own) (now : AreDone c order left done) where
  -- a period that one at this place excludes is right already
  excluded_right : (place : ℕ) → place + 1 ≡ left → (q : ℕ) → Excludes c (get_or order place 0) q → q < length c.periods → IsRight c q (own_at done q)
  excluded_right place next q h known =
      let found : Contains order q = ordered.each q known in
      let is : get_or order found.0 0 ≡ q = get_or_default order found.0 0 q found.1 ∙ found.2 in
      let after : place < found.0 = ordered.forward place found.0 (omega (arith, next, now.start)) found.1 (subst (λ (m : ℕ). Excludes c (get_or order place 0) m) (sym is) h) in
      subst (λ (m : ℕ). IsRight c m (own_at done m)) is (now.right found.0 (omega (arith, after, next)) found.1)

  module _ (place : ℕ) (next : place + 1 ≡ left) (period : Period) (at : slice_get c.periods (get_or order place 0) ≡ Some period) (own : Own) where
    are_ready : AreReady c period done
    are_ready x found = excluded_right place next x.0 (period, at, found) (All-contains (λ (y : PeriodId). y.0 < length c.periods) period.excludes x (All-slice_get (PeriodFits c) c.periods (get_or order place 0) period accepted.periods at).excludes found)

    done_more : IsRight c (get_or order place 0) own → AreDone c order place (set done (get_or order place 0) own)
    done_more is = record {
      start = omega (arith, next, now.start);
      as_many = length-set done (get_or order place 0) own ∙ now.as_many;
      right = λ i low high. ⊎_elim
          (λ (same : get_or order i 0 ≡ get_or order place 0).
          subst (λ (m : ℕ). IsRight c m (own_at (set done (get_or order place 0) own) m)) (sym same)
          (subst (IsRight c (get_or order place 0)) (sym (get_or-set_same done (get_or order place 0) own nothing bound)) is))
          (λ (other : get_or order i 0 ≡ get_or order place 0 → ⊥).
          subst (IsRight c (get_or order i 0)) (sym (get_or-set_other done (get_or order place 0) (get_or order i 0) own nothing other)) (now.right i (later i low other) high))
          (cases_eq (get_or order i 0) (get_or order place 0));
    }
      where
        bound : get_or order place 0 < length done
        bound = omega (arith, now.as_many, slice_get_within c.periods (get_or order place 0) period at)

        later : (i : ℕ) → place ≤ i → (get_or order i 0 ≡ get_or order place 0 → ⊥) → left ≤ i
        later i low other = ⊎_elim
            (λ (same : i ≡ place). absurd (other (ap (λ (m : ℕ). get_or order m 0) same)))
            (λ (apart : i ≡ place → ⊥). omega (arith, low, apart, next))
            (cases_eq i place)

pub done_begin : (c : Config) (periods : List Period) (order : List ℕ) (left : ℕ) (done : List Own) → periods ≡ c.periods → length done ≡ length periods
    → left ≡ length order → AreDone c order left done
done_begin c periods order left done are same e = record {
  start = omega (arith, e);
  as_many = same ∙ ap (λ (ps : List Period). length ps) are;
  right = λ i low high. absurd (omega (arith, low, high, e));
}

-- the period whose turn it is
pub record HasTurn (c : Config) (order : List ℕ) (place number : ℕ) (period : Period) : Type 0 where
  pub number_is : number ≡ get_or order place 0
  pub at : slice_get c.periods (get_or order place 0) ≡ Some period
  pub fits : PeriodFits c period

pub has_turn : (c : Config) (periods : List Period) (order : List ℕ) (left number : ℕ) (period : Period) → IsAccepted c → InOrder c order → periods ≡ c.periods → left ≤ length order → 0 < left
    → number ≡ get_or order (left - 1) 0 → period ≡ get_or periods number period → HasTurn c order (left - 1) number period
has_turn c periods order left number period accepted ordered are start some is at =
    let place : left - 1 < length order = omega (arith, start, some) in
    let within : number < length c.periods = subst (λ (n : ℕ). n < length c.periods) (sym is) (ordered.within (left - 1) 0 place) in
    let found : slice_get c.periods number ≡ Some period = slice_get_read c.periods number period within (at ∙ ap (λ (ps : List Period). get_or ps number period) are) in
    record { number_is = is; at = subst (λ (n : ℕ). slice_get c.periods n ≡ Some period) is found; fits = All-slice_get (PeriodFits c) c.periods number period accepted.periods found }

pub turn_done : (c : Config) (order : List ℕ) (left number n : ℕ) (period : Period) (now done : List Own) (own : Own) → IsAccepted c → InOrder c order → AreDone c order left done
    → 0 < left → HasTurn c order (left - 1) number period → now ≡ done → n ≡ number
    → (IsSettled c → slice_get c.periods n ≡ Some period → AreReady c period now → IsRight c n own) → AreDone c order (left - 1) (set done number own)
turn_done c order left number n period now done own accepted ordered so_far some turn same numbered is =
    let here : n ≡ get_or order (left - 1) 0 = numbered ∙ turn.number_is in
    let next : left - 1 + 1 ≡ left = omega (arith, some) in
    let ready = are_ready c accepted order ordered left done so_far (left - 1) next period turn.at own in
    let right = is (is-settled c order accepted ordered) (subst (λ (m : ℕ). slice_get c.periods m ≡ Some period) (sym here) turn.at) (subst (AreReady c period) (sym same) ready) in
    subst (λ (m : ℕ). AreDone c order (left - 1) (set done m own)) (sym turn.number_is)
    (done_more c accepted order ordered left done so_far (left - 1) next period turn.at own (subst (λ (m : ℕ). IsRight c m own) here right))

pub turn_known : (c : Config) (period : Period) (now done : List Own) → PeriodFits c period → length done ≡ length c.periods → now ≡ done
    → All (λ excluded. excluded.0 < length now) period.excludes
turn_known c period now done fits as_many same k d within = omega (arith, fits.excludes k d within, as_many, ap (λ (table : List Own). length table) same)

pub done_all : (c : Config) (order : List ℕ) (left : ℕ) (done : List Own) → InOrder c order → AreDone c order left done → left ≤ 0 → IsTable c done
done_all c order left done ordered now none = record {
  as_many = now.as_many;
  right = λ p known.
      let found : Contains order p = ordered.each p known in
      let is : get_or order found.0 0 ≡ p = get_or_default order found.0 0 p found.1 ∙ found.2 in
      subst (λ (m : ℕ). IsRight c m (own_at done m)) is (now.right found.0 (omega (arith, none)) found.1);
}

-- each period of the order stands before those that it excludes
pub forward : (c : Config) (table : List Own) (order : List ℕ) → IsAccepted c → InOrder c order → IsTable c table → AreForward table order
forward c table order accepted ordered are i x within found =
    let here : get_or order i 0 < length c.periods = ordered.within i 0 within in
    let excludes : Excludes c (get_or order i 0) x.0 = (are.right (get_or order i 0) here).excludes x found in
    let fits : PeriodFits c excludes.0 = All-slice_get (PeriodFits c) c.periods (get_or order i 0) excludes.0 accepted.periods excludes.1 in
    let known : x.0 < length c.periods = All-contains (λ (y : PeriodId). y.0 < length c.periods) excludes.0.excludes x fits.excludes excludes.2 in
    let there : Contains order x.0 = ordered.each x.0 known in
    let is : get_or order there.0 0 ≡ x.0 = get_or_default order there.0 0 x.0 there.1 ∙ there.2 in
    let later : i < there.0 = ordered.forward i there.0 within there.1 (subst (λ (m : ℕ). Excludes c (get_or order i 0) m) (sym is) excludes) in
    let low = there.1 in
    let place : i + 1 + (there.0 - (i + 1)) ≡ there.0 = omega (arith, later) in
    (there.0 - (i + 1), omega (arith, length-drop (i + 1) order, later, low), get_or-drop (i + 1) order (there.0 - (i + 1)) x.0 ∙ ap (λ (m : ℕ). get_or order m x.0) place ∙ there.2)

-- what the place of a period holds
pub its_own : (c : Config) (all : List Worked) (p : PeriodId) (worked : Worked) → AreCompiled c all → p.0 < length c.periods → worked ≡ get_or all p.0 worked → IsCompiled c p worked
its_own c all p worked are known is =
    subst (IsCompiled c p) (sym (found_at all p.0 worked never (omega (arith, known, are.0)) is)) (are.1 p known)
