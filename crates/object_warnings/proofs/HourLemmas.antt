-- Minutes of a week, one by one.
use Rattle.std.proofs.Common.{◌≡◌, ℕ, zero, suc, ◌+◌, ◌-◌, ◌<◌, ◌≤◌, ◌⊎◌, Bool, true, false, not, cond, ◌&&◌, List, [], ◌∷◌, ◌++◌, length, map, set, get_or, Option, Some, None, refl, sym, ap, subst, eqb, eqb-true, inl, inr, ◌∙◌, arith}
use Rattle.std.specs.Prelude.{slice_get}
use Rattle.std.specs.List.{list_any, range_with_len}
use Rattle.std.specs.Option.{option_map_or}
use Rattle.std.proofs.lemmas.Bool.{cases_eq, cases_lt, eqb-false, false≢true}
use Rattle.std.proofs.Math.Seq.{get_or-append_seam}
use Rattle.std.proofs.lemmas.List.{get_or-map, get_or_append_left, length-set, map-append}
use Rattle.std.proofs.lemmas.List.FromFn.{get_or-map-range_with_len, length-map-range_with_len, map-range_with_len_more}
use Rattle.lemmas.proofs.Lists.{slice_get_read}
use Rattle.lemmas.proofs.Writes.{at_set}
use Rattle.due_model.specs.claims.Periods.{holds, in_period, in_range, ranges_at}
use Rattle.due_model.specs.claims.Local.{Local}
use Rattle.due_model.specs.declared.config.Config.{Config}
use Rattle.due_model.specs.declared.config.Object.{Object}
use Rattle.due_model.specs.declared.config.Period.{Period}
use Rattle.due_model.specs.declared.config.PeriodId.{PeriodId}
use Rattle.due_model.specs.declared.zone.Zone.TheVariants.{Utc}
use Rattle.object_warnings.specs.Hours.{AreEnds, IsFirst, IsFirstSpan, Stays, flag, flags_at, gap_by, holds_at, is_covered, is_gap, lacks_hours, moment_of, row_at, rows_of, rows_upto, week, weekly}
use Rattle.object_warnings.specs.Objects.{can_notify, is_told}
use Rattle.object_warnings.specs.declared.hours.Span.{Span}

-- one more of a list that is worked out
pub row-more : {X : Type 0} (f : ℕ → X) (n : ℕ) (old new : List X) (x : X) → old ≡ map f (range_with_len 0 n) → new ≡ old ++ x ∷ [] → x ≡ f n
    → new ≡ map f (range_with_len 0 (n + 1))
row-more {X} f n old new x before more is =
    more ∙ ap (λ (xs : List X). xs ++ x ∷ []) before ∙ ap (λ (y : X). map f (range_with_len 0 n) ++ y ∷ []) is
    ∙ sym (map-range_with_len_more f 0 n n (omega arith))

-- ---- the ends

-- at the end of the week there is none
pub ends-none : (rows : List (List Bool)) (ends : List ℕ) → length ends ≡ week → AreEnds rows week ends
ends-none rows ends long = record { as_many = long; each = λ minute low high. absurd (omega (arith, low, high)) }

-- one minute less, whose end is known
pub ends-less : (rows : List (List Bool)) (minute end : ℕ) (ends : List ℕ) → minute < week → AreEnds rows (minute + 1) ends → Stays rows minute end
    → AreEnds rows minute (set ends minute end)
ends-less rows minute end ends within are stays = record {
  as_many = let same = length-set ends minute end in same ∙ are.as_many;
  each = λ at first last. subst (Stays rows at) (sym (at_set ends minute at end 0 (let long = are.as_many in omega (arith, long, within))))
      (either at first last (eqb minute at) refl);
}
  where
    either : (at : ℕ) → minute ≤ at → at < week → (b : Bool) → eqb minute at ≡ b → Stays rows at (cond b end (get_or ends at 0))
    either at first last true equal = subst (λ (k : ℕ). Stays rows k end) (eqb-true minute at equal) stays
    either at first last false other = are.each at (let apart = eqb-false minute at other in omega (arith, apart, first)) last

-- the next minute begins something else
pub stays-alone : (rows : List (List Bool)) (minute : ℕ) → minute < week → Stays rows minute (minute + 1)
stays-alone rows minute within = record {
  later = omega arith;
  within = omega (arith, within);
  same = λ k low high. ap (row_at rows) (let is : k ≡ minute = omega (arith, low, high) in is);
}

-- the next minute goes on
pub stays-on : (rows : List (List Bool)) (minute end : ℕ) → row_at rows minute ≡ row_at rows (minute + 1) → Stays rows (minute + 1) end → Stays rows minute end
stays-on rows minute end same stays = record {
  later = let later = stays.later in omega (arith, later);
  within = stays.within;
  same = λ k low high. either k low high (cases_eq minute k);
}
  where
    either : (k : ℕ) → minute ≤ k → k < end → (minute ≡ k) ⊎ (minute ≡ k → ⊥) → row_at rows k ≡ row_at rows minute
    either k low high (inl is) = ap (row_at rows) (sym is)
    either k low high (inr other) = stays.same k (omega (arith, low, other)) high ∙ sym same

-- the next minute has an end, and the same flags
pub stays-next : (rows : List (List Bool)) (ends : List ℕ) (minute end : ℕ) → AreEnds rows (minute + 1) ends → minute + 1 < week → end ≡ get_or ends (minute + 1) 0
    → row_at rows minute ≡ row_at rows (minute + 1) → Stays rows minute end
stays-next rows ends minute end are within is same =
    stays-on rows minute end same (subst (Stays rows (minute + 1)) (sym is) (are.each (minute + 1) (omega arith) within))

-- two rows with the same flags
pub rows-same : {C : Type 0} (items : C → List Bool) (rows : List C) (i j : ℕ) (x y : C) (one other : List Bool) → i < length rows → j < length rows → x ≡ get_or rows i x → y ≡ get_or rows j y
    → one ≡ items x → other ≡ items y → one ≡ other → row_at (map items rows) i ≡ row_at (map items rows) j
rows-same items rows i j x y one other low high is_x is_y one_is other_is same =
    get_or-map items rows i x [] low ∙ sym (ap items is_x) ∙ sym one_is ∙ same ∙ other_is ∙ ap items is_y ∙ sym (get_or-map items rows j y [] high)

-- ---- minutes from one on

pub as-wanted : (so wanted result : Bool) → result ≡ cond wanted so (not so) → result ≡ true → so ≡ wanted
as-wanted true true result is told = refl
as-wanted false false result is told = refl
as-wanted true false result is told = absurd (false≢true (sym is ∙ told))
as-wanted false true result is told = absurd (false≢true (sym is ∙ told))

pub as-unwanted : (so wanted result : Bool) → result ≡ cond wanted so (not so) → result ≡ false → so ≡ not wanted
as-unwanted true false result is told = refl
as-unwanted false true result is told = refl
as-unwanted true true result is told = absurd (false≢true (sym told ∙ is))
as-unwanted false false result is told = absurd (false≢true (sym told ∙ is))

-- up to the end of what stays
pub minutes-more : (gap : List Bool → Bool) (rows : List (List Bool)) (from minute end : ℕ) (b : Bool) → ((k : ℕ) → from ≤ k → k < minute → gap (row_at rows k) ≡ b)
    → gap (row_at rows minute) ≡ b → Stays rows minute end → (k : ℕ) → from ≤ k → k < end → gap (row_at rows k) ≡ b
minutes-more gap rows from minute end b before here stays k low high = either (cases_lt k minute)
  where
    either : (k < minute) ⊎ (minute ≤ k) → gap (row_at rows k) ≡ b
    either (inl less) = before k low less
    either (inr more) = ap gap (stays.same k more high) ∙ here

-- ---- which periods hold

-- a period by the flags of a minute is one by the definition
past-get : {X : Type 0} (xs : List X) (i : ℕ) → length xs ≤ i → slice_get xs i ≡ None
past-get [] i long = refl
past-get (x ∷ xs) zero long = absurd (omega (arith, long))
past-get (x ∷ xs) (suc i) long = past-get xs i (omega (arith, long))

pub past-or : {X : Type 0} (xs : List X) (i : ℕ) (d : X) → length xs ≤ i → get_or xs i d ≡ d
past-or [] i d long = refl
past-or (x ∷ xs) zero d long = absurd (omega (arith, long))
past-or (x ∷ xs) (suc i) d long = past-or xs i d (omega (arith, long))

-- a number that no period has never holds
holds-past : (depth : ℕ) (periods : List Period) (number : ℕ) (time : Local) → length periods ≤ number → holds depth periods number time ≡ false
holds-past zero periods number time long = refl
holds-past (suc depth) periods number time long =
    ap (λ (found : Option Period). elim found as (λ _. Bool) [
      | None ↦ false
      | Some period ↦ list_any (in_range time.second) (ranges_at period time)
          && not (list_any (λ excluded. holds depth periods excluded.0 time) period.excludes)
    ]) (past-get periods number long)

abbrev flag_of : Config → ℕ → ℕ → Bool
flag_of w minute number = in_period w Utc (Some (record { 0 = number })) (moment_of minute)

flag-some : (w : Config) (minute : ℕ) (period : PeriodId) → flag (flags_at w minute) (Some period) ≡ in_period w Utc (Some period) (moment_of minute)
flag-some w minute period = elim (cases_lt period.0 (length w.periods)) [
  | inl within ↦ get_or-map-range_with_len (flag_of w minute) 0 (length w.periods) period.0 period.0 false within (omega arith)
  | inr long ↦ past-or (flags_at w minute) period.0 false (let as_many = length-map-range (length w.periods) in omega (arith, as_many, long))
      ∙ sym (holds-past (length w.periods) w.periods period.0 _ (omega (arith, long)))
]
  where
    length-map-range : (n : ℕ) → length (map (flag_of w minute) (range_with_len 0 n)) ≡ n
    length-map-range n = length-map-range_with_len (flag_of w minute) 0 n

flag-is : (w : Config) (minute : ℕ) (period : Option PeriodId) → flag (flags_at w minute) period ≡ in_period w Utc period (moment_of minute)
flag-is w minute None = refl
flag-is w minute (Some period) = flag-some w minute period

row-upto : (w : Config) (count minute : ℕ) → minute < count → row_at (rows_upto w count) minute ≡ flags_at w minute
unfolding rows_upto
row-upto w count minute within = get_or-map-range_with_len (flags_at w) 0 count minute minute [] within (omega arith)

-- the same by the rows of all minutes
pub row-is : (c : Config) (minute : ℕ) (period : Option PeriodId) → minute < week → flag (row_at (rows_of (weekly c)) minute) period ≡ holds_at c minute period
row-is c minute period within =
    ap (λ (flags : List Bool). flag flags period) (row-upto (weekly c) week minute within) ∙ flag-is (weekly c) minute period

-- the row before
pub last-is : {C : Type 0} (items : C → List Bool) (w : Config) (n : ℕ) (rows slice : List C) → slice ≡ rows → 0 < n → map items rows ≡ rows_upto w n
    → row_at (map items slice) (n - 1) ≡ flags_at w (n - 1)
last-is {C} items w n rows slice are some is =
    ap (λ (all : List C). row_at (map items all) (n - 1)) are ∙ ap (λ (all : List (List Bool)). row_at all (n - 1)) is ∙ row-upto w n (n - 1) (omega (arith, some))

pub rows-none : (w : Config) → [] ≡ rows_upto w 0
unfolding rows_upto
rows-none w = refl

-- one row more
pub rows-more : {C : Type 0} (items : C → List Bool) (w : Config) (n : ℕ) (old new : List C) (row : C) → map items old ≡ rows_upto w n → new ≡ old ++ row ∷ []
    → items row ≡ flags_at w n → map items new ≡ rows_upto w (n + 1)
unfolding rows_upto
rows-more items w n old new row before more is =
    row-more (flags_at w) n (map items old) (map items new) (items row) before (ap (map items) more ∙ map-append items old (row ∷ [])) is

-- ---- the first span

module _ (f g : ℕ → Bool) (same : (minute : ℕ) → minute < week → f minute ≡ g minute) where
  span-same : (span : Span) → IsFirstSpan f span → IsFirstSpan g span
  span-same span is = record {
    some = is.some;
    within = is.within;
    before = λ minute low. sym (same minute (let some = is.some in let high = is.within in omega (arith, low, some, high))) ∙ is.before minute low;
    each = λ minute low high. sym (same minute (let most = is.within in omega (arith, high, most))) ∙ is.each minute low high;
    whole = λ within. sym (same span.end within) ∙ is.whole within;
  }

  pub first-same : (span : Option Span) → IsFirst f span → IsFirst g span
  first-same None is = record { told = tt; untold = λ minute within. sym (same minute within) ∙ is.untold minute within }
  first-same (Some span) is = record { told = span-same span is.told; untold = tt }

-- where it can't be
pub first-none : (f : ℕ → Bool) → ((minute : ℕ) → minute < week → f minute ≡ false) → IsFirst f None
first-none f none = record { told = tt; untold = none }

pub first-some : (f : ℕ → Bool) (start end : ℕ) → start < week → start ≤ end → end ≤ week → ((minute : ℕ) → 0 ≤ minute → minute < start → f minute ≡ false) → f start ≡ true
    → ((minute : ℕ) → start ≤ minute → minute < end → f minute ≡ true) → (end < week → f end ≡ false) → IsFirst f (Some (record { start = start; end = end }))
first-some f start end begins low high before here each whole = record {
  told = record {
    some = either (cases_eq start end);
    within = high;
    before = λ minute under. before minute (omega arith) under;
    each = each;
    whole = whole;
  };
  untold = tt;
}
  where
    either : (start ≡ end) ⊎ (start ≡ end → ⊥) → start < end
    either (inl is) = absurd (false≢true (sym (whole (omega (arith, begins, is))) ∙ sym (ap f is) ∙ here))
    either (inr other) = omega (arith, low, other)

-- an object in its configuration
pub at-object : (c : Config) (o : ℕ) (object : Object) (minute : ℕ) → slice_get c.objects o ≡ Some object → minute < week
    → ((can_notify object && is_told c o object) && is_gap c (flag (row_at (rows_of (weekly c)) minute)) o object) ≡ lacks_hours c o minute
at-object c o object minute here within =
    ap (λ (holds : Option PeriodId → Bool). (can_notify object && is_told c o object) && is_gap c holds o object)
    (λ i period. row-is c minute period within i)
    ∙ sym (ap (λ (found : Option Object). option_map_or (λ one. (can_notify one && is_told c o one) && is_gap c (holds_at c minute) o one) found false) here)

-- the first span of the object of that number
pub first-at-object : (c : Config) (n id : ℕ) (object : Object) (objects : List Object) (rows : List (List Bool)) (asked : Bool) (span : Option Span) → id ≡ n → objects ≡ c.objects
    → n < length c.objects → object ≡ get_or objects n object → rows ≡ rows_of (weekly c) → asked ≡ (can_notify object && is_told c id object)
    → IsFirst (λ minute. asked && is_gap c (flag (row_at rows minute)) id object) span → IsFirst (lacks_hours c n) span
first-at-object c n id object objects rows asked span id_is objects_are within is rows_are asked_is first =
    let here : slice_get c.objects n ≡ Some object = slice_get_read c.objects n object within (is ∙ ap (λ (xs : List Object). get_or xs n object) objects_are) in
    first-same (λ minute. asked && is_gap c (flag (row_at rows minute)) id object) (lacks_hours c n)
    (λ minute in_week.
    ap (λ (b : Bool). b && is_gap c (flag (row_at rows minute)) id object) asked_is
    ∙ ap (λ (all : List (List Bool)). (can_notify object && is_told c id object) && is_gap c (flag (row_at all minute)) id object) rows_are
    ∙ ap (λ (k : ℕ). (can_notify object && is_told c k object) && is_gap c (flag (row_at (rows_of (weekly c)) minute)) k object) id_is
    ∙ at-object c n object minute here in_week) span first

-- one that tells somebody has the first span of its hours
pub first-of-told : (c : Config) (n id : ℕ) (object : Object) (objects : List Object) (rows : List (List Bool)) (hours : List (Option PeriodId)) (span : Option Span) → id ≡ n → objects ≡ c.objects
    → n < length c.objects → object ≡ get_or objects n object → rows ≡ rows_of (weekly c) → true ≡ (can_notify object && is_told c id object)
    → ((holds : Option PeriodId → Bool) → list_any holds hours ≡ is_covered c holds id object)
    → IsFirst (λ minute. gap_by (row_at rows minute) object.period hours) span → IsFirst (lacks_hours c n) span
first-of-told c n id object objects rows hours span id_is objects_are within is rows_are told cover first =
    first-at-object c n id object objects rows true span id_is objects_are within is rows_are told
    (first-same (λ minute. gap_by (row_at rows minute) object.period hours) (λ minute. true && is_gap c (flag (row_at rows minute)) id object)
    (λ minute in_week. ap (λ (b : Bool). flag (row_at rows minute) object.period && not b) (cover (flag (row_at rows minute)))) span first)

-- one that doesn't has none
pub first-of-untold : (c : Config) (n id : ℕ) (object : Object) (objects : List Object) → id ≡ n → objects ≡ c.objects → n < length c.objects → object ≡ get_or objects n object
    → false ≡ (can_notify object && is_told c id object) → IsFirst (lacks_hours c n) None
first-of-untold c n id object objects id_is objects_are within is untold =
    first-at-object c n id object objects (rows_of (weekly c)) false None id_is objects_are within is refl untold (first-none _ (λ minute in_week. refl))

-- one span more
pub spans-more : (c : Config) (n : ℕ) (old new : List (Option Span)) (span : Option Span) → length old ≡ n
    → ((o : ℕ) → o < n → IsFirst (lacks_hours c o) (get_or old o None)) → new ≡ old ++ span ∷ [] → IsFirst (lacks_hours c n) span
    → (o : ℕ) → o < n + 1 → IsFirst (lacks_hours c o) (get_or new o None)
spans-more c n old new span long before more is o within =
    subst (λ (all : List (Option Span)). IsFirst (lacks_hours c o) (get_or all o None)) (sym more) (either (cases_lt o n))
  where
    either : (o < n) ⊎ (n ≤ o) → IsFirst (lacks_hours c o) (get_or (old ++ span ∷ []) o None)
    either (inl low) = subst (λ (found : Option Span). IsFirst (lacks_hours c o) found) (sym (get_or_append_left old (span ∷ []) None o (omega (arith, low, long)))) (before o low)
    either (inr high) =
        let same : o ≡ n = omega (arith, high, within) in
        let at : o ≡ length old = omega (arith, same, long) in
        subst (λ (found : Option Span). IsFirst (lacks_hours c o) found) (sym (ap (λ (k : ℕ). get_or (old ++ span ∷ []) k None) at ∙ get_or-append_seam old span [] None))
        (subst (λ (k : ℕ). IsFirst (lacks_hours c k) span) (sym same) is)

-- ---- the days of a period

pub seven : {X : Type 0} (days : List X) (d x0 x1 x2 x3 x4 x5 x6 : X) → length days ≡ 7 → x0 ≡ get_or days 0 d → x1 ≡ get_or days 1 d → x2 ≡ get_or days 2 d → x3 ≡ get_or days 3 d
    → x4 ≡ get_or days 4 d → x5 ≡ get_or days 5 d → x6 ≡ get_or days 6 d → x0 ∷ x1 ∷ x2 ∷ x3 ∷ x4 ∷ x5 ∷ x6 ∷ [] ≡ days
seven (d0 ∷ d1 ∷ d2 ∷ d3 ∷ d4 ∷ d5 ∷ d6 ∷ []) d x0 x1 x2 x3 x4 x5 x6 long e0 e1 e2 e3 e4 e5 e6 = λ i. e0 i ∷ e1 i ∷ e2 i ∷ e3 i ∷ e4 i ∷ e5 i ∷ e6 i ∷ []
seven days d x0 x1 x2 x3 x4 x5 x6 long e0 e1 e2 e3 e4 e5 e6 = absurd (omega (arith, long))
