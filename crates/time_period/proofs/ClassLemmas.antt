-- What a period's own lines give on a local day, by the class that decides.
use Rattle.std.proofs.Common.{◌≡◌, ℕ, ◌<◌, ◌≤◌, Bool, true, false, not, cond, List, [], ◌∷◌, ◌++◌, nat_lt, refl, sym, ap, ap₂, subst, ◌∙◌, ◌⊎◌, inl, inr, arith, tests}
use Rattle.std.specs.Prelude.{Contains, filter, flat_map, ◌&&◌, ◌||◌, ◌==◌}
use Rattle.std.specs.List.{list_any}
use Rattle.std.proofs.Math.Path.{fun_ext}
use Rattle.std.proofs.lemmas.Bool.{false≢true}
use Rattle.std.proofs.lemmas.List.Elements.{Contains-append_cases}
use Rattle.due_model.specs.declared.config.Dated.{Dated}
use Rattle.due_model.specs.declared.config.DayRule.{DayRule}
use Rattle.due_model.specs.declared.config.DayRule.TheVariants.{Date, OfMonth, OfEachMonth, WeekdayOfMonth, WeekdayOfEachMonth}
use Rattle.due_model.specs.declared.config.Range.{Range}
use Rattle.due_model.specs.claims.Days.{class_of, decided, decides, lines_on, names_day, ranges_by, ranges_on}
use Rattle.due_model.specs.claims.Local.{Local}
use Rattle.due_model.specs.claims.Periods.{in_range}
use Rattle.time_period.specs.Classes.{IsLeast}
use Rattle.lemmas.proofs.Elements.{Contains-cases, Contains-here, Contains-later, Contains-none}

-- ---- some element that passes

any-filter : {X : Type 0} (p q : X → Bool) (xs : List X) → list_any q (filter p xs) ≡ list_any (λ x. p x && q x) xs
any-filter p q [] = refl
any-filter p q (x ∷ xs) = by_head (p x) refl (any-filter p q xs)
  where
    by_head : (b : Bool) → p x ≡ b → list_any q (filter p xs) ≡ list_any (λ x. p x && q x) xs → list_any q (cond b (x ∷ filter p xs) (filter p xs)) ≡ ((b && q x) || list_any (λ x. p x && q x) xs)
    by_head true is rest = ap (λ b. q x || b) rest
    by_head false is rest = rest

any-append : {X : Type 0} (q : X → Bool) (xs ys : List X) → list_any q (xs ++ ys) ≡ (list_any q xs || list_any q ys)
any-append q [] ys = refl
any-append q (x ∷ xs) ys = ap (λ b. q x || b) (any-append q xs ys) ∙ or-assoc (q x) (list_any q xs) (list_any q ys)
  where
    or-assoc : (a b c : Bool) → (a || (b || c)) ≡ ((a || b) || c)
    or-assoc true b c = refl
    or-assoc false b c = refl

any-flat : {X Y : Type 0} (f : X → List Y) (q : Y → Bool) (xs : List X) → list_any q (flat_map f xs) ≡ list_any (λ x. list_any q (f x)) xs
any-flat f q [] = refl
any-flat f q (x ∷ xs) = any-append q (f x) (flat_map f xs) ∙ ap (λ b. list_any q (f x) || b) (any-flat f q xs)

pub any-alike : {X : Type 0} (p q : X → Bool) (xs : List X) → ((x : X) → Contains xs x → p x ≡ q x) → list_any p xs ≡ list_any q xs
any-alike p q [] same = refl
any-alike p q (x ∷ xs) same = ap₂ (λ a b. a || b) (same x (Contains-here x xs)) (any-alike p q xs (λ y at. same y (Contains-later x y xs at)))

any-at : {X : Type 0} (p : X → Bool) (xs : List X) (x : X) → Contains xs x → p x ≡ true → list_any p xs ≡ true
any-at p [] x at is = absurd (Contains-none x at)
any-at {X} p (y ∷ ys) x at is = by_head (p y) refl (Contains-cases y x ys at) (λ later. any-at p ys x later is)
  where
    by_head : (b : Bool) → p y ≡ b → (y ≡ x) ⊎ Contains ys x → (Contains ys x → list_any p ys ≡ true) → (b || list_any p ys) ≡ true
    by_head true passes either more = refl
    by_head false fails (inl here) more = absurd (false≢true (sym fails ∙ ap p here ∙ is))
    by_head false fails (inr later) more = more later

pub any-none : {X : Type 0} (p : X → Bool) (xs : List X) → ((x : X) → Contains xs x → p x ≡ false) → list_any p xs ≡ false
any-none p [] fails = refl
any-none p (x ∷ xs) fails = ap₂ (λ a b. a || b) (fails x (Contains-here x xs)) (any-none p xs (λ y at. fails y (Contains-later x y xs at)))

filter-in : {X : Type 0} (p : X → Bool) (xs : List X) (x : X) → Contains (filter p xs) x → Contains xs x × (p x ≡ true)
filter-in p [] x at = absurd (Contains-none x at)
filter-in {X} p (y ∷ ys) x at = by_head (p y) refl at (filter-in p ys x)
  where
    by_head : (b : Bool) → p y ≡ b → Contains (cond b (y ∷ filter p ys) (filter p ys)) x → (Contains (filter p ys) x → Contains ys x × (p x ≡ true)) → Contains (y ∷ ys) x × (p x ≡ true)
    by_head true is on rest = by_case (Contains-cases y x (filter p ys) on)
      where
        by_case : (y ≡ x) ⊎ Contains (filter p ys) x → Contains (y ∷ ys) x × (p x ≡ true)
        by_case (inl here) = (subst (λ (z : X). Contains (y ∷ ys) z) here (Contains-here y ys), ap p (sym here) ∙ is)
        by_case (inr later) = let more = rest later in (Contains-later y x ys more.0, more.1)
    by_head false is on rest = let more = rest on in (Contains-later y x ys more.0, more.1)

filter-on : {X : Type 0} (p : X → Bool) (xs : List X) (x : X) → Contains xs x → p x ≡ true → Contains (filter p xs) x
filter-on p [] x at is = absurd (Contains-none x at)
filter-on {X} p (y ∷ ys) x at is = by_case (Contains-cases y x ys at) (λ later. filter-on p ys x later is)
  where
    by_case : (y ≡ x) ⊎ Contains ys x → (Contains ys x → Contains (filter p ys) x) → Contains (filter p (y ∷ ys)) x
    by_case (inl here) more = subst (λ b. Contains (cond b (y ∷ filter p ys) (filter p ys)) x) (sym (ap p here ∙ is)) (subst (λ (z : X). Contains (y ∷ filter p ys) z) here (Contains-here y (filter p ys)))
    by_case (inr later) more = by_head (p y) refl (more later)
      where
        by_head : (b : Bool) → p y ≡ b → Contains (filter p ys) x → Contains (filter p (y ∷ ys)) x
        by_head true one rest = subst (λ c. Contains (cond c (y ∷ filter p ys) (filter p ys)) x) (sym one) (Contains-later y x (filter p ys) rest)
        by_head false one rest = subst (λ c. Contains (cond c (y ∷ filter p ys) (filter p ys)) x) (sym one) rest

-- ---- the least class of the lines that pass

pub class-within : (rule : DayRule) → class_of rule < 6
class-within (Date year month day) = omega arith
class-within (OfMonth month day) = omega arith
class-within (OfEachMonth day) = omega arith
class-within (WeekdayOfMonth weekday n month) = omega arith
class-within (WeekdayOfEachMonth weekday n) = omega arith

pub least-none : (passes : Dated → Bool) → IsLeast passes [] 6
least-none passes = record { low = λ line at is. absurd (Contains-none line at); is = inl refl }

on-append : (xs : List Dated) (y x : Dated) → Contains (xs ++ y ∷ []) x → Contains xs x ⊎ (y ≡ x)
on-append xs y x at = by_case (Contains-append_cases xs (y ∷ []) x at)
  where
    by_case : Contains xs x ⊎ Contains (y ∷ []) x → Contains xs x ⊎ (y ≡ x)
    by_case (inl early) = inl early
    by_case (inr late) = by_last (Contains-cases y x [] late)
      where
        by_last : (y ≡ x) ⊎ Contains [] x → Contains xs x ⊎ (y ≡ x)
        by_last (inl here) = inr here
        by_last (inr none) = absurd (Contains-none x none)

append-early : (xs : List Dated) (y x : Dated) → Contains xs x → Contains (xs ++ y ∷ []) x
append-early [] y x at = absurd (Contains-none x at)
append-early (z ∷ zs) y x at = by_case (Contains-cases z x zs at) (λ later. append-early zs y x later)
  where
    by_case : (z ≡ x) ⊎ Contains zs x → (Contains zs x → Contains (zs ++ y ∷ []) x) → Contains (z ∷ (zs ++ y ∷ [])) x
    by_case (inl here) more = subst (λ (w : Dated). Contains (z ∷ (zs ++ y ∷ [])) w) here (Contains-here z (zs ++ y ∷ []))
    by_case (inr later) more = Contains-later z x (zs ++ y ∷ []) (more later)

append-last : (xs : List Dated) (y : Dated) → Contains (xs ++ y ∷ []) y
append-last [] y = Contains-here y []
append-last (z ∷ zs) y = Contains-later z y (zs ++ y ∷ []) (append-last zs y)

module _ (passes : Dated → Bool) (lines : List Dated) (class : ℕ) (line : Dated) (least : IsLeast passes lines class) where
  -- a line of a lower class that passes
  pub least-new : class_of line.day < class → passes line ≡ true → IsLeast passes (lines ++ line ∷ []) (class_of line.day)
  least-new lower is = record { low = low; is = inr (line, append-last lines line, is, refl) }
    where
      low : (other : Dated) → Contains (lines ++ line ∷ []) other → passes other ≡ true → class_of line.day ≤ class_of other.day
      low other at passing = by_case (on-append lines line other at)
        where
          by_case : Contains lines other ⊎ (line ≡ other) → class_of line.day ≤ class_of other.day
          by_case (inl early) = omega (arith, lower, least.low other early passing)
          by_case (inr here) = let same = ap (λ (l : Dated). class_of l.day) here in omega (arith, same)

  -- a line of no lower class, or one that doesn't pass
  pub least-kept : (passes line ≡ true → class ≤ class_of line.day) → IsLeast passes (lines ++ line ∷ []) class
  least-kept no_lower = record { low = low; is = by_is least.is }
    where
      low : (other : Dated) → Contains (lines ++ line ∷ []) other → passes other ≡ true → class ≤ class_of other.day
      low other at passing = by_case (on-append lines line other at)
        where
          by_case : Contains lines other ⊎ (line ≡ other) → class ≤ class_of other.day
          by_case (inl early) = least.low other early passing
          by_case (inr here) = subst (λ (l : Dated). class ≤ class_of l.day) here (no_lower (ap passes here ∙ passing))

      by_is : (class ≡ 6) ⊎ ((other : Dated) × Contains lines other × (passes other ≡ true) × (class_of other.day ≡ class))
          → (class ≡ 6) ⊎ ((other : Dated) × Contains (lines ++ line ∷ []) other × (passes other ≡ true) × (class_of other.day ≡ class))
      by_is (inl none) = inl none
      by_is (inr (other, at, passing, same)) = inr (other, append-early lines line other at, passing, same)

-- each list of lines has one
pub least-exists : (passes : Dated → Bool) (lines : List Dated) → (class : ℕ) × IsLeast passes lines class
least-exists passes [] = (6, least-none passes)
least-exists passes (line ∷ lines) = by_test (passes line) refl (least-exists passes lines)
  where
    among : (other : Dated) → (line ≡ other) ⊎ Contains lines other → Contains (line ∷ lines) other
    among other (inl here) = subst (λ (l : Dated). Contains (line ∷ lines) l) here (Contains-here line lines)
    among other (inr later) = Contains-later line other lines later

    kept : (class : ℕ) → IsLeast passes lines class → (passes line ≡ true → class ≤ class_of line.day) → IsLeast passes (line ∷ lines) class
    kept class least no_lower = record { low = low; is = by_is least.is }
      where
        low : (other : Dated) → Contains (line ∷ lines) other → passes other ≡ true → class ≤ class_of other.day
        low other at passing = by_case (Contains-cases line other lines at)
          where
            by_case : (line ≡ other) ⊎ Contains lines other → class ≤ class_of other.day
            by_case (inl here) = subst (λ (l : Dated). class ≤ class_of l.day) here (no_lower (ap passes here ∙ passing))
            by_case (inr later) = least.low other later passing

        by_is : (class ≡ 6) ⊎ ((other : Dated) × Contains lines other × (passes other ≡ true) × (class_of other.day ≡ class))
            → (class ≡ 6) ⊎ ((other : Dated) × Contains (line ∷ lines) other × (passes other ≡ true) × (class_of other.day ≡ class))
        by_is (inl none) = inl none
        by_is (inr (other, at, passing, same)) = inr (other, among other (inr at), passing, same)

    first : (class : ℕ) → IsLeast passes lines class → passes line ≡ true → class_of line.day ≤ class → IsLeast passes (line ∷ lines) (class_of line.day)
    first class least is lower = record { low = low; is = inr (line, among line (inl refl), is, refl) }
      where
        low : (other : Dated) → Contains (line ∷ lines) other → passes other ≡ true → class_of line.day ≤ class_of other.day
        low other at passing = by_case (Contains-cases line other lines at)
          where
            by_case : (line ≡ other) ⊎ Contains lines other → class_of line.day ≤ class_of other.day
            by_case (inl here) = let same = ap (λ (l : Dated). class_of l.day) here in omega (arith, same)
            by_case (inr later) = let rest = least.low other later passing in omega (arith, lower, rest)

    by_order : (class : ℕ) → IsLeast passes lines class → passes line ≡ true → (b : Bool) → nat_lt (class_of line.day) class ≡ b → (n : ℕ) × IsLeast passes (line ∷ lines) n
    by_order class least is true lower = (class_of line.day, first class least is (grind (arith, tests)))
    by_order class least is false higher = (class, kept class least (λ passing. grind (arith, tests)))

    by_test : (b : Bool) → passes line ≡ b → (class : ℕ) × IsLeast passes lines class → (n : ℕ) × IsLeast passes (line ∷ lines) n
    by_test true is (class, least) = by_order class least is (nat_lt (class_of line.day) class) refl
    by_test false is (class, least) = (class, kept class least (λ passing. absurd (false≢true (sym is ∙ passing))))

-- ---- the ranges of a day

-- a rule names the day at each of its seconds
pub names-same : (time : Local) (k : ℕ) (rule : DayRule) → names_day (record { day = time.day; second = k }) rule ≡ names_day time rule
names-same time k (Date year month day) = refl
names-same time k (OfMonth month day) = refl
names-same time k (OfEachMonth day) = refl
names-same time k (WeekdayOfMonth weekday n month) = refl
names-same time k (WeekdayOfEachMonth weekday n) = refl

module _ (dated : List Dated) (time : Local) where
  abbrev names : Dated → Bool
  names line = names_day time line.day

  -- what some range of the day passes
  pub day-by-lines : (test : Range → Bool) (weekly : List Range) → list_any test (ranges_on weekly dated time)
      ≡ cond (list_any (λ line. names_day time line.day) dated) (list_any (λ line. names_day time line.day && (decides (lines_on dated time) line && list_any test line.ranges)) dated) (list_any test weekly)
  day-by-lines test weekly = by_lines (lines_on dated time) refl
    where
      by_lines : (lines : List Dated) → lines_on dated time ≡ lines → list_any test (ranges_by weekly lines)
          ≡ cond (list_any (λ line. names_day time line.day) dated) (list_any (λ line. names_day time line.day && (decides (lines_on dated time) line && list_any test line.ranges)) dated) (list_any test weekly)
      by_lines [] none =
          sym (ap (λ b. cond b (list_any (λ line. names_day time line.day && (decides (lines_on dated time) line && list_any test line.ranges)) dated) (list_any test weekly))
          (any-none names dated (λ line at. by_name line at (names line) refl)))
        where
          by_name : (line : Dated) → Contains dated line → (b : Bool) → names line ≡ b → b ≡ false
          by_name line at true is = absurd (Contains-none line (subst (λ (ls : List Dated). Contains ls line) none (filter-on names dated line at is)))
          by_name line at false is = refl
      by_lines (first ∷ others) are =
          ap (λ (ls : List Dated). list_any test (decided ls)) (sym are)
          ∙ any-flat (λ line. line.ranges) test (filter (decides (lines_on dated time)) (lines_on dated time))
          ∙ any-filter (decides (lines_on dated time)) (λ line. list_any test line.ranges) (lines_on dated time)
          ∙ any-filter names (λ line. decides (lines_on dated time) line && list_any test line.ranges) dated
          ∙ sym (ap (λ b. cond b (list_any (λ line. names_day time line.day && (decides (lines_on dated time) line && list_any test line.ranges)) dated) (list_any test weekly))
          (let on = filter-in names dated first (subst (λ (ls : List Dated). Contains ls first) (sym are) (Contains-here first others)) in any-at names dated first on.0 on.1))

module _ (dated : List Dated) (time : Local) (class : ℕ) where
  abbrev named : Dated → Bool
  named line = names_day time line.day

  module _ (least : IsLeast named dated class) where
    -- a line that names the day decides where it is of that class
    decides-is : (line : Dated) → Contains dated line → named line ≡ true → decides (lines_on dated time) line ≡ (class_of line.day == class)
    decides-is line at is = by_class (class_of line.day == class) refl
      where
        earlier : Dated → Bool
        earlier other = nat_lt (class_of other.day) (class_of line.day)

        by_class : (b : Bool) → (class_of line.day == class) ≡ b → not (list_any (λ other. nat_lt (class_of other.day) (class_of line.day)) (lines_on dated time)) ≡ b
        by_class true same =
            let here : class_of line.day ≡ class = grind (arith, tests) in
            ap not (any-none (λ other. nat_lt (class_of other.day) (class_of line.day)) (lines_on dated time) (λ other on.
            let in_lines = filter-in named dated other on in
            let low = least.low other in_lines.0 in_lines.1 in
            no-earlier (class_of other.day) here low))
          where
            no-earlier : (n : ℕ) → class_of line.day ≡ class → class ≤ n → nat_lt n (class_of line.day) ≡ false
            no-earlier n here low = grind (arith, tests)
        by_class false other = by_least least.is
          where
            by_least : (class ≡ 6) ⊎ ((first : Dated) × Contains dated first × (named first ≡ true) × (class_of first.day ≡ class))
                → not (list_any (λ other. nat_lt (class_of other.day) (class_of line.day)) (lines_on dated time)) ≡ false
            by_least (inl none) = let low = least.low line at is in let within = class-within line.day in absurd (omega (arith, none, low, within))
            by_least (inr (first, on, passing, same)) =
                ap not (any-at (λ other. nat_lt (class_of other.day) (class_of line.day)) (lines_on dated time) first (filter-on named dated first on passing)
                (is-earlier (class_of first.day) (class_of line.day) same (least.low line at is) other))
              where
                is-earlier : (n m : ℕ) → n ≡ class → class ≤ m → (m == class) ≡ false → nat_lt n m ≡ true
                is-earlier n m here low apart = grind (arith, tests)

    some-named : list_any named dated ≡ nat_lt class 6
    some-named = by_least least.is
      where
        by_least : (class ≡ 6) ⊎ ((first : Dated) × Contains dated first × (named first ≡ true) × (class_of first.day ≡ class)) → list_any named dated ≡ nat_lt class 6
        by_least (inl none) = any-none named dated (λ line at. is-false (named line) (λ is. let low = least.low line at is in let within = class-within line.day in omega (arith, none, low, within)))
            ∙ sym (not-below none)
          where
            is-false : (b : Bool) → (b ≡ true → ⊥) → b ≡ false
            is-false true never = absurd (never refl)
            is-false false never = refl

            not-below : class ≡ 6 → nat_lt class 6 ≡ false
            not-below none = grind (arith, tests)
        by_least (inr (first, on, passing, same)) = any-at named dated first on passing ∙ sym (below (class-within first.day))
          where
            below : class_of first.day < 6 → nat_lt class 6 ≡ true
            below within = grind (arith, tests)

    -- what some range of the day passes, by the class that decides
    pub day-by-class : (test : Range → Bool) (weekly : List Range) → list_any test (ranges_on weekly dated time)
        ≡ cond (nat_lt class 6) (list_any (λ line. (class_of line.day == class && names_day time line.day) && list_any test line.ranges) dated) (list_any test weekly)
    day-by-class test weekly =
        day-by-lines dated time test weekly
        ∙ ap (λ b. cond (list_any named dated) b (list_any test weekly)) (any-alike _ _ dated both)
        ∙ ap (λ b. cond b (list_any (λ line. (class_of line.day == class && names_day time line.day) && list_any test line.ranges) dated) (list_any test weekly)) some-named
      where
        both : (line : Dated) → Contains dated line → (named line && (decides (lines_on dated time) line && list_any test line.ranges))
            ≡ ((class_of line.day == class && named line) && list_any test line.ranges)
        both line at = by_name (named line) refl
          where
            by_name : (b : Bool) → named line ≡ b → (b && (decides (lines_on dated time) line && list_any test line.ranges)) ≡ ((class_of line.day == class && b) && list_any test line.ranges)
            by_name true is = ap (λ c. c && list_any test line.ranges) (decides-is line at is ∙ and-true (class_of line.day == class))
              where
                and-true : (c : Bool) → c ≡ (c && true)
                and-true true = refl
                and-true false = refl
            by_name false is = and-false (class_of line.day == class)
              where
                and-false : (c : Bool) → false ≡ ((c && false) && list_any test line.ranges)
                and-false true = refl
                and-false false = refl

-- what the day's ranges hold at each of its seconds, by the class that decides
pub own-by-class : (weekly : List Range) (dated : List Dated) (time : Local) (class k : ℕ) → IsLeast (λ line. names_day time line.day) dated class
    → list_any (in_range k) (ranges_on weekly dated (record { day = time.day; second = k }))
    ≡ cond (nat_lt class 6) (list_any (λ line. (class_of line.day == class && names_day time line.day) && list_any (in_range k) line.ranges) dated) (list_any (in_range k) weekly)
own-by-class weekly dated time class k least =
    let same = fun_ext (λ (line : Dated). names-same time k line.day) in
    day-by-class dated (record { day = time.day; second = k }) class (subst (λ (f : Dated → Bool). IsLeast f dated class) (sym same) least) (in_range k) weekly
    ∙ ap (λ (f : Dated → Bool). cond (nat_lt class 6) (list_any (λ line. (class_of line.day == class && f line) && list_any (in_range k) line.ranges) dated) (list_any (in_range k) weekly)) same
