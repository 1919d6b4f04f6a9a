-- The ranges of a local day, line by line.
use Rattle.std.proofs.Common.{◌≡◌, Bool, true, false, true≢false, not, ◌&&◌, ◌||◌, nat_lt, List, [], ◌∷◌, filter, flat_map, if◌then◌else◌, refl, sym, ap, ◌∙◌}
use Rattle.std.proofs.Math.Bool.{and_assoc}
use Rattle.std.proofs.Math.Path.{fun_ext}
use mathlib.Core.List.{cons-ne-nil}
use Rattle.std.specs.List.{list_any}
use Rattle.std.proofs.lemmas.List.Folds.{list_any-append}
use Rattle.due_model.specs.declared.config.Dated.{Dated}
use Rattle.due_model.specs.declared.config.Period.{Period}
use Rattle.due_model.specs.declared.config.Range.{Range}
use Rattle.due_model.specs.claims.Days.{class_of, decided, decides, lines_on, names_day, ranges_by}
use Rattle.due_model.specs.claims.Local.{Local, weekday_at}
use Rattle.due_model.specs.claims.Periods.{in_range, weekly_ranges}
use Rattle.slow_rules.specs.Rounds.{is_first, own_ranges_hold}

module _ {X : Type 0} where
  kept_step : (keeps test : X → Bool) (x : X) (kept : List X) (rest : Bool) → list_any test kept ≡ rest
      → (b : Bool) → list_any test (if b then x ∷ kept else kept) ≡ (b && test x || rest)
  kept_step keeps test x kept rest so true = ap (λ (r : Bool). test x || r) so
  kept_step keeps test x kept rest so false = so

  -- a test of those that another keeps
  any_kept : (keeps test : X → Bool) (xs : List X) → list_any test (filter keeps xs) ≡ list_any (λ x. keeps x && test x) xs
  any_kept keeps test [] = refl
  any_kept keeps test (x ∷ xs) = kept_step keeps test x (filter keeps xs) (list_any (λ y. keeps y && test y) xs) (any_kept keeps test xs) (keeps x)

  none_step : (x : X) (kept : List X) (rest : Bool) → (rest ≡ false → kept ≡ []) → (b : Bool) → (b || rest) ≡ false → (if b then x ∷ kept else kept) ≡ []
  none_step x kept rest so true h = absurd (true≢false h)
  none_step x kept rest so false h = so h

  none_kept : (keeps : X → Bool) (xs : List X) → list_any keeps xs ≡ false → filter keeps xs ≡ []
  none_kept keeps [] none = refl
  none_kept keeps (x ∷ xs) none = none_step x (filter keeps xs) (list_any keeps xs) (none_kept keeps xs) (keeps x) none

  some_step : (x : X) (kept : List X) (rest : Bool) → (rest ≡ true → kept ≡ [] → ⊥) → (b : Bool) → (b || rest) ≡ true → (if b then x ∷ kept else kept) ≡ [] → ⊥
  some_step x kept rest so true h none = cons-ne-nil x kept none
  some_step x kept rest so false h none = so h none

  some_kept : (keeps : X → Bool) (xs : List X) → list_any keeps xs ≡ true → filter keeps xs ≡ [] → ⊥
  some_kept keeps [] some none = true≢false (sym some)
  some_kept keeps (x ∷ xs) some none = some_step x (filter keeps xs) (list_any keeps xs) (some_kept keeps xs) (keeps x) some none

any_joined : (test : Range → Bool) (lines : List Dated) → list_any test (flat_map (λ line. line.ranges) lines) ≡ list_any (λ line. list_any test line.ranges) lines
any_joined test [] = refl
any_joined test (line ∷ lines) =
    list_any-append test line.ranges (flat_map (λ line. line.ranges) lines) ∙ ap (λ (r : Bool). list_any test line.ranges || r) (any_joined test lines)

-- the ranges of the lines that decide
deciding : (test : Range → Bool) (dated : List Dated) (time : Local)
    → list_any test (decided (lines_on dated time)) ≡ list_any (λ line. is_first dated time line.day && list_any test line.ranges) dated
deciding test dated time =
    let lines = lines_on dated time in
    let names : Dated → Bool = λ line. names_day time line.day in
    any_joined test (filter (decides lines) lines)
    ∙ any_kept (decides lines) (λ line. list_any test line.ranges) lines
    ∙ any_kept names (λ line. decides lines line && list_any test line.ranges) dated
    ∙ ap (λ (by : Dated → Bool). list_any by dated) (fun_ext (λ line.
    ap (λ (late : Bool). names line && (not late && list_any test line.ranges)) (any_kept names (λ other. nat_lt (class_of other.day) (class_of line.day)) dated)
    ∙ sym (and_assoc (names line) (not (list_any (λ other. names other && nat_lt (class_of other.day) (class_of line.day)) dated)) (list_any test line.ranges))))

by_lines : (weekly : List Range) (lines : List Dated) → (lines ≡ [] → ⊥) → ranges_by weekly lines ≡ decided lines
by_lines weekly [] some = absurd (some refl)
by_lines weekly (line ∷ lines) some = refl

-- where a dated line names the day
pub in_deciding : (time : Local) (period : Period) → list_any (λ line. names_day time line.day) period.dated ≡ true
    → list_any (λ line. is_first period.dated time line.day && list_any (in_range time.second) line.ranges) period.dated ≡ own_ranges_hold time period
in_deciding time period some =
    sym (deciding (in_range time.second) period.dated time)
    ∙ ap (λ (rs : List Range). list_any (in_range time.second) rs)
    (sym (by_lines (weekly_ranges period (weekday_at time)) (lines_on period.dated time) (some_kept (λ line. names_day time line.day) period.dated some)))

-- where none does
pub in_weekly : (time : Local) (period : Period) → list_any (λ line. names_day time line.day) period.dated ≡ false
    → list_any (in_range time.second) (weekly_ranges period (weekday_at time)) ≡ own_ranges_hold time period
in_weekly time period none =
    ap (λ (lines : List Dated). list_any (in_range time.second) (ranges_by (weekly_ranges period (weekday_at time)) lines))
    (sym (none_kept (λ line. names_day time line.day) period.dated none))
