-- What decides among dated lines, with one line more.
use Rattle.std.proofs.Common.{◌≡◌, ℕ, ◌<◌, Bool, true, false, List, [], ◌∷◌, ◌++◌, refl, sym, ap, ap₂, subst, ◌∙◌, arith, tests}
use Rattle.std.specs.Prelude.{Contains, ◌&&◌, ◌||◌, ◌==◌}
use Rattle.std.proofs.lemmas.List.Folds.{list_any-append}
use Rattle.due_model.specs.declared.config.Dated.{Dated}
use Rattle.due_model.specs.declared.config.Range.{Range}
use Rattle.due_model.specs.claims.Days.{class_of, names_day}
use Rattle.due_model.specs.claims.Limits.{day}
use Rattle.due_model.specs.claims.Local.{Local}
use Rattle.time_period.specs.declared.decided.Decided.{Decided}
use Rattle.time_period.specs.Classes.{holds_by_class, IsDecided, IsLeast}
use Rattle.time_period.specs.claims.Ranges.{in_ranges}
use Rattle.time_period.specs.Stretches.{IsStretch, Stays}
use Rattle.time_period.proofs.ClassLemmas.{any-none, least-kept, least-new, least-none}
use Rattle.time_period.proofs.StretchLemmas.{Stays-same}

-- a line of a greater class, or that doesn't name the day, holds nothing
off-class : (own class : ℕ) (named held : Bool) → (named ≡ true → class < own) → ((own == class && named) && held) ≡ false
off-class own class true held greater = ap (λ b. (b && true) && held) (differs own class (greater refl))
  where
    differs : (n m : ℕ) → m < n → (n == m) ≡ false
    differs n m less = grind (arith, tests)
off-class own class false held greater = and-false (own == class) held
  where
    and-false : (a b : Bool) → ((a && false) && b) ≡ false
    and-false true b = refl
    and-false false b = refl

-- a line of the class that names the day holds what its ranges do
on-class : (own class : ℕ) (named held : Bool) → class ≡ own → named ≡ true → ((own == class && named) && held) ≡ held
on-class own class named held same is = ap₂ (λ a b. (a && b) && held) (equal own class same) is
  where
    equal : (n m : ℕ) → m ≡ n → (n == m) ≡ true
    equal n m same = grind (arith, tests)

or-false : (b : Bool) → (b || false) ≡ b
or-false true = refl
or-false false = refl

-- a test that never passes
stays-never : (test : ℕ → Bool) (from end : ℕ) (holds : Bool) → holds ≡ false → end ≡ day → from < day → ((k : ℕ) → test k ≡ false) → Stays test from holds end
stays-never test from end holds none last within fails = record { later = omega (arith, last, within); alike = λ k low high. fails k ∙ sym none }

-- what a line's ranges hold
pub ranges-stretch : (ranges own : List Range) (second s : ℕ) (holds : Bool) (end : ℕ) → ranges ≡ own → second ≡ s → Stays (in_ranges ranges) second holds end → Stays (in_ranges own) s holds end
ranges-stretch ranges own second s holds end ranges_are second_is stays =
    subst (λ (n : ℕ). Stays (in_ranges own) n holds end) second_is (subst (λ (rs : List Range). Stays (in_ranges rs) second holds end) ranges_are stays)

-- before any line
pub decided-none : (time : Local) (next : Decided) → next.class ≡ 6 → next.stretch.holds ≡ false → next.stretch.end ≡ day → time.second < day → IsDecided time [] next
decided-none time next six none last within = record {
  least = subst (λ n. IsLeast (λ one. names_day time one.day) [] n) (sym six) (least-none (λ one. names_day time one.day));
  stretch = stays-never (holds_by_class next.class time []) time.second next.stretch.end next.stretch.holds none last within (λ k. refl);
}

module _ (time : Local) (lines : List Dated) (line : Dated) (before : Decided) (is : IsDecided time lines before) where
  -- what the lines hold, with one more
  one-more : (class k : ℕ) → holds_by_class class time (lines ++ line ∷ []) k
      ≡ (holds_by_class class time lines k || ((class_of line.day == class && names_day time line.day) && in_ranges line.ranges k))
  one-more class k =
      list_any-append (λ (one : Dated). (class_of one.day == class && names_day time one.day) && in_ranges one.ranges k) lines (line ∷ [])
      ∙ ap (λ b. holds_by_class class time lines k || b) (or-false ((class_of line.day == class && names_day time line.day) && in_ranges line.ranges k))

  -- a line that doesn't name the day, or is of a greater class
  pub decided-kept : (names_day time line.day ≡ true → before.class < class_of line.day) → IsDecided time (lines ++ line ∷ []) before
  decided-kept greater = record {
    least = least-kept (λ one. names_day time one.day) lines before.class line is.least (λ named. let more = greater named in omega (arith, more));
    stretch = Stays-same (holds_by_class before.class time (lines ++ line ∷ [])) (holds_by_class before.class time lines) time.second before.stretch.holds before.stretch.end
        (λ k. one-more before.class k
        ∙ ap (λ b. holds_by_class before.class time lines k || b) (off-class (class_of line.day) before.class (names_day time line.day) (in_ranges line.ranges k) greater)
        ∙ or-false (holds_by_class before.class time lines k)) is.stretch;
  }

  -- a line of a lower class that names the day: none of that class did before
  pub decided-new : (next : Decided) → names_day time line.day ≡ true → next.class ≡ class_of line.day → next.class < before.class
      → IsStretch (in_ranges line.ranges) time.second next.stretch → IsDecided time (lines ++ line ∷ []) next
  decided-new next named own lower stays = record {
    least = subst (λ n. IsLeast (λ one. names_day time one.day) (lines ++ line ∷ []) n) (sym own)
        (least-new (λ one. names_day time one.day) lines before.class line is.least (omega (arith, own, lower)) named);
    stretch = Stays-same (holds_by_class next.class time (lines ++ line ∷ [])) (in_ranges line.ranges) time.second next.stretch.holds next.stretch.end
        (λ k. one-more next.class k
        ∙ ap₂ (λ a b. a || b) (any-none _ lines (λ other at. off-class (class_of other.day) next.class (names_day time other.day) (in_ranges other.ranges k) (greater other at)))
        (on-class (class_of line.day) next.class (names_day time line.day) (in_ranges line.ranges k) own named)) stays;
  }
    where
      greater : (other : Dated) → Contains lines other → names_day time other.day ≡ true → next.class < class_of other.day
      greater other at names = let low = is.least.low other at names in omega (arith, low, lower)

  -- a line of the same class that names the day
  pub decided-beside : (next : Decided) → names_day time line.day ≡ true → next.class ≡ class_of line.day → next.class ≡ before.class
      → IsStretch (λ k. holds_by_class before.class time lines k || in_ranges line.ranges k) time.second next.stretch → IsDecided time (lines ++ line ∷ []) next
  decided-beside next named own same stays = record {
    least = subst (λ n. IsLeast (λ one. names_day time one.day) (lines ++ line ∷ []) n) (sym same)
        (least-kept (λ one. names_day time one.day) lines before.class line is.least (λ _. omega (arith, own, same)));
    stretch = Stays-same (holds_by_class next.class time (lines ++ line ∷ [])) (λ k. holds_by_class before.class time lines k || in_ranges line.ranges k) time.second next.stretch.holds next.stretch.end
        (λ k. one-more next.class k
        ∙ ap₂ (λ (n : ℕ) (b : Bool). holds_by_class n time lines k || b) same (on-class (class_of line.day) next.class (names_day time line.day) (in_ranges line.ranges k) own named)) stays;
  }
