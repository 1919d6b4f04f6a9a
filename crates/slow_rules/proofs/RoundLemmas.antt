-- A round more is a depth more of the definitions.
use Rattle.std.proofs.Common.{◌≡◌, ℕ, zero, suc, ◌+◌, Bool, false, not, ◌&&◌, ◌||◌, ◌==◌, List, [], ◌∷◌, map, Option, None, Some, slice_get, refl, sym, ap, subst, ◌∙◌, arith}
use Rattle.std.proofs.Math.Bool.{and_assoc}
use Rattle.std.proofs.Math.Path.{fun_ext}
use Rattle.std.specs.List.{list_any}
use Rattle.due_model.specs.declared.config.Config.{Config}
use Rattle.due_model.specs.declared.config.Dependency.{Dependency}
use Rattle.due_model.specs.declared.config.Period.{Period}
use Rattle.due_model.specs.declared.config.PeriodId.{PeriodId}
use Rattle.due_model.specs.declared.state.State.{State}
use Rattle.due_model.specs.declared.zone.Zone.{Zone}
use Rattle.due_model.specs.claims.Dependencies.{entry_fails, fails_at}
use Rattle.due_model.specs.claims.Local.{Local}
use Rattle.due_model.specs.claims.Periods.{holds, in_period}
use Rattle.slow_rules.specs.Flags.{flag_at}
use Rattle.slow_rules.specs.Rounds.{AreObjectFlags, ArePeriodFlags, ArePeriodsAt, entry_flag, is_open, object_flag, own_ranges_hold, period_flag, state_of}

one_more : (n : ℕ) → suc n ≡ n + 1
one_more n = omega arith

-- ---- periods

-- what a test says of the period of a number; false, if there is none
abbrev of_number : (Period → Bool) → List Period → ℕ → Bool
of_number test periods p = elim (slice_get periods p) as (λ _. Bool) [ None ↦ false | Some period ↦ test period ]

flag_of_map : (test : Period → Bool) (periods : List Period) (p : ℕ) → flag_at (map test periods) p ≡ of_number test periods p
flag_of_map test [] p = refl
flag_of_map test (x ∷ xs) zero = refl
flag_of_map test (x ∷ xs) (suc p) = flag_of_map test xs p

pub periods_more : (depth : ℕ) (periods : List Period) (time : Local) (items before flags : List Bool) → flags ≡ map (period_flag before time) periods → before ≡ items
    → ArePeriodFlags depth periods time items → ArePeriodFlags (depth + 1) periods time flags
periods_more depth periods time items before flags are seen so_far =
    let so_far_seen : (p : ℕ) → flag_at before p ≡ holds depth periods p time = λ p. ap (λ (xs : List Bool). flag_at xs p) seen ∙ so_far p in
    subst (λ (n : ℕ). ArePeriodFlags n periods time flags) (one_more depth) (λ p.
    ap (λ (xs : List Bool). flag_at xs p) are ∙ flag_of_map (period_flag before time) periods p
    ∙ ap (λ (flag : ℕ → Bool). of_number (λ period. own_ranges_hold time period && not (list_any (λ excluded. flag excluded.0) period.excludes)) periods p)
    (fun_ext so_far_seen))

-- a period is open where it holds
pub open_at : (c : Config) (zone : Zone) (t : ℕ) (flags : List Bool) → ArePeriodsAt c zone t flags
    → (period : Option PeriodId) → is_open flags period ≡ in_period c zone period t
open_at c zone t flags are None = refl
open_at c zone t flags are (Some period) = are period.0

-- ---- dependencies

module _ (c : Config) (zone : Zone) (states : List State) (t : ℕ) where
  entry_alike : (depth : ℕ) (periods before : List Bool) → ArePeriodsAt c zone t periods → AreObjectFlags depth c zone (state_of states) t before → (o : ℕ) (entry : Dependency)
      → (entry.dependent.0 == o && entry_flag c.choices.dep_pending periods states before entry)
      ≡ (entry.dependent.0 == o && in_period c zone entry.period t
      && (fails_at c.choices.dep_pending entry.states (state_of states entry.master.0) || entry.inherits && entry_fails depth c zone (state_of states) t entry.master.0))
  entry_alike depth periods before are_open so_far o entry =
      ap (λ (b : Bool). entry.dependent.0 == o && (b && (fails_at c.choices.dep_pending entry.states (state_of states entry.master.0) || entry.inherits && flag_at before entry.master.0)))
      (open_at c zone t periods are_open entry.period)
      ∙ ap (λ (b : Bool). entry.dependent.0 == o && (in_period c zone entry.period t && (fails_at c.choices.dep_pending entry.states (state_of states entry.master.0) || entry.inherits && b)))
      (so_far entry.master.0)
      ∙ sym (and_assoc (entry.dependent.0 == o) (in_period c zone entry.period t)
      (fails_at c.choices.dep_pending entry.states (state_of states entry.master.0) || entry.inherits && entry_fails depth c zone (state_of states) t entry.master.0))

  pub objects_more : (depth : ℕ) (periods items before flags : List Bool) → ((o : ℕ) → flag_at flags o ≡ object_flag c.choices.dep_pending periods states before c.dependencies o) → ArePeriodsAt c zone t periods
      → before ≡ items → AreObjectFlags depth c zone (state_of states) t items → AreObjectFlags (depth + 1) c zone (state_of states) t flags
  objects_more depth periods items before flags are are_open seen so_far =
      let so_far_seen : (o : ℕ) → flag_at before o ≡ entry_fails depth c zone (state_of states) t o = λ o. ap (λ (xs : List Bool). flag_at xs o) seen ∙ so_far o in
      subst (λ (n : ℕ). AreObjectFlags n c zone (state_of states) t flags) (one_more depth) (λ o.
      are o ∙ ap (λ (test : Dependency → Bool). list_any test c.dependencies) (fun_ext (entry_alike depth periods before are_open so_far_seen o)))
