-- The first moment at which a clock shows something, looked for from one stretch to the next.
use Rattle.std.proofs.Common.{◌≡◌, ℕ, ◌+◌, ◌-◌, ◌<◌, ◌≤◌, sym, ap, ap₂, ◌∙◌, arith, ⊎_elim, to_z, of_z, w32}
use Rattle.std.specs.Prelude.{ℤ}
use Rattle.std.proofs.lemmas.Bool.{cases_lt}
use Rattle.jiff_core.proofs.SignedLemmas.{signed_arith}
use Rattle.jiff_core.specs.Calendar.{IsEpochDay}
use Rattle.due_model.specs.claims.Local.{Local, local}
use Rattle.due_model.specs.declared.zone.Zone.{Zone}
use Rattle.given_times.specs.Given.{IsFirst}
use Rattle.zone_times.specs.Clock.{GoesOn}

-- before this moment the zone's clock never shows it
abbrev pub IsUnseen : Zone → Local → ℕ → Type 0
IsUnseen zone shown from = (k : ℕ) → k < from → local zone k ≡ shown → ⊥

pub unseen_none : (zone : Zone) (shown : Local) → IsUnseen zone shown 0
unseen_none zone shown k less e = omega (arith, less)

module _ (zone : Zone) (shown : Local) (from until : ℕ) (goes : GoesOn zone from until) where
  day_of : (k : ℕ) → from ≤ k → k < until → local zone k ≡ shown → (local zone from).day ≡ shown.day
  day_of k a b e = sym (ap (λ (t : Local). t.day) (goes k a b)) ∙ ap (λ (t : Local). t.day) e

  second_of : (k : ℕ) → from ≤ k → k < until → local zone k ≡ shown → (local zone from).second + (k - from) ≡ shown.second
  second_of k a b e = sym (ap (λ (t : Local). t.second) (goes k a b)) ∙ ap (λ (t : Local). t.second) e

  -- it isn't shown in a stretch either
  pub unseen_more : (day : ℤ) (second : ℕ) → day ≡ (local zone from).day → second ≡ (local zone from).second → IsUnseen zone shown from
      → ((k : ℕ) → from ≤ k → k < until → day ≡ shown.day → second + (k - from) ≡ shown.second → ⊥) → IsUnseen zone shown until
  unseen_more day second d s unseen none k less e =
      ⊎_elim (λ (before : k < from). unseen k before e)
      (λ (at : from ≤ k). none k at less (d ∙ day_of k at less e) (ap (λ (x : ℕ). x + (k - from)) s ∙ second_of k at less e)) (cases_lt k from)

  -- it is shown first at a moment of a stretch
  pub seen : (day : ℤ) (second moment : ℕ) → day ≡ (local zone from).day → second ≡ (local zone from).second → IsUnseen zone shown from
      → day ≡ shown.day → from ≤ moment → moment < until → second + (moment - from) ≡ shown.second → IsFirst zone shown moment
  seen day second moment d s unseen same at less is = record {
    shows = goes moment at less ∙ ap₂ (λ (x : ℤ) (y : ℕ). record { day = x; second = y }) (sym d ∙ same) (ap (λ (x : ℕ). x + (moment - from)) (sym s) ∙ is);
    first = λ k before e.
        ⊎_elim (λ (early : k < from). unseen k early e)
        (λ (late : from ≤ k).
        let here : (local zone from).second + (k - from) ≡ shown.second = second_of k late (omega (arith, before, less)) e in
        let there : (local zone from).second + (moment - from) ≡ shown.second = ap (λ (x : ℕ). x + (moment - from)) (sym s) ∙ is in
        omega (arith, before, late, at, here, there))
        (cases_lt k from);
  }

-- a day of the calendar as four bytes
pub day_kept : (day : ℤ) → IsEpochDay day → to_z w32 (of_z w32 day) ≡ day
day_kept day within = omega (arith, signed_arith)
