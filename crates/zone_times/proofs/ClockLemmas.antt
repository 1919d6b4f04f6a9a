-- A clock whose offset stays goes on up to the end of its day.
use Rattle.std.proofs.Common.{◌≡◌, ℕ, ◌+◌, ◌-◌, ◌<◌, ◌≤◌, ℤ, pos, ◌+ℤ◌, unsigned_abs, ap₂, arith}
use Rattle.std.specs.Int.{int_div_euclid, int_rem_euclid}
use Rattle.jiff_core.proofs.SignedLemmas.{signed_arith}
use Rattle.due_model.specs.declared.zone.Zone.{Zone}
use Rattle.due_model.specs.claims.Limits.{day}
use Rattle.due_model.specs.claims.Local.{Local, local, local_second, offset}
use Rattle.zone_times.specs.Clock.{later, GoesOn}

-- what a clock shows
abbrev day_at : ℤ → ℤ
day_at second = int_div_euclid second (pos day)

abbrev second_at : ℤ → ℕ
second_at second = unsigned_abs (int_rem_euclid second (pos day))

same_day : (a b : ℤ) (d : ℕ) → b ≡ a +ℤ pos d → second_at a + d < day → int_div_euclid b (pos day) ≡ int_div_euclid a (pos day)
same_day a b d e h = omega (arith, signed_arith)

same_second : (a b : ℤ) (d : ℕ) → b ≡ a +ℤ pos d → second_at a + d < day → second_at b ≡ second_at a + d
same_second a b d e h = let same = same_day a b d e h in omega (arith, signed_arith)

on_clock : (a b : ℤ) (d : ℕ) → b ≡ a +ℤ pos d → second_at a + d < day
    → record { day = day_at b; second = second_at b } ≡ later (record { day = day_at a; second = second_at a }) d
on_clock a b d e h = ap₂ (λ (days : ℤ) (s : ℕ). the_local days s) (same_day a b d e h) (same_second a b d e h)
  where
    the_local : ℤ → ℕ → Local
    the_local days s = record { day = days; second = s }

moved : (t k : ℕ) (o p : ℤ) → t ≤ k → p ≡ o → pos k +ℤ p ≡ (pos t +ℤ o) +ℤ pos (k - t)
moved t k o p h e = rw e (omega (arith, signed_arith))

pub goes_on_in_day : (zone : Zone) (t end day_end : ℕ) → day_end ≤ t + (day - (local zone t).second) → (local zone t).second < day → end ≤ day_end
    → ((k : ℕ) → t ≤ k → k < end → offset zone k ≡ offset zone t) → GoesOn zone t end
goes_on_in_day zone t end day_end late in_day within steady = λ k low high.
    on_clock (local_second zone t) (local_second zone k) (k - t) (moved t k (offset zone t) (offset zone k) low (steady k low high)) (omega (arith, late, in_day, within, low, high))
