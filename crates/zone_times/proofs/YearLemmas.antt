-- The years of UTC: a moment between two of one year is of that year.
use Rattle.std.proofs.Common.{◌≡◌, ℕ, zero, suc, ◌+◌, ◌*◌, ◌/◌, ◌<◌, ◌≤◌, ℤ, pos, negsuc, ◌+ℤ◌, ◌-ℤ◌, ◌*ℤ◌, ◌<ℤ◌, subst, ap, ◌∙◌, arith, inl, inr, to_z, of_z, w32, w64}
use Rattle.jiff_core.specs.Calendar.{IsEpochDay}
use Rattle.std.proofs.lemmas.Bool.Decides.{leb_tells}
use Rattle.jiff_core.proofs.SignedLemmas.{signed_arith}
use Rattle.jiff_core.specs.Calendar.{days_of_years}
use Rattle.jiff_tz.specs.Year.{years_within, year_of_day, year_of_nanos}
use Rattle.zone_times.specs.Changes.{SameYear, nanos}
use Rattle.due_model.specs.claims.Limits.{day}

within_most : (n count : ℕ) → years_within n count ≤ n
unfolding years_within
within_most zero count = omega arith
within_most (suc n) count = elim (leb_tells (days_of_years (suc n)) count) [
  | inl fits ↦ rw fits.0 (omega arith)
  | inr over ↦ let less = within_most n count in rw over.0 (omega (arith, less))
]

-- more days have no fewer years
within_rises : (n a b : ℕ) → a ≤ b → years_within n a ≤ years_within n b
unfolding years_within
within_rises zero a b h = omega arith
within_rises (suc n) a b h = elim (leb_tells (days_of_years (suc n)) a) [
  | inl fits ↦ elim (leb_tells (days_of_years (suc n)) b) [
    | inl also ↦ rw (fits.0, also.0) (omega arith)
    | inr over ↦ absurd (omega (arith, h, fits.1, over.1))
  ]
  | inr over ↦ elim (leb_tells (days_of_years (suc n)) b) [
    | inl also ↦ let less = within_most n a in rw (over.0, also.0) (omega (arith, less))
    | inr both ↦ rw (over.0, both.0) (within_rises n a b h)
  ]
]

years_at : ℕ → ℕ
years_at day = years_within 20000 (day + 4_371_953)

same_between : (a b c : ℕ) → a ≤ b → b ≤ c → years_at c ≡ years_at a → years_at b ≡ years_at a
unfolding years_at
same_between a b c low high same =
    let up = within_rises 20000 (a + 4_371_953) (b + 4_371_953) (omega (arith, low)) in
    let on = within_rises 20000 (b + 4_371_953) (c + 4_371_953) (omega (arith, high)) in
    omega (arith, up, on, same)

-- the day of a moment
abbrev day_at : ℕ → ℕ
day_at t = (t * 1_000_000_000) / 86_400_000_000_000

days_rise : (t k : ℕ) → t ≤ k → day_at t ≤ day_at k
days_rise t k h = omega (arith, h)

day_below : (k last : ℕ) → k < (last + 1) * day → day_at k ≤ last
day_below k last h = omega (arith, h)

same_count : (x y : ℕ) → (pos x -ℤ pos 10000) ≡ (pos y -ℤ pos 10000) → x ≡ y
same_count x y e = omega (arith, signed_arith)

pub year_stays : (t k : ℕ) (last : ℤ) → year_of_day last ≡ year_of_nanos (nanos t) → t ≤ k → pos k <ℤ ((last +ℤ pos 1) *ℤ pos day) → SameYear t k
unfolding years_at
year_stays t k (pos last) same low high =
    ap (λ (n : ℕ). pos n -ℤ pos 10000)
    (same_between (day_at t) (day_at k) last (days_rise t k low) (day_below k last (omega (arith, signed_arith, high)))
    (same_count (years_at last) (years_at (day_at t)) same))
year_stays t k (negsuc last) same low high = absurd (omega (arith, signed_arith, high))

-- what the code computes of a day in range
pub last_second : (k : ℕ) (last wide : ℤ) → IsEpochDay last → wide ≡ to_z w32 (of_z w32 last)
    → pos k <ℤ to_z w64 (of_z w64 (to_z w64 (of_z w64 (to_z w64 (of_z w64 wide) +ℤ pos 1)) *ℤ pos day)) → pos k <ℤ ((last +ℤ pos 1) *ℤ pos day)
last_second k last wide in_range same below =
    let low = in_range.0 in
    let high = in_range.1 in
    let one : to_z w32 (of_z w32 last) ≡ last = omega (arith, signed_arith) in
    let two : to_z w64 (of_z w64 last) ≡ last = omega (arith, signed_arith) in
    let three : to_z w64 (of_z w64 (last +ℤ pos 1)) ≡ last +ℤ pos 1 = omega (arith, signed_arith) in
    let four : to_z w64 (of_z w64 ((last +ℤ pos 1) *ℤ pos day)) ≡ (last +ℤ pos 1) *ℤ pos day = omega (arith, signed_arith) in
    let is = same ∙ one in
    subst (λ (z : ℤ). pos k <ℤ z)
    (ap (λ (z : ℤ). to_z w64 (of_z w64 (to_z w64 (of_z w64 (to_z w64 (of_z w64 z) +ℤ pos 1)) *ℤ pos day))) is
    ∙ ap (λ (z : ℤ). to_z w64 (of_z w64 (to_z w64 (of_z w64 (z +ℤ pos 1)) *ℤ pos day))) two
    ∙ ap (λ (z : ℤ). to_z w64 (of_z w64 (z *ℤ pos day))) three ∙ four) below
