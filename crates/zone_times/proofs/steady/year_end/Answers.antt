use Rattle.std.proofs.Common.{◌≡◌, ℤ, pos, ◌+ℤ◌, ap, ◌∙◌, arith}
use Rattle.jiff_core.proofs.SignedLemmas.{signed_arith}
use Rattle.jiff_core.specs.DateTime.{civil_nanos}
use Rattle.jiff_core.specs.declared.timestamp.Timestamp.{Timestamp}
use Rattle.jiff_tz.specs.Year.{year_of_day}
use Rattle.jiff_tz.proofs.YearLemmas.{back_year, year_of_day-date, year_of_nanos-civil}
use Rattle.zone_times.specs.Changes.{nanos}
use Rattle.zone_times.proofs.YearLemmas.{last_second, year_stays}
use Rattle.zone_times.proofs.steady.year_end.Goals as goal

plus_zero : (z : ℤ) → z +ℤ pos 0 ≡ z
plus_zero z = omega (arith, signed_arith)

pub returns-clause-same : goal.returns-clause-same
returns-clause-same c = λ k low high.
    let date = c.to_datetime.result in
    let last = c.to_unix_epoch_day-last.result in
    let clock : civil_nanos date ≡ nanos c.args.t = c.to_datetime.ensures ∙ plus_zero c.to_plain.result.nanosecond ∙ ap (λ (x : Timestamp). x.nanosecond) c.to_plain.ensures ∙ c.instant.ensures in
    year_stays c.args.t k last
    (ap year_of_day c.to_unix_epoch_day-last.ensures.value ∙ year_of_day-date c.constrain.result ∙ c.constrain.ensures.year ∙ back_year date.date.year date.date.year_in ∙ year_of_nanos-civil date (nanos c.args.t) clock)
    low (last_second k last c.from.result c.to_unix_epoch_day-last.ensures.bound c.from.ensures (c.seconds_below.ensures k (omega (arith, high, c.min.ensures))))
