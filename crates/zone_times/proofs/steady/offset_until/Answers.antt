use Rattle.std.proofs.Common.{◌≡◌, ℤ, ◌<◌, pos, ◌<ℤ◌, Option, option_map, sym, ap, subst, ◌∙◌, arith, ⊎_elim, w64, to_z, of_z}
use Rattle.std.specs.Prelude.{IfSome}
use Rattle.std.proofs.lemmas.Bool.{cases_eq}
use Rattle.jiff_core.proofs.SignedLemmas.{signed_arith}
use Rattle.jiff_core.specs.declared.timestamp.Timestamp.{Timestamp}
use Rattle.due_model.specs.claims.Local.{offset}
use Rattle.zone_times.specs.Changes.{nanos}
use Rattle.zone_times.proofs.ChangeLemmas.{below_change, until_change}
use Rattle.zone_times.proofs.steady.offset_until.Goals as goal
use Rattle.zone_times.proofs.steady.offset_until.Goals.{in-Some, in-None}

instants : Option Timestamp → Option ℤ
instants o = option_map (λ (x : Timestamp). x.nanosecond) o

pub returns-clause-steady : goal.returns-clause-steady
unfolding instants
returns-clause-steady c = λ k low high.
    let change = c.match-change_after.change in
    ⊎_elim
    (λ (same : k ≡ c.args.t). ap (offset c.args.zone.now) same)
    (λ (other : k ≡ c.args.t → ⊥).
    let in_year : k < c.year_end.result = omega (arith, other, low, high, c.max.ensures, c.min.ensures) in
    let before : k < change = omega (arith, other, low, high, c.max.ensures, c.min.ensures) in
    until_change c.args.zone.now c.args.t k (instants c.change_after.result) c.change_after.ensures low (omega (arith, in_year, c.year_end.ensures.near)) (c.year_end.ensures.same k low in_year)
    (elim c.match-change_after.branch [
      | in-Some w ↦
          let back : to_z w64 (of_z w64 w.as_second.result) ≡ w.as_second.result = omega (arith, signed_arith, w.as_second.type_inv) in
          let below = subst (λ (z : ℤ). pos k <ℤ z) (back ∙ w.as_second.ensures) (w.seconds_below-change.ensures k (omega (arith, before, w.change-is))) in
          subst (λ (o : Option Timestamp). IfSome (instants o) (λ s. nanos k <ℤ s)) (sym w.in-Some.is) (below_change k w.in-Some.change.nanosecond below)
      | in-None w ↦ subst (λ (o : Option Timestamp). IfSome (instants o) (λ s. nanos k <ℤ s)) (sym w.in-None.is) tt
    ]))
    (cases_eq k c.args.t)
