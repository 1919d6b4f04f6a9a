use Rattle.std.proofs.Common.{◌≡◌, ◌≤◌, ℕ, ◌+◌, Bool, ap, sym, ◌∙◌, arith}
use Rattle.night_marks.specs.Counts.{is_less_busy, one_if, rank_among}
use Rattle.night_marks.proofs.CountLaws.{count_more}
use Rattle.night_marks.proofs.counts.Counts.rank_among.Goals as goal

pub loop-number-preserved : goal.loop-number-preserved
loop-number-preserved c =
    let self = c.args.self.now in
    let o = c.args.object.0 in
    let n = c.loop-number.number in
    let fits : c.loop-number.busier + c.one_if-busier.result ≤ n + 1 = omega (arith, c.loop-number.invariant.1, c.one_if-busier.ensures.bound) in (
      ap (λ (k : ℕ). k + c.one_if-busier.result) c.loop-number.invariant.0
          ∙ ap (λ (k : ℕ). rank_among self o n + k) (c.one_if-busier.ensures.value ∙ ap (λ (b : Bool). one_if b) c.is_less_busy.ensures)
          ∙ sym (count_more (is_less_busy self o) n),
      fits,
    )
