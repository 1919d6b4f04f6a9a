use Rattle.std.proofs.Common.{◌≡◌, ℕ, List, ◌++◌, ap, sym, ◌∙◌}
use Rattle.lemmas.proofs.Lists.{filter_range_more}
use Rattle.night_marks.specs.Counts.{is_shown, shown_at}
use Rattle.night_marks.proofs.counts.Counts.first_shown.Goals as goal

pub loop-number-preserved : goal.loop-number-preserved
loop-number-preserved c =
    let self = c.args.self.now in
    let n = c.loop-number.number in
    c.in_ok-push_shown.ensures
    ∙ ap (λ (xs : List ℕ). xs ++ shown_at self n) c.loop-number.invariant
    ∙ sym (filter_range_more (is_shown self) n)
