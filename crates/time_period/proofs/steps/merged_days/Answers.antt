use Rattle.std.proofs.Common.{◌≡◌, ◌+◌, ◌∷◌, ◌++◌, ◌∙◌, List, [], ap, subst, sym, take}
use Rattle.std.proofs.lemmas.List.{take_more}
use Rattle.due_model.specs.declared.config.Range.{Range}
use Rattle.time_period.specs.Steps.{AreMerged, IsMerged}
use Rattle.time_period.proofs.MergeLemmas.{is-merged, merged-more}
use Rattle.time_period.proofs.steps.merged_days.Goals as goal

pub loop-day-preserved : goal.loop-day-preserved
loop-day-preserved c =
    let days = c.args.days.now in
    let i = c.loop-day.day-index in
    let day = c.day-item.result in
    let taken : take (i + 1) days ≡ take i days ++ day ∷ [] = take_more days i day c.loop-day-test.true ∙ ap (λ (x : List Range). take i days ++ x ∷ []) (sym c.day-item.is) in
    subst (λ (rs : List (List Range)). AreMerged rs c.push.new.self.items) (sym taken)
    (subst (λ (ms : List (List Range)). AreMerged (take i days ++ day ∷ []) ms) (sym c.in_ok-push.ensures.items)
    (merged-more (take i days) c.loop-day.all.items day c.new.result c.loop-day.invariant
    (subst (λ (m : List Range). IsMerged day m) (sym c.new.ensures) (subst (λ (r : List Range). IsMerged r c.in_ok-ranges.ranges.items) c.as_slice.ensures (is-merged c.as_slice.result.now c.in_ok-ranges.ranges.items c.in_ok-ranges.ensures)))))
