use Rattle.std.proofs.Common.{◌≡◌, ◌+◌, ◌∷◌, ◌++◌, ◌∙◌, List, [], ap, refl, subst, sym, take}
use Rattle.std.proofs.lemmas.List.{take_more}
use Rattle.due_model.specs.declared.config.Dated.{Dated}
use Rattle.due_model.specs.declared.config.Range.{Range}
use Rattle.time_period.specs.Steps.{AreMergedLines, IsMerged}
use Rattle.time_period.proofs.MergeLemmas.{is-merged, lines-more}
use Rattle.time_period.proofs.steps.merged_lines.Goals as goal

pub loop-line-preserved : goal.loop-line-preserved
loop-line-preserved c =
    let dated = c.args.dated.now in
    let i = c.loop-line.line-index in
    let line = c.line-item.result in
    let taken : take (i + 1) dated ≡ take i dated ++ line ∷ [] = take_more dated i line c.loop-line-test.true ∙ ap (λ (x : Dated). take i dated ++ x ∷ []) (sym c.line-item.is) in
    subst (λ (rs : List Dated). AreMergedLines rs c.push.new.self.items) (sym taken)
    (subst (λ (ms : List Dated). AreMergedLines (take i dated ++ line ∷ []) ms) (sym c.in_ok-push.ensures.items)
    (lines-more (take i dated) c.loop-line.all.items line _ c.loop-line.invariant refl
    (subst (λ (m : List Range). IsMerged line.ranges m) (sym c.new.ensures) (subst (λ (r : List Range). IsMerged r c.in_ok-ranges.ranges.items) c.as_slice.ensures (is-merged c.as_slice.result.now c.in_ok-ranges.ranges.items c.in_ok-ranges.ensures)))))
