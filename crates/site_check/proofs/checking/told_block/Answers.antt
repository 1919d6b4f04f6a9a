use Rattle.std.proofs.Common.{List, subst, sym, ℕ, ◌∙◌}
use Rattle.faults_told.specs.Forms.{Tells}
use Rattle.site_check.proofs.CheckedLemmas.{answer-told}
use Rattle.site_check.proofs.checking.told_block.Goals as goal

pub returns : goal.returns
returns c =
    answer-told c.args.sources.now c.args.blocks.now c.args.line c.args.fault c.as_slice.result.now c.in-Some.telling c.push_telling.new.text.items (sym c.answer.ensures ∙ c.in-Some.is)
    (subst (λ (old : List ℕ). Tells c.args.sources.now c.args.blocks.now c.in-Some.telling old c.push_telling.new.text.items) c.new-text.ensures.items
    c.in_ok-push_telling-in-Some.ensures)
