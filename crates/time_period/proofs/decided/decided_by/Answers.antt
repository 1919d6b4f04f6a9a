use Rattle.std.proofs.Common.{◌∷◌, ◌++◌, ◌∙◌, List, [], ap, arith, refl, subst, sym, take}
use Rattle.std.proofs.lemmas.List.{take_all, take_more}
use Rattle.day_rules.specs.Dates.{shown}
use Rattle.due_model.specs.declared.config.Dated.{Dated}
use Rattle.time_period.specs.Classes.{IsDecided}
use Rattle.time_period.specs.Ranges.{IsDay}
use Rattle.time_period.proofs.DecidedLemmas.{decided-none}
use Rattle.time_period.proofs.decided.decided_by.Goals as goal

pub loop-line-init : goal.loop-line-init
loop-line-init c = decided-none (shown c.args.time) _ refl c.never.ensures.holds c.never.ensures.end c.requires.second

pub with-decided-requires-clause-sorted : goal.with-decided-requires-clause-sorted
with-decided-requires-clause-sorted c = subst (λ (line : Dated). IsDay line.ranges) (sym c.line-item.is) (c.requires.sorted c.loop-line.line-index c.line-item.result c.loop-line-test.true)

pub loop-line-preserved : goal.loop-line-preserved
loop-line-preserved c =
    let dated = c.args.dated.now in
    let i = c.loop-line.line-index in
    let line = c.line-item.result in
    subst (λ (lines : List Dated). IsDecided (shown c.args.time) lines c.with-decided.result)
    (sym (take_more dated i line c.loop-line-test.true ∙ ap (λ (x : Dated). take i dated ++ x ∷ []) (sym c.line-item.is)))
    (c.with-decided.ensures (take i dated) c.loop-line.invariant)

pub returns : goal.returns
returns c =
    subst (λ (lines : List Dated). IsDecided (shown c.args.time) lines c.loop-line.decided)
    (take_all c.loop-line.line-index c.args.dated.now (omega (arith, c.loop-line-test.false))) c.loop-line.invariant
