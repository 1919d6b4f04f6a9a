use Rattle.std.proofs.Common.{rules, arith, ◌≡◌, ◌++◌, ◌∙◌, [], List, Some, ap, ap₂, get_or, slice_get, sym}
use Rattle.std.proofs.lemmas.List.{take_all}
use Rattle.std.proofs.lemmas.Option.{get_or_from_slice_get, slice_get_within}
use Rattle.due_model.specs.declared.notice.Notice.{Notice}
use Rattle.delivery_worker.specs.claims.Picked.{join_lists}
use Rattle.engine.proofs.RecordLaws.{join_more}
use Rattle.engine.proofs.run_end.LaneEnd.taken.Goals as goal

pub loop-number-preserved : goal.loop-number-preserved
loop-number-preserved c =
    let records = c.args.self.now.records in
    let at : slice_get records c.loop-number.number ≡ Some c.in-Some.taken.now = search rules in
    let within = slice_get_within records c.loop-number.number c.in-Some.taken.now at in
    let here = get_or_from_slice_get records c.loop-number.number c.in-Some.taken.now [] at in
    let more : c.extend_from_slice.new.self.items ≡ c.loop-number.all.items ++ c.in-Some.taken.now = search rules in
    more ∙ ap₂ (λ (ns ms : List Notice). ns ++ ms) c.loop-number.invariant (sym here) ∙ sym (join_more records c.loop-number.number within)

pub returns : goal.returns
returns c = c.loop-number.invariant ∙ ap join_lists (take_all c.loop-number.number c.args.self.now.records (omega (arith, c.served-number-end.ensures)))
