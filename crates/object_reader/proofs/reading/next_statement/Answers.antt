use Rattle.std.proofs.Common.{◌∙◌, ap, sym, subst, length, ◌<◌, ◌≡◌, arith}
use Rattle.std.specs.Cow.{cow_slice_items}
use Rattle.std.proofs.lemmas.Result.{err_from_is_err_and}
use Rattle.std.proofs.lemmas.List.{nil_from_length}
use Rattle.object_reader.specs.Blocks.{FailsFirst}
use Rattle.object_reader.specs.Statements.{statements_in}
use Rattle.object_reader.proofs.Statements.{broken, something_said, nothing_said}
use Rattle.object_reader.proofs.reading.next_statement.Goals as goal

pub returns-in_err-joined : goal.returns-in_err-joined
returns-in_err-joined c =
    let p = err_from_is_err_and c.from_residual.result c.from_residual.ensures.1 in
    rw (p.1, p.2) (subst (FailsFirst c.in_err-joined.field-0.0) (sym c.loop-joined.invariant) (broken c.in_err-joined.field-0.0 c.loop-joined.lines c.in_err-joined.ensures.lines))

pub returns-then-len-gt0 : goal.returns-then-len-gt0
returns-then-len-gt0 c =
    let next = rw c.in-Some.is at c.in_ok-joined.ensures.lines in
    let some : 0 < length (cow_slice_items c.in_ok-text.text) = omega (arith, c.len.ensures) in
    c.loop-joined.invariant ∙ ap statements_in next ∙ something_said c.in-Some.joined.line (cow_slice_items c.in-Some.joined.text) (cow_slice_items c.in_ok-text.text) c.next.new.self some (sym c.in_ok-text.ensures)

pub loop-joined-preserved-else-len-gt0 : goal.loop-joined-preserved-else-len-gt0
loop-joined-preserved-else-len-gt0 c =
    let next = rw c.in-Some.is at c.in_ok-joined.ensures.lines in
    let none : length (cow_slice_items c.in_ok-text.text) ≡ 0 = omega (arith, c.len.ensures) in
    c.loop-joined.invariant ∙ ap statements_in next ∙ nothing_said c.in-Some.joined.line (cow_slice_items c.in-Some.joined.text) c.next.new.self (sym c.in_ok-text.ensures ∙ nil_from_length (cow_slice_items c.in_ok-text.text) none)

pub loop-joined-preserved : goal.loop-joined-preserved
loop-joined-preserved c =
    let next = rw c.in-Some.is at c.in_ok-joined.ensures.lines in
    let none : length (cow_slice_items c.in_ok-text.text) ≡ 0 = omega (arith, c.len.ensures) in
    c.loop-joined.invariant ∙ ap statements_in next ∙ nothing_said c.in-Some.joined.line (cow_slice_items c.in-Some.joined.text) c.next.new.self (sym c.in_ok-text.ensures ∙ nil_from_length (cow_slice_items c.in_ok-text.text) none)

pub returns : goal.returns
unfolding statements_in
returns c = c.loop-joined.invariant ∙ ap statements_in (rw c.in_default.is at c.in_ok-joined.ensures.lines)
