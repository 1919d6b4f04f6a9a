use Rattle.std.proofs.Common.{length, ap, sym, ◌∙◌, arith}
use Rattle.std.proofs.lemmas.Result.{err_from_is_err_and}
use Rattle.std.specs.Cow.{cow_slice_items}
use Rattle.object_reader.specs.Statements.{statements_in, opened}
use Rattle.object_reader.proofs.Blocks.{fault_outside, end_outside, not_opened_outside, block_fails_outside, block_outside, read_text-blocks, read_text-large}
use Rattle.object_reader.proofs.reading.read_text.Goals as goal

pub returns-then-bytes-gt-TEXT_LIMIT : goal.returns-then-bytes-gt-TEXT_LIMIT
returns-then-bytes-gt-TEXT_LIMIT c = read_text-large c.args.bytes.now c.if-bytes-gt-TEXT_LIMIT.true

pub returns-in_err-statement : goal.returns-in_err-statement
returns-in_err-statement c =
    let p = err_from_is_err_and c.from_residual.result c.from_residual.ensures.1 in
    let so_far = read_text-blocks c.args.bytes.now c.if-bytes-gt-TEXT_LIMIT.false ∙ c.loop-found.invariant in
    rw (p.1, p.2) (fault_outside c.loop-found.found.items (statements_in c.loop-found.lines) _ so_far c.in_err-statement.field-0.0 c.in_err-statement.ensures)

pub returns-in-Err : goal.returns-in-Err
returns-in-Err c =
    let so_far = read_text-blocks c.args.bytes.now c.if-bytes-gt-TEXT_LIMIT.false ∙ c.loop-found.invariant in
    let next = rw c.in-Some.is at c.in_ok-statement.ensures in
    not_opened_outside c.loop-found.found.items (statements_in c.loop-found.lines) _ so_far c.in-Some.statement.line (cow_slice_items c.in-Some.statement.text) (statements_in c.next_statement.new.lines) next c.in-Err.fault (ap opened (sym (c.new-words.ensures ∙ c.as_slice.ensures.value)) ∙ sym c.in-Err.ensures)

pub returns-in_err-directives : goal.returns-in_err-directives
returns-in_err-directives c =
    let p = err_from_is_err_and c.from_residual-in_err-directives.result c.from_residual-in_err-directives.ensures.1 in
    let so_far = read_text-blocks c.args.bytes.now c.if-bytes-gt-TEXT_LIMIT.false ∙ c.loop-found.invariant in
    let next = rw c.in-Some.is at c.in_ok-statement.ensures in
    rw (p.1, p.2) (block_fails_outside c.loop-found.found.items (statements_in c.loop-found.lines) _ so_far c.in-Some.statement.line (cow_slice_items c.in-Some.statement.text) (statements_in c.next_statement.new.lines) next c.in-Ok.kind (ap opened (sym (c.new-words.ensures ∙ c.as_slice.ensures.value)) ∙ sym c.in-Ok.ensures) c.in_err-directives.field-0.0 c.in_err-directives.ensures.fault)

pub loop-found-smaller : goal.loop-found-smaller
loop-found-smaller c =
    let next = rw c.in-Some.is at c.in_ok-statement.ensures in
    omega (arith, ap length next, c.in_ok-directives.ensures.fewer)

pub loop-found-preserved-in_ok-push : goal.loop-found-preserved-in_ok-push
loop-found-preserved-in_ok-push c =
    let next = rw c.in-Some.is at c.in_ok-statement.ensures in
    rw c.in_ok-push.ensures.items (block_outside c.loop-found.found.items (statements_in c.loop-found.lines) _ c.loop-found.invariant c.in-Some.statement.line (cow_slice_items c.in-Some.statement.text) (statements_in c.next_statement.new.lines) next c.in-Ok.kind (ap opened (sym (c.new-words.ensures ∙ c.as_slice.ensures.value)) ∙ sym c.in-Ok.ensures) c.in_ok-directives.directives (statements_in c.directives.new.lines) c.in_ok-directives.ensures.ok)

pub loop-found-preserved : goal.loop-found-preserved
loop-found-preserved c =
    let next = rw c.in-Some.is at c.in_ok-statement.ensures in
    rw c.in_ok-push.ensures.items (block_outside c.loop-found.found.items (statements_in c.loop-found.lines) _ c.loop-found.invariant c.in-Some.statement.line (cow_slice_items c.in-Some.statement.text) (statements_in c.next_statement.new.lines) next c.in-Ok.kind (ap opened (sym (c.new-words.ensures ∙ c.as_slice.ensures.value)) ∙ sym c.in-Ok.ensures) c.in_ok-directives.directives (statements_in c.directives.new.lines) c.in_ok-directives.ensures.ok)

pub returns : goal.returns
returns c =
    let so_far = read_text-blocks c.args.bytes.now c.if-bytes-gt-TEXT_LIMIT.false ∙ c.loop-found.invariant in
    rw c.new.ensures (end_outside c.loop-found.found.items (statements_in c.loop-found.lines) _ so_far (rw c.in_default.is at c.in_ok-statement.ensures))
