use Rattle.std.proofs.Common.{length, ap, sym, ◌∙◌, arith}
use Rattle.std.specs.Cow.{cow_slice_items}
use Rattle.std.proofs.lemmas.Result.{err_from_is_err_and}
use Rattle.object_reader.specs.Blocks.{at_line, directive_of}
use Rattle.object_reader.specs.claims.Statements.{is_close, is_define}
use Rattle.object_reader.specs.Statements.{statements_in}
use Rattle.object_reader.proofs.Blocks.{fault_in_block, end_in_block, close_in_block, define_in_block, no_value_in_block, directive_in_block, fails_along}
use Rattle.object_reader.proofs.reading.directives.Goals as goal
use Rattle.object_reader.proofs.reading.directives.Goals.{in-Some+else-is_close+then-is_define, in_default}

pub returns-in_err-statement-clause-fault : goal.returns-in_err-statement-clause-fault
returns-in_err-statement-clause-fault c =
    let p = err_from_is_err_and c.from_residual.result c.from_residual.ensures.1 in
    rw (p.1, p.2) (fault_in_block c.args.kind c.args.define c.loop-directives.directives.items (statements_in c.loop-directives.lines) _ c.loop-directives.invariant.0 c.in_err-statement.field-0.0 c.in_err-statement.ensures)

pub returns-then-is_close-clause-ok : goal.returns-then-is_close-clause-ok
returns-then-is_close-clause-ok c =
    let next = rw c.in-Some.is at c.in_ok-statement.ensures in
    let closes = ap is_close (sym c.as_slice-text.ensures.value) ∙ sym c.if-is_close.ensures in
    rw c.without_room.ensures (close_in_block c.args.kind c.args.define c.loop-directives.directives.items (statements_in c.loop-directives.lines) _ c.loop-directives.invariant.0 c.in-Some.statement.line (cow_slice_items c.in-Some.statement.text) (statements_in c.next_statement.new.lines) next closes)

pub returns-in_err-directive-clause-fault : goal.returns-in_err-directive-clause-fault
returns-in_err-directive-clause-fault c =
    let p = err_from_is_err_and c.from_residual-in_err-directive.result c.from_residual-in_err-directive.ensures.1 in
    let next = rw c.in-Some.is at c.in_ok-statement.ensures in
    let value = c.new-words.ensures ∙ c.as_slice-text.ensures.value in
    let spelled = rw value at c.in_err-directive.ensures in
    rw (p.1, p.2) (no_value_in_block c.args.kind c.args.define c.loop-directives.directives.items (statements_in c.loop-directives.lines) _ c.loop-directives.invariant.0 c.in-Some.statement.line (cow_slice_items c.in-Some.statement.text) (statements_in c.next_statement.new.lines) next
    (ap is_close (sym c.as_slice-text.ensures.value) ∙ sym c.if-is_close.ensures) (ap is_define (sym value) ∙ sym c.if-is_define.ensures) c.in_err-directive.field-0.0 spelled)

pub loop-directives-preserved-in_ok-push : goal.loop-directives-preserved-in_ok-push
loop-directives-preserved-in_ok-push c =
    let next = rw c.in-Some.is at c.in_ok-statement.ensures in
    let value = c.new-words.ensures ∙ c.as_slice-text.ensures.value in
    let spelled = rw value at c.in_ok-directive.ensures in
    let e = directive_in_block c.args.kind c.args.define c.loop-directives.directives.items (statements_in c.loop-directives.lines) _ c.loop-directives.invariant.0 c.in-Some.statement.line (cow_slice_items c.in-Some.statement.text) (statements_in c.next_statement.new.lines) next
    (ap is_close (sym c.as_slice-text.ensures.value) ∙ sym c.if-is_close.ensures) (ap is_define (sym value) ∙ sym c.if-is_define.ensures) c.in_ok-directive.field-0 spelled in
    (rw c.in_ok-push.ensures.items e, omega (arith, ap length next, c.loop-directives.invariant.1))

pub loop-directives-preserved : goal.loop-directives-preserved
loop-directives-preserved c =
    let next = rw c.in-Some.is at c.in_ok-statement.ensures in
    let value = c.new-words.ensures ∙ c.as_slice-text.ensures.value in
    let spelled = rw value at c.in_ok-directive.ensures in
    let e = directive_in_block c.args.kind c.args.define c.loop-directives.directives.items (statements_in c.loop-directives.lines) _ c.loop-directives.invariant.0 c.in-Some.statement.line (cow_slice_items c.in-Some.statement.text) (statements_in c.next_statement.new.lines) next
    (ap is_close (sym c.as_slice-text.ensures.value) ∙ sym c.if-is_close.ensures) (ap is_define (sym value) ∙ sym c.if-is_define.ensures) c.in_ok-directive.field-0 spelled in
    (rw c.in_ok-push.ensures.items e, omega (arith, ap length next, c.loop-directives.invariant.1))

pub returns-clause-fault : goal.returns-clause-fault
returns-clause-fault c =
    let so_far = c.loop-directives.invariant.0 in
    elim c.match-branch-2.branch [
      | in-Some+else-is_close+then-is_define w ↦
          let value = w.new-words.ensures ∙ w.as_slice-text.ensures.value in
          define_in_block c.args.kind c.args.define c.loop-directives.directives.items (statements_in c.loop-directives.lines) _ so_far w.in-Some.statement.line (cow_slice_items w.in-Some.statement.text) (statements_in c.next_statement.new.lines) (rw w.in-Some.is at c.in_ok-statement.ensures)
          (ap is_close (sym w.as_slice-text.ensures.value) ∙ sym w.if-is_close.ensures) (ap is_define (sym value) ∙ sym w.if-is_define.ensures)
      | in_default w ↦
          end_in_block c.args.kind c.args.define c.loop-directives.directives.items (statements_in c.loop-directives.lines) _ so_far (rw w.in_default.is at c.in_ok-statement.ensures)
    ]
