use Rattle.std.proofs.Common.{length, sym, subst, ◌≡◌, ◌∙◌, arith}
use Rattle.std.proofs.lemmas.Result.{err_from_is_err_and}
use Rattle.object_reader.specs.Blocks.{BreaksFirst}
use Rattle.std.proofs.lemmas.Grind.{common_steps}
use Rattle.object_reader.proofs.Joining.{begin_breaks, begin_goes_on, begin_ends, no_lines, line_plain}
use Rattle.object_reader.proofs.joined.JoinedReader.next.Goals as goal

pub returns-then-is_empty-clause-lines : goal.returns-then-is_empty-clause-lines
returns-then-is_empty-clause-lines c =
    let empty : length c.self.inside.rest.now ≡ 0 = grind (arith, common_steps) in
    sym c.self.view_is ∙ no_lines c.self.inside.line c.self.inside.rest.now empty

pub returns-in-Err-clause-lines : goal.returns-in-Err-clause-lines
returns-in-Err-clause-lines c =
    begin_breaks c.self.inside.line _ _ (sym c.self.view_is) _ _ c.split_line.ensures.first c.in-Err.fault c.in-Err.ensures

pub returns-in_err-joined-in-Ok-clause-lines : goal.returns-in_err-joined-in-Ok-clause-lines
returns-in_err-joined-in-Ok-clause-lines c =
    let p = err_from_is_err_and c.from_residual.result c.from_residual.ensures.1 in
    rw (p.1, p.2) (subst (BreaksFirst c.in_err-joined-in-Ok.field-0.0) (sym (begin_goes_on c.self.inside.line _ _ (sym c.self.view_is) _ _ c.split_line.ensures.first c.in-Ok.piece.bytes.now c.in-Ok.piece.goes_on c.in-Ok.ensures c.if-piece.true)) c.in_err-joined-in-Ok.ensures)

pub returns-in_ok-joined-in-Ok-clause-lines : goal.returns-in_ok-joined-in-Ok-clause-lines
returns-in_ok-joined-in-Ok-clause-lines c =
    begin_goes_on c.self.inside.line _ _ (sym c.self.view_is) _ _ c.split_line.ensures.first c.in-Ok.piece.bytes.now c.in-Ok.piece.goes_on c.in-Ok.ensures c.if-piece.true ∙ c.in_ok-joined-in-Ok.ensures

pub returns-in-Ok-2-clause-lines : goal.returns-in-Ok-2-clause-lines
returns-in-Ok-2-clause-lines c =
    begin_ends c.self.inside.line _ _ (sym c.self.view_is) _ _ c.split_line.ensures.first c.in-Ok.piece.bytes.now c.in-Ok.piece.goes_on c.in-Ok.ensures c.if-piece.false

pub returns-in-Ok-2-clause-plain : goal.returns-in-Ok-2-clause-plain
returns-in-Ok-2-clause-plain c = λ seen. line_plain _ _ c.in-Ok.ensures (c.split_line.ensures.plain seen)
