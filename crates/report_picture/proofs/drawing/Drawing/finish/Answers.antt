use Rattle.std.proofs.Common.{List, ℕ, [], subst}
use Rattle.written.specs.claims.Written.{Leaves, WritesFront}
use Rattle.written.specs.WrittenLaws.{front_none}
use Rattle.report_picture.proofs.drawing.Drawing.finish.Goals as goal

pub returns-in_err-end-clause-front : goal.returns-in_err-end-clause-front
returns-in_err-end-clause-front g c = front_none _ _

pub returns-in_err-write_all-clause-front : goal.returns-in_err-write_all-clause-front
returns-in_err-write_all-clause-front g c =
    subst (λ (text : List ℕ). WritesFront (g.W.Write.contents c.args.writer.now) (g.W.Write.contents c.write_all.new.writer) text) c.in_ok-end.ensures c.write_all.ensures.front

pub returns-in_err-draw-clause-front : goal.returns-in_err-draw-clause-front
returns-in_err-draw-clause-front g c =
    subst (λ (text : List ℕ). WritesFront (g.W.Write.contents c.args.writer.now) (g.W.Write.contents c.write_all.new.writer) text) c.in_ok-end.ensures c.write_all.ensures.front

pub returns-clause-front : goal.returns-clause-front
returns-clause-front g c =
    subst (λ (text : List ℕ). WritesFront (g.W.Write.contents c.args.writer.now) (g.W.Write.contents c.write_all.new.writer) text) c.in_ok-end.ensures c.write_all.ensures.front

pub returns-clause-ok : goal.returns-clause-ok
returns-clause-ok g c =
    let all = rw c.write_all.ensures.empty at c.in_ok-write_all.ensures.ok in
    subst (λ (text : List ℕ). Leaves (g.W.Write.contents c.args.writer.now) (g.W.Write.contents c.write_all.new.writer) text []) c.in_ok-end.ensures all
