use Rattle.std.proofs.Common.{◌++◌, List, OnOk, refl, subst, sym, ◌∙◌, ℕ}
use Rattle.written.specs.claims.Written.{Leaves}
use Rattle.written.specs.WrittenLaws.{front_longer, front_same}
use Rattle.trace.proofs.LaneLaws.{same_line}
use Rattle.trace.proofs.lanes.write_object.Goals as goal

pub returns-in-Ok-clause-ok : goal.returns-in-Ok-clause-ok
returns-in-Ok-clause-ok g c =
    let is = c.in-Ok.ensures in
    subst (λ (t : List ℕ). OnOk c.write.result (Leaves (g.W.Write.contents c.args.writer.now) (g.W.Write.contents c.write.new.writer) (c.args.lines.now ++ t) c.write.new.self))
    (same_line _ _ c.args.lane.0 c.args.object.0 (sym c.requires.fits.config) (c.deref.ensures.value ∙ is.taken) (c.deref-in-Ok.ensures.value ∙ is.hand)
    (c.deref-in-Ok-2.ensures.value ∙ is.undelivered) (c.deref-in-Ok-3.ensures.value ∙ is.queue) (c.deref-in-Ok-4.ensures.value ∙ is.outbox))
    c.write.ensures.ok

pub returns-in-Ok-clause-front : goal.returns-in-Ok-clause-front
returns-in-Ok-clause-front g c =
    let is = c.in-Ok.ensures in
    front_same _ _ c.args.lines.now c.args.lines.now _ _ refl
    (same_line _ _ c.args.lane.0 c.args.object.0 (sym c.requires.fits.config) (c.deref.ensures.value ∙ is.taken) (c.deref-in-Ok.ensures.value ∙ is.hand)
    (c.deref-in-Ok-2.ensures.value ∙ is.undelivered) (c.deref-in-Ok-3.ensures.value ∙ is.queue) (c.deref-in-Ok-4.ensures.value ∙ is.outbox))
    c.write.ensures.front

pub returns-in-Err-clause-front : goal.returns-in-Err-clause-front
returns-in-Err-clause-front g c = front_longer _ _ c.args.lines.now _ c.out_of_memory.ensures.front
