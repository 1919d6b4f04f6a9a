use Rattle.std.proofs.Common.{List, ◌++◌, ℕ, subst, sym}
use Rattle.std.proofs.lemmas.Result.{on_ok_weaker}
use Rattle.written.specs.claims.Written.{Leaves}
use Rattle.written.specs.WrittenLaws.{front_longer, front_next, leaves_next}
use Rattle.command_output.proofs.output.Buffer.push.Goals as goal

pub returns-in_err-flush-clause-front : goal.returns-in_err-flush-clause-front
returns-in_err-flush-clause-front g c = front_longer _ _ _ _ c.in_err-flush.ensures.front

pub returns-then-bytes-gt-ROOM-clause-ok : goal.returns-then-bytes-gt-ROOM-clause-ok
returns-then-bytes-gt-ROOM-clause-ok g c =
    on_ok_weaker c.write_whole.result
    (λ written. subst (λ (held : List ℕ). Leaves (g.W.Write.contents c.args.writer.now) (g.W.Write.contents c.write_whole.new.writer) (c.args.self.now ++ c.args.bytes.now) held)
    (sym c.flush.ensures.empty) (leaves_next _ _ _ _ _ _ c.in_ok-flush.ensures.ok written))
    c.write_whole.ensures.ok

pub returns-then-bytes-gt-ROOM-clause-front : goal.returns-then-bytes-gt-ROOM-clause-front
returns-then-bytes-gt-ROOM-clause-front g c = front_next _ _ _ _ _ c.in_ok-flush.ensures.ok c.write_whole.ensures.front
