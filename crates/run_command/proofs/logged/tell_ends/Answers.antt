use Rattle.std.proofs.Common.{◌++◌, List, subst}
use Rattle.written.specs.claims.Written.{WritesFront}
use Rattle.run_command.specs.Report.{ends_text}
use Rattle.run_command.proofs.LoggedLaws.{made_cut, made_flushed}
use Rattle.run_command.proofs.logged.tell_ends.Goals as goal

pub returns-in_err-write_ends-clause-front : goal.returns-in_err-write_ends-clause-front
returns-in_err-write_ends-clause-front g c =
    subst (λ (held : List _). WritesFront (g.W.Write.contents c.args.writer.now) (g.W.Write.contents c.write_ends.new.writer) (held ++ ends_text c.args.config.now c.args.lanes.now)) c.requires c.in_err-write_ends.ensures.front

pub returns-clause-ok : goal.returns-clause-ok
returns-clause-ok g c =
    made_flushed (g.W.Write.contents c.args.writer.now) (g.W.Write.contents c.write_ends.new.writer) (g.W.Write.contents c.flush.new.writer) c.args.lines (ends_text c.args.config.now c.args.lanes.now) c.write_ends.new.lines c.flush.result c.requires c.in_ok-write_ends.ensures.ok c.flush.ensures.ok

pub returns-clause-front : goal.returns-clause-front
returns-clause-front g c =
    made_cut (g.W.Write.contents c.args.writer.now) (g.W.Write.contents c.write_ends.new.writer) (g.W.Write.contents c.flush.new.writer) c.args.lines (ends_text c.args.config.now c.args.lanes.now) c.write_ends.new.lines c.requires c.in_ok-write_ends.ensures.ok c.flush.ensures.front
