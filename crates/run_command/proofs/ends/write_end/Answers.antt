use Rattle.std.proofs.Common.{◌++◌, subst}
use Rattle.command_output.specs.claims.RunLine.{closed_line}
use Rattle.written.specs.claims.Written.{Leaves, WritesFront}
use Rattle.run_command.specs.claims.Report.{channels_text}
use Rattle.run_command.proofs.ReportLaws.{closed_is, part_begun, part_cut, part_on}
use Rattle.run_command.proofs.ends.write_end.Goals as goal

pub returns-in_err-write_channels-clause-front : goal.returns-in_err-write_channels-clause-front
returns-in_err-write_channels-clause-front g c =
    let b = channels_text c.args.config.now c.args.lane.now in
    let z = closed_line c.args.config.now c.args.lane.now.lane.0 c.args.lane.now.why in
    part_begun (g.W.Write.contents c.args.writer.now) (g.W.Write.contents c.write_channels.new.writer) c.args.lines.now b z c.in_err-write_channels.ensures.front

pub returns-in_err-write-clause-front : goal.returns-in_err-write-clause-front
returns-in_err-write-clause-front g c =
    let b = channels_text c.args.config.now c.args.lane.now in
    let z = closed_line c.args.config.now c.args.lane.now.lane.0 c.args.lane.now.why in
    part_cut (g.W.Write.contents c.args.writer.now) (g.W.Write.contents c.write_channels.new.writer) (g.W.Write.contents c.write.new.writer) c.args.lines.now b z c.write_channels.new.lines c.in_ok-write_channels.ensures.ok
    (subst (λ text. WritesFront (g.W.Write.contents c.write_channels.new.writer) (g.W.Write.contents c.write.new.writer) (c.write_channels.new.lines ++ text)) (closed_is c.args.config.now c.args.lane.now c.lane-number.result c.why-why.result c.lane-number.ensures c.why-why.ensures) c.in_err-write.ensures.front)

pub returns-clause-front : goal.returns-clause-front
returns-clause-front g c =
    let b = channels_text c.args.config.now c.args.lane.now in
    let z = closed_line c.args.config.now c.args.lane.now.lane.0 c.args.lane.now.why in
    part_cut (g.W.Write.contents c.args.writer.now) (g.W.Write.contents c.write_channels.new.writer) (g.W.Write.contents c.write.new.writer) c.args.lines.now b z c.write_channels.new.lines c.in_ok-write_channels.ensures.ok
    (subst (λ text. WritesFront (g.W.Write.contents c.write_channels.new.writer) (g.W.Write.contents c.write.new.writer) (c.write_channels.new.lines ++ text)) (closed_is c.args.config.now c.args.lane.now c.lane-number.result c.why-why.result c.lane-number.ensures c.why-why.ensures) c.in_ok-write.ensures.front)

pub returns-clause-ok : goal.returns-clause-ok
returns-clause-ok g c =
    let b = channels_text c.args.config.now c.args.lane.now in
    let z = closed_line c.args.config.now c.args.lane.now.lane.0 c.args.lane.now.why in
    part_on (g.W.Write.contents c.args.writer.now) (g.W.Write.contents c.write_channels.new.writer) (g.W.Write.contents c.write.new.writer) c.args.lines.now b z c.write_channels.new.lines c.write.new.self c.in_ok-write_channels.ensures.ok
    (subst (λ text. Leaves (g.W.Write.contents c.write_channels.new.writer) (g.W.Write.contents c.write.new.writer) (c.write_channels.new.lines ++ text) c.write.new.self) (closed_is c.args.config.now c.args.lane.now c.lane-number.result c.why-why.result c.lane-number.ensures c.why-why.ensures) c.in_ok-write.ensures.ok)
