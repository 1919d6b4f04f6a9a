use Rattle.std.proofs.Common.{◌++◌, subst}
use Rattle.command_output.specs.claims.RunLine.{closed_line, undelivered_line}
use Rattle.written.specs.claims.Written.{Leaves, WritesFront}
use Rattle.run_command.specs.claims.Report.{channels_text, letters_text, taken_text}
use Rattle.run_command.proofs.ReportLaws.{channels_cut, closed_cut, closed_is, lane_made, taken_cut, undelivered_cut, undelivered_is}
use Rattle.run_command.proofs.lanes.write_lane.Goals as goal

pub returns-in_err-write_records-clause-front : goal.returns-in_err-write_records-clause-front
returns-in_err-write_records-clause-front g c =
    let t = taken_text c.args.config.now c.args.lane.now in
    let u = letters_text (undelivered_line c.args.config.now c.args.lane.now.lane.0) c.args.lane.now.undelivered in
    let b = channels_text c.args.config.now c.args.lane.now in
    let z = closed_line c.args.config.now c.args.lane.now.lane.0 c.args.lane.now.why in
    taken_cut (g.W.Write.contents c.args.writer.now) (g.W.Write.contents c.write_records.new.writer) c.args.lines.now t u b z c.in_err-write_records.ensures.front

pub returns-in_err-write_undelivered-clause-front : goal.returns-in_err-write_undelivered-clause-front
returns-in_err-write_undelivered-clause-front g c =
    let t = taken_text c.args.config.now c.args.lane.now in
    let u = letters_text (undelivered_line c.args.config.now c.args.lane.now.lane.0) c.args.lane.now.undelivered in
    let b = channels_text c.args.config.now c.args.lane.now in
    let z = closed_line c.args.config.now c.args.lane.now.lane.0 c.args.lane.now.why in
    undelivered_cut (g.W.Write.contents c.args.writer.now) (g.W.Write.contents c.write_records.new.writer) c.args.lines.now t u b z c.write_records.new.lines c.in_ok-write_records.ensures.ok (g.W.Write.contents c.write_undelivered.new.writer)
    (subst (λ text. WritesFront (g.W.Write.contents c.write_records.new.writer) (g.W.Write.contents c.write_undelivered.new.writer) (c.write_records.new.lines ++ text)) (undelivered_is c.args.config.now c.args.lane.now c.lane-number.result c.undelivered-undelivered.result.now c.lane-number.ensures c.undelivered-undelivered.ensures) c.in_err-write_undelivered.ensures.front)

pub returns-in_err-write_channels-clause-front : goal.returns-in_err-write_channels-clause-front
returns-in_err-write_channels-clause-front g c =
    let t = taken_text c.args.config.now c.args.lane.now in
    let u = letters_text (undelivered_line c.args.config.now c.args.lane.now.lane.0) c.args.lane.now.undelivered in
    let b = channels_text c.args.config.now c.args.lane.now in
    let z = closed_line c.args.config.now c.args.lane.now.lane.0 c.args.lane.now.why in
    let gave = subst (λ text. Leaves (g.W.Write.contents c.write_records.new.writer) (g.W.Write.contents c.write_undelivered.new.writer) (c.write_records.new.lines ++ text) c.write_undelivered.new.lines) (undelivered_is c.args.config.now c.args.lane.now c.lane-number.result c.undelivered-undelivered.result.now c.lane-number.ensures c.undelivered-undelivered.ensures) c.in_ok-write_undelivered.ensures.ok in
    channels_cut (g.W.Write.contents c.args.writer.now) (g.W.Write.contents c.write_records.new.writer) c.args.lines.now t u b z c.write_records.new.lines c.in_ok-write_records.ensures.ok (g.W.Write.contents c.write_undelivered.new.writer) c.write_undelivered.new.lines gave (g.W.Write.contents c.write_channels.new.writer) c.in_err-write_channels.ensures.front

pub returns-in_err-write-clause-front : goal.returns-in_err-write-clause-front
returns-in_err-write-clause-front g c =
    let t = taken_text c.args.config.now c.args.lane.now in
    let u = letters_text (undelivered_line c.args.config.now c.args.lane.now.lane.0) c.args.lane.now.undelivered in
    let b = channels_text c.args.config.now c.args.lane.now in
    let z = closed_line c.args.config.now c.args.lane.now.lane.0 c.args.lane.now.why in
    let gave = subst (λ text. Leaves (g.W.Write.contents c.write_records.new.writer) (g.W.Write.contents c.write_undelivered.new.writer) (c.write_records.new.lines ++ text) c.write_undelivered.new.lines) (undelivered_is c.args.config.now c.args.lane.now c.lane-number.result c.undelivered-undelivered.result.now c.lane-number.ensures c.undelivered-undelivered.ensures) c.in_ok-write_undelivered.ensures.ok in
    closed_cut (g.W.Write.contents c.args.writer.now) (g.W.Write.contents c.write_records.new.writer) c.args.lines.now t u b z c.write_records.new.lines c.in_ok-write_records.ensures.ok (g.W.Write.contents c.write_undelivered.new.writer) c.write_undelivered.new.lines gave (g.W.Write.contents c.write_channels.new.writer) c.write_channels.new.lines c.in_ok-write_channels.ensures.ok (g.W.Write.contents c.write.new.writer)
    (subst (λ text. WritesFront (g.W.Write.contents c.write_channels.new.writer) (g.W.Write.contents c.write.new.writer) (c.write_channels.new.lines ++ text)) (closed_is c.args.config.now c.args.lane.now c.lane-number.result c.why-why.result c.lane-number.ensures c.why-why.ensures) c.in_err-write.ensures.front)

pub returns-clause-front : goal.returns-clause-front
returns-clause-front g c =
    let t = taken_text c.args.config.now c.args.lane.now in
    let u = letters_text (undelivered_line c.args.config.now c.args.lane.now.lane.0) c.args.lane.now.undelivered in
    let b = channels_text c.args.config.now c.args.lane.now in
    let z = closed_line c.args.config.now c.args.lane.now.lane.0 c.args.lane.now.why in
    let gave = subst (λ text. Leaves (g.W.Write.contents c.write_records.new.writer) (g.W.Write.contents c.write_undelivered.new.writer) (c.write_records.new.lines ++ text) c.write_undelivered.new.lines) (undelivered_is c.args.config.now c.args.lane.now c.lane-number.result c.undelivered-undelivered.result.now c.lane-number.ensures c.undelivered-undelivered.ensures) c.in_ok-write_undelivered.ensures.ok in
    closed_cut (g.W.Write.contents c.args.writer.now) (g.W.Write.contents c.write_records.new.writer) c.args.lines.now t u b z c.write_records.new.lines c.in_ok-write_records.ensures.ok (g.W.Write.contents c.write_undelivered.new.writer) c.write_undelivered.new.lines gave (g.W.Write.contents c.write_channels.new.writer) c.write_channels.new.lines c.in_ok-write_channels.ensures.ok (g.W.Write.contents c.write.new.writer)
    (subst (λ text. WritesFront (g.W.Write.contents c.write_channels.new.writer) (g.W.Write.contents c.write.new.writer) (c.write_channels.new.lines ++ text)) (closed_is c.args.config.now c.args.lane.now c.lane-number.result c.why-why.result c.lane-number.ensures c.why-why.ensures) c.in_ok-write.ensures.front)

pub returns-clause-ok : goal.returns-clause-ok
returns-clause-ok g c =
    let t = taken_text c.args.config.now c.args.lane.now in
    let u = letters_text (undelivered_line c.args.config.now c.args.lane.now.lane.0) c.args.lane.now.undelivered in
    let b = channels_text c.args.config.now c.args.lane.now in
    let z = closed_line c.args.config.now c.args.lane.now.lane.0 c.args.lane.now.why in
    let gave = subst (λ text. Leaves (g.W.Write.contents c.write_records.new.writer) (g.W.Write.contents c.write_undelivered.new.writer) (c.write_records.new.lines ++ text) c.write_undelivered.new.lines) (undelivered_is c.args.config.now c.args.lane.now c.lane-number.result c.undelivered-undelivered.result.now c.lane-number.ensures c.undelivered-undelivered.ensures) c.in_ok-write_undelivered.ensures.ok in
    lane_made (g.W.Write.contents c.args.writer.now) (g.W.Write.contents c.write_records.new.writer) c.args.lines.now t u b z c.write_records.new.lines c.in_ok-write_records.ensures.ok (g.W.Write.contents c.write_undelivered.new.writer) c.write_undelivered.new.lines gave (g.W.Write.contents c.write_channels.new.writer) c.write_channels.new.lines c.in_ok-write_channels.ensures.ok (g.W.Write.contents c.write.new.writer) c.write.new.self
    (subst (λ text. Leaves (g.W.Write.contents c.write_channels.new.writer) (g.W.Write.contents c.write.new.writer) (c.write_channels.new.lines ++ text) c.write.new.self) (closed_is c.args.config.now c.args.lane.now c.lane-number.result c.why-why.result c.lane-number.ensures c.why-why.ensures) c.in_ok-write.ensures.ok)
