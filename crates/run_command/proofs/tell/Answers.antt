use Rattle.std.proofs.Common.{List, ◌++◌, subst}
use Rattle.due_model.specs.declared.notice.Suppression.{Suppression}
use Rattle.engine.specs.claims.Lanes.{LaneParts}
use Rattle.event_feed.specs.declared.fault.RefusedLine.{RefusedLine}
use Rattle.written.specs.claims.Written.{Leaves, WritesFront}
use Rattle.run_command.specs.claims.Report.{lanes_text, log_text, refused_text}
use Rattle.run_command.proofs.ReportLaws.{first_cut, last_cut, report_made, second_cut, third_cut}
use Rattle.run_command.proofs.tell.Goals as goal

pub returns-in_err-write_refused-clause-front : goal.returns-in_err-write_refused-clause-front
returns-in_err-write_refused-clause-front g c =
    first_cut (g.W.Write.contents c.args.writer.now) (g.W.Write.contents c.write_refused.new.writer) (refused_text c.args.end.now.refused.items)
    (log_text c.args.config.now c.args.end.now.log.items) (lanes_text c.args.config.now c.args.end.now.lanes.items) c.args.lines c.requires
    (subst (λ (rs : List RefusedLine). WritesFront (g.W.Write.contents c.args.writer.now) (g.W.Write.contents c.write_refused.new.writer) (c.args.lines ++ refused_text rs)) c.deref.ensures.value
    c.in_err-write_refused.ensures.front)

pub returns-in_err-write_log-clause-front : goal.returns-in_err-write_log-clause-front
returns-in_err-write_log-clause-front g c =
    let m1 = g.W.Write.contents c.write_refused.new.writer in
    let m2 = g.W.Write.contents c.write_log.new.writer in
    let a = refused_text c.args.end.now.refused.items in
    let b = log_text c.args.config.now c.args.end.now.log.items in
    let d = lanes_text c.args.config.now c.args.end.now.lanes.items in
    second_cut (g.W.Write.contents c.args.writer.now) m1 a b d c.args.lines c.write_refused.new.lines c.requires
    (subst (λ (rs : List RefusedLine). Leaves (g.W.Write.contents c.args.writer.now) m1 (c.args.lines ++ refused_text rs) c.write_refused.new.lines) c.deref.ensures.value c.in_ok-write_refused.ensures.ok)
    m2 (subst (λ (log : List Suppression). WritesFront m1 m2 (c.write_refused.new.lines ++ log_text c.args.config.now log)) c.deref-2.ensures.value c.in_err-write_log.ensures.front)

pub returns-in_err-write_lanes-clause-front : goal.returns-in_err-write_lanes-clause-front
returns-in_err-write_lanes-clause-front g c =
    let m1 = g.W.Write.contents c.write_refused.new.writer in
    let m2 = g.W.Write.contents c.write_log.new.writer in
    let m3 = g.W.Write.contents c.write_lanes.new.writer in
    let a = refused_text c.args.end.now.refused.items in
    let b = log_text c.args.config.now c.args.end.now.log.items in
    let d = lanes_text c.args.config.now c.args.end.now.lanes.items in
    third_cut (g.W.Write.contents c.args.writer.now) m1 a b d c.args.lines c.write_refused.new.lines c.requires
    (subst (λ (rs : List RefusedLine). Leaves (g.W.Write.contents c.args.writer.now) m1 (c.args.lines ++ refused_text rs) c.write_refused.new.lines) c.deref.ensures.value c.in_ok-write_refused.ensures.ok)
    m2 c.write_log.new.lines
    (subst (λ (log : List Suppression). Leaves m1 m2 (c.write_refused.new.lines ++ log_text c.args.config.now log) c.write_log.new.lines) c.deref-2.ensures.value c.in_ok-write_log.ensures.ok)
    m3 (subst (λ (lanes : List LaneParts). WritesFront m2 m3 (c.write_log.new.lines ++ lanes_text c.args.config.now lanes)) c.deref-3.ensures.value c.in_err-write_lanes.ensures.front)

pub returns-clause-ok : goal.returns-clause-ok
returns-clause-ok g c =
    let m1 = g.W.Write.contents c.write_refused.new.writer in
    let m2 = g.W.Write.contents c.write_log.new.writer in
    let m3 = g.W.Write.contents c.write_lanes.new.writer in
    let a = refused_text c.args.end.now.refused.items in
    let b = log_text c.args.config.now c.args.end.now.log.items in
    let d = lanes_text c.args.config.now c.args.end.now.lanes.items in
    report_made (g.W.Write.contents c.args.writer.now) m1 a b d c.args.lines c.write_refused.new.lines c.requires
    (subst (λ (rs : List RefusedLine). Leaves (g.W.Write.contents c.args.writer.now) m1 (c.args.lines ++ refused_text rs) c.write_refused.new.lines) c.deref.ensures.value c.in_ok-write_refused.ensures.ok)
    m2 c.write_log.new.lines
    (subst (λ (log : List Suppression). Leaves m1 m2 (c.write_refused.new.lines ++ log_text c.args.config.now log) c.write_log.new.lines) c.deref-2.ensures.value c.in_ok-write_log.ensures.ok)
    m3 c.write_lanes.new.lines
    (subst (λ (lanes : List LaneParts). Leaves m2 m3 (c.write_log.new.lines ++ lanes_text c.args.config.now lanes) c.write_lanes.new.lines) c.deref-3.ensures.value c.in_ok-write_lanes.ensures.ok)
    (g.W.Write.contents c.flush.new.writer) c.flush.result c.flush.ensures.ok

pub returns-clause-front : goal.returns-clause-front
returns-clause-front g c =
    let m1 = g.W.Write.contents c.write_refused.new.writer in
    let m2 = g.W.Write.contents c.write_log.new.writer in
    let m3 = g.W.Write.contents c.write_lanes.new.writer in
    let a = refused_text c.args.end.now.refused.items in
    let b = log_text c.args.config.now c.args.end.now.log.items in
    let d = lanes_text c.args.config.now c.args.end.now.lanes.items in
    last_cut (g.W.Write.contents c.args.writer.now) m1 a b d c.args.lines c.write_refused.new.lines c.requires
    (subst (λ (rs : List RefusedLine). Leaves (g.W.Write.contents c.args.writer.now) m1 (c.args.lines ++ refused_text rs) c.write_refused.new.lines) c.deref.ensures.value c.in_ok-write_refused.ensures.ok)
    m2 c.write_log.new.lines
    (subst (λ (log : List Suppression). Leaves m1 m2 (c.write_refused.new.lines ++ log_text c.args.config.now log) c.write_log.new.lines) c.deref-2.ensures.value c.in_ok-write_log.ensures.ok)
    m3 c.write_lanes.new.lines
    (subst (λ (lanes : List LaneParts). Leaves m2 m3 (c.write_log.new.lines ++ lanes_text c.args.config.now lanes) c.write_lanes.new.lines) c.deref-3.ensures.value c.in_ok-write_lanes.ensures.ok)
    (g.W.Write.contents c.flush.new.writer) c.flush.ensures.front
