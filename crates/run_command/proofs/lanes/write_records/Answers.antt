use Rattle.std.proofs.Common.{rules, ◌≡◌, ◌++◌, [], List, Some, ap₂, get_or, slice_get, subst}
use Rattle.std.proofs.lemmas.Option.{slice_get_within}
use Rattle.due_model.specs.declared.config.LaneId.{LaneId}
use Rattle.due_model.specs.declared.notice.Notice.{Notice}
use Rattle.command_output.specs.claims.RunLine.{taken_line}
use Rattle.written.specs.claims.Written.{Leaves, WritesFront}
use Rattle.run_command.specs.claims.Report.{letters_text}
use Rattle.run_command.proofs.ReportLaws.{line_cut, line_written, record_at}
use Rattle.run_command.proofs.lanes.write_records.Goals as goal

pub loop-number-preserved : goal.loop-number-preserved
loop-number-preserved g c =
    let records = c.args.lane.now.records in
    let at : slice_get records c.loop-number.number ≡ Some c.in-Some.taken.now = search rules in
    let within = slice_get_within records c.loop-number.number c.in-Some.taken.now at in
    let taken = record_at records c.loop-number.number c.in-Some.taken.now [] at in
    let text : letters_text (taken_line c.args.config.now c.lane-of_lane.result.0) c.in-Some.taken.now ≡ letters_text (taken_line c.args.config.now c.args.lane.now.lane.0) (get_or records c.loop-number.number []) =
    ap₂ (λ (n : LaneId) (ns : List Notice). letters_text (taken_line c.args.config.now n.0) ns) c.lane-of_lane.ensures taken in
    line_written (letters_text (taken_line c.args.config.now c.args.lane.now.lane.0)) (g.W.Write.contents c.args.writer.now) (g.W.Write.contents c.loop-number.writer) (g.W.Write.contents c.write_taken.new.writer)
    c.args.lines.now c.loop-number.lines records c.loop-number.number [] within c.loop-number.invariant c.write_taken.new.lines
    (subst (λ new. Leaves (g.W.Write.contents c.loop-number.writer) (g.W.Write.contents c.write_taken.new.writer) (c.loop-number.lines ++ new) c.write_taken.new.lines) text c.in_ok-write_taken.ensures.ok)

pub returns-in_err-write_taken-clause-front : goal.returns-in_err-write_taken-clause-front
returns-in_err-write_taken-clause-front g c =
    let records = c.args.lane.now.records in
    let at : slice_get records c.loop-number.number ≡ Some c.in-Some.taken.now = search rules in
    let within = slice_get_within records c.loop-number.number c.in-Some.taken.now at in
    let taken = record_at records c.loop-number.number c.in-Some.taken.now [] at in
    let text : letters_text (taken_line c.args.config.now c.lane-of_lane.result.0) c.in-Some.taken.now ≡ letters_text (taken_line c.args.config.now c.args.lane.now.lane.0) (get_or records c.loop-number.number []) =
    ap₂ (λ (n : LaneId) (ns : List Notice). letters_text (taken_line c.args.config.now n.0) ns) c.lane-of_lane.ensures taken in
    line_cut (letters_text (taken_line c.args.config.now c.args.lane.now.lane.0)) (g.W.Write.contents c.args.writer.now) (g.W.Write.contents c.loop-number.writer) (g.W.Write.contents c.write_taken.new.writer)
    c.args.lines.now c.loop-number.lines records c.loop-number.number [] within c.loop-number.invariant
    (subst (λ new. WritesFront (g.W.Write.contents c.loop-number.writer) (g.W.Write.contents c.write_taken.new.writer) (c.loop-number.lines ++ new)) text c.in_err-write_taken.ensures.front)
