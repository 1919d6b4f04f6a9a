use Rattle.std.proofs.Common.{rules, arith, ◌≡◌, ◌+◌, ◌<◌, ◌++◌, [], ℕ, Some, ap, ap₂, get_or, length, slice_get, slice_index_or, subst, sym, ◌∙◌}
use Rattle.std.proofs.lemmas.List.FromFn.{get_or-range_with_len, length-range_with_len}
use Rattle.std.proofs.lemmas.Option.{slice_get_within}
use Rattle.std.specs.List.{range_with_len}
use Rattle.due_model.specs.declared.config.LaneId.{LaneId}
use Rattle.command_output.specs.claims.RunLine.{channel_line}
use Rattle.written.specs.claims.Written.{Leaves, WritesFront}
use Rattle.written.specs.WrittenLaws.{front_less, front_none}
use Rattle.run_command.specs.claims.Report.{channel_lines}
use Rattle.run_command.proofs.ReportLaws.{line_cut, line_written, lines_all, record_at}
use Rattle.run_command.proofs.lanes.write_each_channel.Goals as goal

pub loop-number-preserved : goal.loop-number-preserved
loop-number-preserved g c =
    let records = c.args.lane.now.records in
    let at : slice_get records c.loop-number.number ≡ Some c.in-Some.taken.now = search rules in
    let inside = slice_get_within records c.loop-number.number c.in-Some.taken.now at in
    let within = subst (λ n. c.loop-number.number < n) (sym (length-range_with_len 0 (length records))) inside in
    let taken = record_at records c.loop-number.number c.in-Some.taken.now [] at in
    let zero_more : c.loop-number.number ≡ 0 + c.loop-number.number = omega arith in
    let here : c.loop-number.number ≡ get_or (range_with_len 0 (length records)) c.loop-number.number 0 = zero_more ∙ sym (get_or-range_with_len 0 (length records) c.loop-number.number 0 inside) in
    let count : length c.in-Some.taken.now ≡ length (get_or records c.loop-number.number []) = ap length taken in
    let own : channel_line c.args.config.now c.lane-of_lane.result.0 c.loop-number.number (length c.in-Some.taken.now) ≡ channel_line c.args.config.now c.args.lane.now.lane.0 c.loop-number.number (length (get_or records c.loop-number.number [])) =
    ap₂ (λ (n : LaneId) (k : ℕ). channel_line c.args.config.now n.0 c.loop-number.number k) c.lane-of_lane.ensures count in
    let text : channel_line c.args.config.now c.lane-of_lane.result.0 c.loop-number.number (length c.in-Some.taken.now) ≡ _ =
    own ∙ ap (λ (n : ℕ). channel_line c.args.config.now c.args.lane.now.lane.0 n (length (get_or records n []))) here in
    line_written (λ n. channel_line c.args.config.now c.args.lane.now.lane.0 n (length (slice_index_or c.args.lane.now.records n []))) (g.W.Write.contents c.args.writer.now) (g.W.Write.contents c.loop-number.writer) (g.W.Write.contents c.write.new.writer)
    c.args.lines.now c.loop-number.lines (range_with_len 0 (length c.args.lane.now.records)) c.loop-number.number 0 within c.loop-number.invariant c.write.new.self
    (subst (λ new. Leaves (g.W.Write.contents c.loop-number.writer) (g.W.Write.contents c.write.new.writer) (c.loop-number.lines ++ new) c.write.new.self) text c.in_ok-write.ensures.ok)

pub returns-in_err-write-clause-front : goal.returns-in_err-write-clause-front
returns-in_err-write-clause-front g c =
    let records = c.args.lane.now.records in
    let at : slice_get records c.loop-number.number ≡ Some c.in-Some.taken.now = search rules in
    let inside = slice_get_within records c.loop-number.number c.in-Some.taken.now at in
    let within = subst (λ n. c.loop-number.number < n) (sym (length-range_with_len 0 (length records))) inside in
    let taken = record_at records c.loop-number.number c.in-Some.taken.now [] at in
    let zero_more : c.loop-number.number ≡ 0 + c.loop-number.number = omega arith in
    let here : c.loop-number.number ≡ get_or (range_with_len 0 (length records)) c.loop-number.number 0 = zero_more ∙ sym (get_or-range_with_len 0 (length records) c.loop-number.number 0 inside) in
    let count : length c.in-Some.taken.now ≡ length (get_or records c.loop-number.number []) = ap length taken in
    let own : channel_line c.args.config.now c.lane-of_lane.result.0 c.loop-number.number (length c.in-Some.taken.now) ≡ channel_line c.args.config.now c.args.lane.now.lane.0 c.loop-number.number (length (get_or records c.loop-number.number [])) =
    ap₂ (λ (n : LaneId) (k : ℕ). channel_line c.args.config.now n.0 c.loop-number.number k) c.lane-of_lane.ensures count in
    let text : channel_line c.args.config.now c.lane-of_lane.result.0 c.loop-number.number (length c.in-Some.taken.now) ≡ _ =
    own ∙ ap (λ (n : ℕ). channel_line c.args.config.now c.args.lane.now.lane.0 n (length (get_or records n []))) here in
    line_cut (λ n. channel_line c.args.config.now c.args.lane.now.lane.0 n (length (slice_index_or c.args.lane.now.records n []))) (g.W.Write.contents c.args.writer.now) (g.W.Write.contents c.loop-number.writer) (g.W.Write.contents c.write.new.writer)
    c.args.lines.now c.loop-number.lines (range_with_len 0 (length c.args.lane.now.records)) c.loop-number.number 0 within c.loop-number.invariant
    (subst (λ new. WritesFront (g.W.Write.contents c.loop-number.writer) (g.W.Write.contents c.write.new.writer) (c.loop-number.lines ++ new)) text c.in_err-write.ensures.front)

pub returns-clause-ok : goal.returns-clause-ok
returns-clause-ok g c =
    let long = length-range_with_len 0 (length c.args.lane.now.records) in
    let all = lines_all (λ n. channel_line c.args.config.now c.args.lane.now.lane.0 n (length (slice_index_or c.args.lane.now.records n []))) (g.W.Write.contents c.args.writer.now) (g.W.Write.contents c.loop-number.writer) c.args.lines.now c.loop-number.lines (range_with_len 0 (length c.args.lane.now.records)) c.loop-number.number (omega (arith, long, c.served-number-end.ensures)) c.loop-number.invariant in
    all

pub returns-clause-front : goal.returns-clause-front
returns-clause-front g c =
    let long = length-range_with_len 0 (length c.args.lane.now.records) in
    let all = lines_all (λ n. channel_line c.args.config.now c.args.lane.now.lane.0 n (length (slice_index_or c.args.lane.now.records n []))) (g.W.Write.contents c.args.writer.now) (g.W.Write.contents c.loop-number.writer) c.args.lines.now c.loop-number.lines (range_with_len 0 (length c.args.lane.now.records)) c.loop-number.number (omega (arith, long, c.served-number-end.ensures)) c.loop-number.invariant in
    front_less (g.W.Write.contents c.args.writer.now) (g.W.Write.contents c.loop-number.writer) (g.W.Write.contents c.loop-number.writer) (c.args.lines.now ++ channel_lines c.args.config.now c.args.lane.now) c.loop-number.lines all (front_none (g.W.Write.contents c.loop-number.writer) c.loop-number.lines)
