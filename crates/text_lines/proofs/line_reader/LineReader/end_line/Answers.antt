use Rattle.std.proofs.Common.{◌≡◌, ◌+◌, ◌-◌, arith, length}
use Rattle.text_lines.proofs.Ranges.{length-range, range-drop}
use Rattle.text_lines.proofs.line_reader.LineReader.end_line.Goals as goal

pub returns-clause-held : goal.returns-clause-held
returns-clause-held g c =
    let inside = c.self.inside in
    let long : length c.args.self.now.held ≡ inside.end - inside.start = rw (← c.self.view_is) (length-range inside.buffer.items inside.start inside.end (omega arith) (omega (arith, inside.buffer.ok.0))) in
    let same : inside.start + c.args.place + 1 ≡ inside.start + (c.args.place + 1) = omega arith in
    rw (same, ← c.self.view_is) (range-drop inside.buffer.items inside.start (c.args.place + 1) inside.end (omega arith))
