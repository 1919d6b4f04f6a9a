use Rattle.std.proofs.Common.{◌≡◌, ◌+◌, ◌-◌, ◌≤◌, ℕ, List, length, drop, arith, ap, ◌∙◌}
use Rattle.std.specs.Prelude.{slice_range}
use Rattle.std.specs.List.{position_or_len}
use Rattle.text_lines.specs.claims.Lines.{is_newline}
use Rattle.text_lines.specs.LineReader.{Reading}
use Rattle.text_lines.proofs.Ranges.{length-range, range-drop, unbroken-from, newline-from}
use Rattle.text_lines.proofs.line_reader.LineReader.find_newline.Goals as goal

pub returns-clause-before : goal.returns-clause-before
returns-clause-before g c =
    let inside = c.self.inside in
    let long : length c.args.self.now.held ≡ inside.end - inside.start = rw (← c.self.view_is) (length-range inside.buffer.items inside.start inside.end (omega arith) (omega (arith, inside.buffer.ok.0))) in
    let within : inside.start + c.args.from ≤ inside.end = omega (arith, c.requires.within) in
    let same : slice_range c.deref.result.now (inside.start + c.args.from) inside.end ≡ drop c.args.from c.args.self.now.held =
    ap (λ (b : List ℕ). slice_range b (inside.start + c.args.from) inside.end) c.deref.ensures.value
    ∙ range-drop inside.buffer.items inside.start c.args.from inside.end within
    ∙ ap (λ (reading : Reading). drop c.args.from reading.held) c.self.view_is in
    unbroken-from c.args.self.now.held c.args.from c.find_byte.result c.requires.before
    (c.find_byte.ensures.place ∙ ap (λ (b : List ℕ). position_or_len is_newline b) same)

pub returns-clause-here : goal.returns-clause-here
returns-clause-here g c =
    let inside = c.self.inside in
    let long : length c.args.self.now.held ≡ inside.end - inside.start = rw (← c.self.view_is) (length-range inside.buffer.items inside.start inside.end (omega arith) (omega (arith, inside.buffer.ok.0))) in
    let within : inside.start + c.args.from ≤ inside.end = omega (arith, c.requires.within) in
    let same : slice_range c.deref.result.now (inside.start + c.args.from) inside.end ≡ drop c.args.from c.args.self.now.held =
    ap (λ (b : List ℕ). slice_range b (inside.start + c.args.from) inside.end) c.deref.ensures.value
    ∙ range-drop inside.buffer.items inside.start c.args.from inside.end within
    ∙ ap (λ (reading : Reading). drop c.args.from reading.held) c.self.view_is in
    newline-from c.args.self.now.held c.args.from c.find_byte.result
    (c.find_byte.ensures.place ∙ ap (λ (b : List ℕ). position_or_len is_newline b) same)
