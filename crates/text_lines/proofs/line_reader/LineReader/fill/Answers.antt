use Rattle.std.proofs.Common.{◌∙◌, ◌+◌, ◌-◌, ◌++◌, ◌≤◌, List, ℕ, length, take, drop, arith, ap}
use Rattle.std.specs.Prelude.{slice_range}
use Rattle.text_lines.specs.LineReader.{Reading}
use Rattle.std.proofs.lemmas.List.{length-take, length-drop}
use Rattle.text_lines.proofs.Ranges.{written, range-filled}
use Rattle.text_lines.proofs.line_reader.LineReader.fill.Goals as goal

-- The piece is what the read put after what was held.
pub returns-in-Ok-clause-bytes : goal.returns-in-Ok-clause-bytes
returns-in-Ok-clause-bytes g c =
    let inside = c.self.inside in
    let held = inside.end - inside.start in
    let new = c.refill.new.buffer in
    let count = c.in-Ok.count in
    let bound : held + count ≤ length new = c.in-Ok.ensures.bound in (
      take count (drop held new),
      rw (length-take, length-drop) (omega (arith, c.in-Ok.count-test)),
      ap (λ (b : List ℕ). slice_range b 0 (held + count)) (written inside.buffer.items new inside.buffer.len (omega arith) inside.buffer.ok.0)
          ∙ range-filled new held count
          ∙ ap (λ (front : List ℕ). front ++ take count (drop held new))
          (c.in-Ok.ensures.kept ∙ ap (λ (b : List ℕ). slice_range b inside.start inside.end) c.as_mut_slice.ensures.value ∙ ap (λ (reading : Reading). reading.held) c.self.view_is),
      rw (← c.self.view_is) c.in-Ok.ensures.bytes.0,
    )
