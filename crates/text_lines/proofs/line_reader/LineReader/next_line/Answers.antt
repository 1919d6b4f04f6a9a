use Rattle.std.proofs.Common.{◌≡◌, ◌<◌, ◌∙◌, false, length, take, ap, subst, sym, arith}
use Rattle.std.proofs.Math.Seq.{take-length}
use Rattle.std.proofs.lemmas.Bool.{true≢false}
use Rattle.std.proofs.lemmas.List.Folds.{list_any_none}
use Rattle.text_lines.specs.claims.Lines.{has_newline, is_newline}
use Rattle.text_lines.specs.Lines.{IsUnbroken}
use Rattle.text_lines.proofs.ReadLines.{OnTheWay-none, Reads-line, held-line, fits-text}
use Rattle.text_lines.proofs.line_reader.LineReader.next_line.Goals as goal

pub returns-then-place-held_len-clause-line : goal.returns-then-place-held_len-clause-line
returns-then-place-held_len-clause-line g c =
    let found = c.find_newline-place in
    let within : found.result < length c.args.self.now.held = omega arith in
    Reads-line c.args.self.now c.args.self.now c.end_line.new.self 0 found.result (OnTheWay-none c.args.self.now)
    (λ none. absurd (omega arith)) found.ensures.before within (found.ensures.here within)
    c.end_line.ensures.line c.end_line.ensures.held c.end_line.ensures.unread c.end_line.result c.end_line.ensures.how

pub returns-then-place-held_len-clause-held : goal.returns-then-place-held_len-clause-held
returns-then-place-held_len-clause-held g c =
    let found = c.find_newline-place in
    let within : found.result < length c.args.self.now.held = omega arith in
    λ _. record {
      text = take found.result c.args.self.now.held;
      begins = held-line c.args.self.now.held c.end_line.new.self.held found.result found.ensures.before within (found.ensures.here within) c.end_line.ensures.held;
      fits = fits-text c.end_line.result c.end_line.new.self.line _ c.end_line.ensures.line;
      calls = c.end_line.ensures.calls;
    }

pub returns-else-place-held_len-clause-held : goal.returns-else-place-held_len-clause-held
returns-else-place-held_len-clause-held g c =
    let found = c.find_newline-place in
    let all : found.result ≡ length c.args.self.now.held = omega arith in
    let none : has_newline c.args.self.now.held ≡ false = list_any_none is_newline c.args.self.now.held
    (subst IsUnbroken (ap (λ count. take count c.args.self.now.held) all ∙ take-length c.args.self.now.held) found.ensures.before) in
    λ any. absurd (true≢false (sym any ∙ none))
