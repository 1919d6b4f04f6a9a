use Rattle.std.proofs.Common.{◌-◌, ℕ, List, length, take, drop, ltb, ap, ◌∙◌}
use Rattle.std.specs.List.{list_any}
use Rattle.std.proofs.lemmas.List.{take_rest}
use Rattle.text_lines.specs.claims.Lines.{is_newline}
use Rattle.text_lines.proofs.Pieces.{position-any}
use Rattle.text_lines.proofs.bytes.has_line.Goals as goal

pub returns : goal.returns
returns c =
    let bytes = c.args.bytes.now in
    let empty = c.count_newlines.result in
    let rest = take (length bytes - empty) (drop empty bytes) in
    ap (λ (place : ℕ). ltb place (length rest)) c.find_byte.ensures.place
    ∙ position-any is_newline rest
    ∙ ap (λ (xs : List ℕ). list_any is_newline xs) (take_rest bytes empty)
    ∙ ap (λ (k : ℕ). list_any is_newline (drop k bytes)) c.count_newlines.ensures
