use Rattle.std.proofs.Common.{◌≡◌, ◌∙◌, ℕ, List, eqb, not, take, ap, arith}
use Rattle.std.specs.List.{position_or_len}
use Rattle.text_lines.proofs.Fronts.{prefix_len-front}
use Rattle.text_lines.proofs.bytes.find_byte.Goals as goal

pub returns-then-near-lt64-clause-place : goal.returns-then-near-lt64-clause-place
returns-then-near-lt64-clause-place c =
    let bytes = c.args.bytes.now in
    let front = c.in-Some.ensures.cases in
    let near : c.find_in-near.result ≡ position_or_len (λ b. eqb b c.args.byte) (take 64 bytes) =
    c.find_in-near.ensures ∙ ap (λ (part : List ℕ). position_or_len (λ b. eqb b c.args.byte) part) front.same in
    near ∙ prefix_len-front (λ b. not (eqb b c.args.byte)) bytes 64 front.enough (omega (arith, near, c.if-near-lt64.true))
