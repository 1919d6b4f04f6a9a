use Rattle.std.proofs.Common.{◌≡◌, ◌+◌, ◌-◌, ◌∙◌, ℕ, List, eqb, not, length, take, ap, arith}
use Rattle.std.specs.List.{position_or_len}
use Rattle.std.proofs.lemmas.List.Sums.{prefix_len-le-length}
use Rattle.text_lines.proofs.Fronts.{prefix_len-front, prefix_len-back}
use Rattle.text_lines.proofs.bytes.find_by.Goals as goal

pub returns-then-near : goal.returns-then-near
returns-then-near g c =
    let bytes = c.args.bytes.now in
    let front = c.in_ok-first_chunk.ensures.cases in
    let near : c.find_in-near.result ≡ position_or_len (λ b. eqb b c.args.byte) (take g.row.N bytes) =
    c.find_in-near.ensures ∙ ap (λ (part : List ℕ). position_or_len (λ b. eqb b c.args.byte) part) front.same in
    near ∙ prefix_len-front (λ b. not (eqb b c.args.byte)) bytes g.row.N front.enough (omega (arith, near, c.if-near.true))

pub overflow_add-result : goal.overflow_add-result
overflow_add-result g c =
    let back = c.in_ok-last_chunk.ensures.cases in
    omega (
      arith,
      c.find_in.ensures,
      prefix_len-le-length (λ b. not (eqb b c.args.byte)) c.in_ok-last_chunk.field-0.now,
      ap (λ (part : List ℕ). length part) back.1.same,
      back.1.long,
      c.if-bytes.false,
      c.requires.1,
    )

pub returns : goal.returns
returns g c =
    let bytes = c.args.bytes.now in
    let front = c.in_ok-first_chunk.ensures.cases in
    let back = c.in_ok-last_chunk.ensures.cases in
    let near : c.find_in-near.result ≡ position_or_len (λ b. eqb b c.args.byte) (take g.row.N bytes) =
    c.find_in-near.ensures ∙ ap (λ (part : List ℕ). position_or_len (λ b. eqb b c.args.byte) part) front.same in
    ap (λ (k : ℕ). length bytes - g.row.N + k) (c.find_in.ensures ∙ ap (λ (part : List ℕ). position_or_len (λ b. eqb b c.args.byte) part) back.1.same)
    ∙ prefix_len-back (λ b. not (eqb b c.args.byte)) bytes g.row.N front.enough (omega (arith, c.if-bytes.false)) (omega (arith, near, c.if-near.false))
