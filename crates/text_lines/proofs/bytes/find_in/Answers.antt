use Rattle.std.proofs.Common.{◌≡◌, ◌∙◌, eqb, length, sym, ap, arith, w8}
use Rattle.std.proofs.lemmas.Simd.{bitmask_splat, leading_from_mask_l, trailing_mask_l}
use lib.Count.{count_trailing_zeros}
use Rattle.text_lines.proofs.bytes.find_in.Goals as goal

pub returns-then-marks-eq0 : goal.returns-then-marks-eq0
returns-then-marks-eq0 g c =
    let bytes = c.args.bytes.now in
    let long : length bytes ≡ g.row.N = c.told-bytes in
    let marks = bitmask_splat w8 eqb bytes g.row.N c.args.byte long (omega (arith, c.requires.1)) in
    sym (leading_from_mask_l (λ b. eqb b c.args.byte) bytes (sym marks ∙ c.if-marks-eq0.true) ∙ long)

pub returns-else-marks-eq0 : goal.returns-else-marks-eq0
returns-else-marks-eq0 g c =
    let bytes = c.args.bytes.now in
    let long : length bytes ≡ g.row.N = c.told-bytes in
    let marks = bitmask_splat w8 eqb bytes g.row.N c.args.byte long (omega (arith, c.requires.1)) in
    ap (count_trailing_zeros 64) marks ∙ trailing_mask_l (λ b. eqb b c.args.byte) 64 bytes (omega (arith, long, c.requires.1)) (omega (arith, marks, c.if-marks-eq0.false))
