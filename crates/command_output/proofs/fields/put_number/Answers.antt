use Rattle.std.proofs.Common.{◌≡◌, ◌+◌, ◌-◌, ◌<◌, ◌≤◌, ◌^◌, ℕ, List, ◌∷◌, decimal, drop, length, arith, rules, ap, ◌∙◌}
use Rattle.std.proofs.lemmas.Fmt.{length-decimal-le}
use Rattle.std.proofs.lemmas.List.{drop-set}
use Rattle.command_output.proofs.fields.put_number.Goals as goal

short : (n : ℕ) → n < 2 ^ 64 → length (decimal n) ≤ 20
short n h = search (rules, length-decimal-le 20)

before_end : (start digits end : ℕ) → digits ≤ 20 → 21 ≤ end → start + digits ≡ end → 1 ≤ start
before_end start digits end d e s = omega (arith, d, e, s)

pub write_digits-start-requires : goal.write_digits-start-requires
write_digits-start-requires c = (omega (arith, short c.args.number c.ranges.number.fits, c.requires.room), c.requires.within)

pub overflow_sub-start : goal.overflow_sub-start
overflow_sub-start c =
    before_end c.write_digits-start.result (length (decimal c.args.number)) c.args.end (short c.args.number c.ranges.number.fits) c.requires.room c.write_digits-start.ensures.start

pub returns-clause-place : goal.returns-clause-place
returns-clause-place c =
    let few = short c.args.number c.ranges.number.fits in
    let at = c.write_digits-start.ensures.start in
    (omega (arith, few, at), omega (arith, few, at))

pub returns-clause-written : goal.returns-clause-written
returns-clause-written c =
    let start = c.write_digits-start.result in
    let text = c.write_digits-start.new.buf in
    let positive = before_end start (length (decimal c.args.number)) c.args.end (short c.args.number c.ranges.number.fits) c.requires.room c.write_digits-start.ensures.start in
    let less : start - 1 < length text = omega (arith, positive, c.write_digits-start.ensures.start, c.requires.within, c.write_digits-start.auto.buf) in
    let next : start - 1 + 1 ≡ start = omega (arith, positive) in
    drop-set text (start - 1) 59 less ∙ ap (λ (xs : List ℕ). 59 ∷ xs) (ap (λ (i : ℕ). drop i text) next ∙ c.write_digits-start.ensures.written)
