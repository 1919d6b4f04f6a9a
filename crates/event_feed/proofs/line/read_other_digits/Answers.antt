use Rattle.std.proofs.Common.{◌≡◌, ◌∙◌, arith, length, sym}
use Rattle.event_feed.proofs.Parts.{ReadsDigits-more, ReadsDigits-count, ReadsDigits-number}
use Rattle.event_feed.proofs.line.read_other_digits.Goals as goal

pub returns-then-not-is_ascii_digit-clause-count : goal.returns-then-not-is_ascii_digit-clause-count
returns-then-not-is_ascii_digit-clause-count c =
    ReadsDigits-count c.args.bytes.now c.loop-at.at c.loop-at.number c.loop-at.invariant (omega arith) (λ _. sym c.if-not-is_ascii_digit.ensures.value)

pub returns-then-not-is_ascii_digit-clause-number : goal.returns-then-not-is_ascii_digit-clause-number
returns-then-not-is_ascii_digit-clause-number c =
    ReadsDigits-number c.args.bytes.now c.loop-at.at c.loop-at.number c.loop-at.invariant (omega arith) (λ _. sym c.if-not-is_ascii_digit.ensures.value)

pub loop-at-preserved : goal.loop-at-preserved
loop-at-preserved c =
    ReadsDigits-more c.args.bytes.now c.loop-at.at c.loop-at.number c.min-number.result c.loop-at.invariant (omega arith) (sym c.if-not-is_ascii_digit.ensures.value)
    (omega (arith, c.min-number.ensures, c.from.ensures))

pub returns-clause-count : goal.returns-clause-count
returns-clause-count c =
    let all : length c.args.bytes.now ≡ c.loop-at.at = omega arith in
    all ∙ ReadsDigits-count c.args.bytes.now c.loop-at.at c.loop-at.number c.loop-at.invariant (omega arith) (λ low. absurd (omega (arith, low)))

pub returns-clause-number : goal.returns-clause-number
returns-clause-number c =
    ReadsDigits-number c.args.bytes.now c.loop-at.at c.loop-at.number c.loop-at.invariant (omega arith) (λ low. absurd (omega (arith, low)))
