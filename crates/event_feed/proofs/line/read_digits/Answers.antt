use Rattle.std.proofs.Common.{◌≡◌, ◌∙◌, ℕ, List, take, sym, ap, arith}
use Rattle.std.specs.Char.{is_ascii_digit}
use Rattle.std.specs.List.{prefix_len}
use Rattle.event_feed.specs.claims.Line.{digits_number}
use Rattle.event_feed.proofs.Parts.{ten_digits, ReadsDigits-ten, ReadsDigits-count, ReadsDigits-number}
use Rattle.event_feed.proofs.line.read_digits.Goals as goal

pub read_ten_digits-requires : goal.read_ten_digits-requires
read_ten_digits-requires c =
    let bytes = c.args.bytes.now in
    let front = c.in-Some-Some.ensures.cases in
    let ten : prefix_len is_ascii_digit (take 16 bytes) ≡ 10 =
    ap (λ (part : List ℕ). prefix_len is_ascii_digit part) (sym front.same) ∙ sym c.count_digits.ensures ∙ c.if-count_digits-eq10.true in
    rw c.in-Some-Some.ensures'.cases.same (ten_digits bytes front.enough ten)

pub returns-in-Some-Some-clause-count : goal.returns-in-Some-Some-clause-count
returns-in-Some-Some-clause-count c =
    let bytes = c.args.bytes.now in
    let front = c.in-Some-Some.ensures.cases in
    let ten : prefix_len is_ascii_digit (take 16 bytes) ≡ 10 =
    ap (λ (part : List ℕ). prefix_len is_ascii_digit part) (sym front.same) ∙ sym c.count_digits.ensures ∙ c.if-count_digits-eq10.true in
    let reads = ReadsDigits-ten bytes c.read_ten_digits.result front.enough ten
    (c.read_ten_digits.ensures.number ∙ ap digits_number c.in-Some-Some.ensures'.cases.same) c.read_ten_digits.ensures.few in
    ReadsDigits-count bytes 10 c.read_ten_digits.result reads.0 (omega (arith, front.enough)) (λ _. reads.1)

pub returns-in-Some-Some-clause-number : goal.returns-in-Some-Some-clause-number
returns-in-Some-Some-clause-number c =
    let bytes = c.args.bytes.now in
    let front = c.in-Some-Some.ensures.cases in
    let ten : prefix_len is_ascii_digit (take 16 bytes) ≡ 10 =
    ap (λ (part : List ℕ). prefix_len is_ascii_digit part) (sym front.same) ∙ sym c.count_digits.ensures ∙ c.if-count_digits-eq10.true in
    let reads = ReadsDigits-ten bytes c.read_ten_digits.result front.enough ten
    (c.read_ten_digits.ensures.number ∙ ap digits_number c.in-Some-Some.ensures'.cases.same) c.read_ten_digits.ensures.few in
    ReadsDigits-number bytes 10 c.read_ten_digits.result reads.0 (omega (arith, front.enough)) (λ _. reads.1)
