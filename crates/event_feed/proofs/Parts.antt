-- The parts of a list between the elements that pass a test, and the number that the digits at its front write.
use Rattle.std.proofs.Common.{◌≡◌, ℕ, suc, ◌+◌, ◌-◌, ◌*◌, ◌^◌, ◌<◌, ◌≤◌, Bool, true, false, not, cond, eqb, leb, min, List, [], ◌∷◌, length, length-take-le, map, take, drop, get_or, Err, refl, sym, ap, ◌∙◌, ⊎_elim, arith}
use Rattle.std.specs.Char.{is_ascii_digit}
use Rattle.std.specs.List.{slice_split, onto_first, position_or_len, prefix_len, take_while}
use Rattle.std.proofs.lemmas.Bool.{and_parts, cases_lt, leb-true}
use Rattle.std.proofs.lemmas.List.{take_more, take_rest, map-append, get_or-take}
use Rattle.std.proofs.Math.Nat.{pow-suc, pow-le-pow_right}
use Rattle.std.proofs.lemmas.List.Splits.{slice_split_first}
use Rattle.std.proofs.lemmas.List.Sums.{prefix_len-le-length, prefix_len_is, prefix_len_passes, prefix_len_stops}
use Rattle.std.proofs.lemmas.Int.Digits.{number_push}
use Rattle.lemmas.proofs.Lists.{slice_split-first}
use Rattle.due_model.specs.declared.event.EventKind.{EventKind}
use Rattle.event_feed.specs.declared.fault.FeedFault.TheVariants.{BadState}
use Rattle.event_feed.specs.claims.Line.{fields, bare_reading, digits_number}
use Rattle.due_model.specs.claims.Limits.{last_moment}

-- where nothing passes, the list is the one part
pub slice_split-whole : {X : Type 0} (p : X → Bool) (xs : List X) → position_or_len p xs ≡ length xs → slice_split p xs ≡ xs ∷ []
slice_split-whole p [] none = refl
slice_split-whole p (x ∷ xs) none =
    elim (p x) as (λ b. cond (not b) (1 + position_or_len p xs) 0 ≡ length (x ∷ xs) → cond b ([] ∷ slice_split p xs) (onto_first x (slice_split p xs)) ≡ (x ∷ xs) ∷ []) [
      | true ↦ λ here. absurd (omega (arith, here))
      | false ↦ λ further. ap (λ parts. onto_first x parts) (slice_split-whole p xs (omega (arith, further)))
    ] none

pub bare_reading-fields : (kind : EventKind) (rest : List ℕ) → bare_reading kind (fields rest) ≡ Err BadState
bare_reading-fields kind rest = let split = slice_split-first (λ byte. eqb byte 59) rest in rw split.are refl

-- one more digit
pub digits_number-more : (digits : List ℕ) (at : ℕ) → at < length digits
    → digits_number (take (at + 1) digits) ≡ digits_number (take at digits) * 10 + (get_or digits at 0 - 48)
digits_number-more digits at within =
    ap digits_number (take_more digits at 0 within)
    ∙ rw (map-append (λ (digit : ℕ). digit - 48) (take at digits) (get_or digits at 0 ∷ [])) (number_push 10 (map (λ digit. digit - 48) (take at digits)) (get_or digits at 0 - 48))

-- with no `;` the bytes are one field
pub fields-whole : (bytes : List ℕ) → length bytes ≤ position_or_len (λ byte. eqb byte 59) bytes → fields bytes ≡ bytes ∷ []
fields-whole bytes past = slice_split-whole (λ byte. eqb byte 59) bytes (omega (arith, past, prefix_len-le-length (λ byte. not (eqb byte 59)) bytes))

-- the first field ends at the first `;`
pub fields-split : (bytes : List ℕ) (end : ℕ) → end ≡ position_or_len (λ byte. eqb byte 59) bytes → end < length bytes
    → fields bytes ≡ take end bytes ∷ fields (take (length bytes - (end + 1)) (drop (end + 1) bytes))
fields-split bytes end place within =
    let before : position_or_len (λ byte. eqb byte 59) bytes < length bytes = omega (arith, place, within) in
    rw take_rest (rw place (slice_split_first (λ byte. eqb byte 59) bytes 0 before))

-- ---- the digits of a stamp

-- the first bytes are digits, and this is their number, up to the first after the range
pub record ReadsDigits (bytes : List ℕ) (at number : ℕ) : Type 0 where
  pub digits : (k : ℕ) → k < at → is_ascii_digit (get_or bytes k 0) ≡ true
  pub value : number ≡ min (digits_number (take at bytes)) (last_moment + 1)

pub ReadsDigits-none : (bytes : List ℕ) → ReadsDigits bytes 0 0
ReadsDigits-none bytes = record {
  digits = λ k low. absurd (omega (arith, low));
  value = refl;
}

pub ReadsDigits-more : (bytes : List ℕ) (at number number' : ℕ) → ReadsDigits bytes at number → at < length bytes → is_ascii_digit (get_or bytes at 0) ≡ true
    → number' ≡ min (number * 10 + (get_or bytes at 0 - 48)) (last_moment + 1) → ReadsDigits bytes (at + 1) number'
ReadsDigits-more bytes at number number' reads within digit next = record {
  digits = λ k low. ⊎_elim
      (λ (early : k < at). reads.digits k early)
      (λ (late : at ≤ k). let same : k ≡ at = omega arith in ap (λ (i : ℕ). is_ascii_digit (get_or bytes i 0)) same ∙ digit)
      (cases_lt k at);
  value = rw (digits_number-more bytes at within) (omega (arith, next, reads.value));
}

-- the digits end where there is no further byte, or one that is no digit
pub ReadsDigits-end : (bytes : List ℕ) (at number : ℕ) → ReadsDigits bytes at number → at ≤ length bytes → (at < length bytes → is_ascii_digit (get_or bytes at 0) ≡ false)
    → take_while is_ascii_digit bytes ≡ take at bytes
ReadsDigits-end bytes at number reads within stops = ap (λ (n : ℕ). take n bytes) (prefix_len_is is_ascii_digit bytes at 0 within reads.digits stops)

pub ReadsDigits-count : (bytes : List ℕ) (at number : ℕ) → ReadsDigits bytes at number → at ≤ length bytes → (at < length bytes → is_ascii_digit (get_or bytes at 0) ≡ false)
    → at ≡ length (take_while is_ascii_digit bytes)
ReadsDigits-count bytes at number reads within stops = sym (ap (λ (digits : List ℕ). length digits) (ReadsDigits-end bytes at number reads within stops) ∙ length-take-le at bytes within)

pub ReadsDigits-number : (bytes : List ℕ) (at number : ℕ) → ReadsDigits bytes at number → at ≤ length bytes → (at < length bytes → is_ascii_digit (get_or bytes at 0) ≡ false)
    → number ≡ min (digits_number (take_while is_ascii_digit bytes)) (last_moment + 1)
ReadsDigits-number bytes at number reads within stops =
    reads.value ∙ ap (λ (digits : List ℕ). min (digits_number digits) (last_moment + 1)) (sym (ReadsDigits-end bytes at number reads within stops))

-- ten digits

pub digit-is : (x : ℕ) → is_ascii_digit x ≡ true → (48 ≤ x) × (x ≤ 57)
digit-is x digit = let parts = and_parts (leb 48 x) (leb x 57) digit in (leb-true 48 x parts.0, leb-true x 57 parts.1)

-- so many were read, and this is their number
pub record ReadsTen (digits : List ℕ) (at number : ℕ) : Type 0 where
  pub value : number ≡ digits_number (take at digits)
  pub few : number < 10 ^ at

pub ReadsTen-more : (digits : List ℕ) (at number : ℕ) → ReadsTen digits at number → at < length digits → is_ascii_digit (get_or digits at 0) ≡ true
    → ReadsTen digits (at + 1) (number * 10 + get_or digits at 0 - 48)
ReadsTen-more digits at number reads within digit =
    let is = digit-is (get_or digits at 0) digit in
    let power : 10 ^ (at + 1) ≡ 10 ^ at * 10 = ap (λ (n : ℕ). 10 ^ n) {x = at + 1} {y = suc at} (omega arith) ∙ pow-suc 10 at in
    record {
      value = rw (digits_number-more digits at within) (omega (arith, reads.value, is.0));
      few = omega (arith, reads.few, is.0, is.1, power);
    }

-- the number so far leaves room
pub ReadsTen-room : (digits : List ℕ) (at number : ℕ) → ReadsTen digits at number → at ≤ 10 → number < 10 ^ 10
ReadsTen-room digits at number reads within = omega (arith, reads.few, pow-le-pow_right {n = 10} (omega arith) within)

-- of sixteen bytes that begin with just ten digits, the first ten
pub ten_digits : (bytes : List ℕ) → 16 ≤ length bytes → prefix_len is_ascii_digit (take 16 bytes) ≡ 10 → (k d : ℕ) → k < length (take 10 bytes) → is_ascii_digit (get_or (take 10 bytes) k d) ≡ true
ten_digits bytes long ten k d within =
    let low : k < 10 = omega (arith, within, length-take-le 10 bytes (omega (arith, long))) in
    ap is_ascii_digit (get_or-take 10 bytes k d low ∙ sym (get_or-take 16 bytes k d (omega (arith, low)))) ∙ prefix_len_passes is_ascii_digit (take 16 bytes) k d (omega (arith, low, ten))

-- sixteen bytes that begin with just ten digits
pub ReadsDigits-ten : (bytes : List ℕ) (number : ℕ) → 16 ≤ length bytes → prefix_len is_ascii_digit (take 16 bytes) ≡ 10 → number ≡ digits_number (take 10 bytes) → number < 10 ^ 10
    → ReadsDigits bytes 10 number × (is_ascii_digit (get_or bytes 10 0) ≡ false)
ReadsDigits-ten bytes number long ten is few =
    let front : length (take 16 bytes) ≡ 16 = length-take-le 16 bytes long in (
      record {
        digits = λ k low. sym (ap is_ascii_digit (get_or-take 16 bytes k 0 (omega (arith, low)))) ∙ prefix_len_passes is_ascii_digit (take 16 bytes) k 0 (omega (arith, low, ten));
        value = omega (arith, is, few);
      },
      sym (ap is_ascii_digit (ap (λ (k : ℕ). get_or (take 16 bytes) k 0) ten ∙ get_or-take 16 bytes 10 0 (omega arith))) ∙ prefix_len_stops is_ascii_digit (take 16 bytes) 0 (omega (arith, front, ten)),
    )
