-- Addresses.
use Rattle.std.proofs.Common.{◌≡◌, ℕ, ◌<◌, ◌≤◌, Bool, true, ◌&&◌, List, [], ◌∷◌, ◌++◌, length, Err, refl, sym, ap, subst, ◌∙◌, arith}
use Rattle.std.proofs.lemmas.Str.Parse.{IsNumeralModel, not_in_digits, numerals_by_value, parse_digits, tells_all_ascii_digits}
use Rattle.std.specs.Bool.{IsTrue}
use Rattle.std.specs.Char.{is_ascii_digit}
use Rattle.std.specs.List.{list_all}
use Rattle.std.specs.Str.{all_ascii_digits}
use Rattle.std.specs.Str.Parse.{ParsesUnsigned, digits_value}
use Rattle.channel_words.specs.Words.{IsAddress, IsPort, Lacks}
use Rattle.channel_words.proofs.Parts.{has_seam, last_unique}

-- both say of each byte that it is a digit
all_are : (ds : List ℕ) → all_ascii_digits ds ≡ list_all is_ascii_digit ds
all_are [] = refl
all_are (d ∷ ds) = ap (λ (b : Bool). is_ascii_digit d && b) (all_are ds)

own : IsNumeralModel (λ ds. all_ascii_digits ds ≡ true) (digits_value 10)
own = numerals_by_value (λ ds. all_ascii_digits ds ≡ true) tells_all_ascii_digits

are_digits : (ds : List ℕ) → list_all is_ascii_digit ds ≡ true → all_ascii_digits ds ≡ true
are_digits ds h = all_are ds ∙ h

port_some : (ds : List ℕ) → IsPort ds → 0 < length ds
port_some [] p = let none : 1 ≤ 0 = p.least in absurd (omega arith)
port_some (d ∷ ds) p = omega arith

port_lacks : (ds : List ℕ) → IsPort ds → Lacks 58 ds
port_lacks ds p = not_in_digits own ds 58 (are_digits ds p.all) (λ range. omega (arith, range.1))

pub no_port : (E : Type 0) (ds : List ℕ) (e : E) → ParsesUnsigned {E = E} 16 10 ds (Err e) → IsPort ds → ⊥
no_port E ds e h p = parse_digits own {E = E} 16 ds (Err e) h (are_digits ds p.all) (port_some ds p, omega (arith, p.most))

-- an address is the host before its last colon, and the port after it
pub address_is : (bs host digits : List ℕ) → (bs ≡ host ++ 58 ∷ digits) × Lacks 58 digits → IsAddress bs → (0 < length host) × IsPort digits
address_is bs host digits (e, lacks) a =
    let same = last_unique 58 a.host host a.digits digits (sym a.whole ∙ e) (port_lacks a.digits a.port) lacks in
    (subst (λ (h : List ℕ). 0 < length h) same.0 a.some, subst IsPort same.1 a.port)

-- and no other
pub is_address : (bs host digits : List ℕ) → (bs ≡ host ++ 58 ∷ digits) × Lacks 58 digits → (r : Bool) → (IsTrue r → (0 < length host) × IsPort digits) × ((0 < length host) × IsPort digits → IsTrue r)
    → (IsTrue r → IsAddress bs) × (IsAddress bs → IsTrue r)
is_address bs host digits e r says = (
  λ yes. let p = says.0 yes in record { host = host; digits = digits; whole = e.0; some = p.0; port = p.1 },
  λ a. says.1 (address_is bs host digits e a),
)

pub no_address : (bs : List ℕ) → Lacks 58 bs → IsAddress bs → ⊥
no_address bs lacks a = has_seam 58 bs a.host a.digits a.whole lacks
