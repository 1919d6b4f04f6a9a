-- The name of a journal's file.
use Rattle.std.specs.Prelude.{ℕ, ◌+◌, ◌/◌, ◌%◌, ◌==◌, ◌&&◌, ◌||◌, Bool, nat_le, nat_lt, List, [], ◌∷◌, ◌++◌, flat_map, decimal, if◌then◌else◌}

-- a letter, a digit, `-` or `_`
abbrev pub is_plain : ℕ → Bool
is_plain byte =
    (nat_le 48 byte && nat_le byte 57) || (nat_le 65 byte && nat_le byte 90) || (nat_le 97 byte && nat_le byte 122)
    || (byte == 45) || (byte == 95)

-- a hexadecimal digit
abbrev pub hex_digit : ℕ → ℕ
hex_digit n = if nat_lt n 10 then n + 48 else n + 55

-- a byte as it is, or `%` and its two hexadecimal digits
abbrev pub escaped : ℕ → List ℕ
escaped byte = if is_plain byte then byte ∷ [] else 37 ∷ hex_digit (byte / 16) ∷ hex_digit (byte % 16) ∷ []

-- the command's name, a point and the number of the channel among the lane's
abbrev pub file_name : (lane : List ℕ) → (number : ℕ) → List ℕ
file_name lane number = flat_map escaped lane ++ 46 ∷ decimal number
