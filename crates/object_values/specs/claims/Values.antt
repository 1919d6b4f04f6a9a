-- What the directives of a block say (chapter "Object Definitions").
use Rattle.std.specs.Prelude.{ℕ, ◌-◌, Bool, not, ◌==◌, nat_le, List, [], length, map, filter, find, reverse, Option, Some, None, if◌then◌else◌}
use Rattle.std.specs.Char.{is_ascii_digit}
use Rattle.std.specs.Int.Digits.{number_from_digits}
use Rattle.std.specs.List.{list_all, slice_split, before_first}
use Rattle.std.specs.Option.{option_map, option_map_or}
use Rattle.std.specs.Str.{bytes_eq}
use Rattle.due_model.specs.claims.Limits.{max_number}
use Rattle.object_reader.specs.claims.Blanks.{trimmed}
use Rattle.object_reader.specs.declared.block.Directive.{Directive}

-- The value of a directive, where the block has it. Of one that is given twice the last counts.
abbrev pub value_in : List Directive → List ℕ → Option (List ℕ)
value_in directives name =
    option_map (λ d. d.value) (find (λ d. bytes_eq d.name name) (reverse directives))

-- ---- lists

abbrev pub is_comma : ℕ → Bool
is_comma b = b == 44

-- The entries of a list: what stands between the commas, without the blanks round it, where
-- anything does.
abbrev pub entries : List ℕ → List (List ℕ)
entries value = filter (λ e. not (length e == 0)) (map trimmed (slice_split is_comma value))

-- the entries of the list that a directive gives; none where the block lacks it
abbrev pub entries_of : Option (List ℕ) → List (List ℕ)
entries_of value = option_map_or entries value []

-- the command that an entry of a list of notification commands names: what stands before the first
-- !
abbrev pub command_name : List ℕ → List ℕ
command_name entry = before_first (λ b. b == 33) entry

-- ---- numbers

-- the number that the digits write; leading zeros are allowed
abbrev pub number_of : List ℕ → ℕ
number_of digits = number_from_digits 10 (map (λ digit. digit - 48) digits)

-- a number of object text: decimal digits, of 0 to 1,000,000
abbrev pub number_in : List ℕ → Option ℕ
number_in value = if length value == 0 then None
    else if not (list_all is_ascii_digit value) then None
    else if nat_le (number_of value) max_number then Some (number_of value) else None
