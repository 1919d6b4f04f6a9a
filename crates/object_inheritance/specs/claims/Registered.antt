-- Which blocks are objects (chapter "Object Inheritance").
use Rattle.std.specs.Prelude.{ℕ, Bool, false, not, ◌==◌, List, Option}
use Rattle.std.specs.Option.{option_and_then, option_map_or}
use Rattle.object_values.specs.claims.Values.{number_in}

-- whether the value of a block's own `register` makes it an object: none does, and any but 0
abbrev pub registers : Option (List ℕ) → Bool
registers text = not (option_map_or (λ number. number == 0) (option_and_then number_in text) false)
