-- What blocks have for their directives, as values, templates taken into account (chapters "Object
-- Definitions" and "Object Inheritance").
use Rattle.std.specs.Prelude.{ℕ, Bool, not, ◌==◌, List, length, Option, None, unwrap_or, if◌then◌else◌}
use Rattle.std.specs.Option.{option_and_then, option_map, option_map_or}
use Rattle.due_model.specs.claims.Options.{every_letter}
use Rattle.due_model.specs.declared.config.PeriodId.{PeriodId}
use Rattle.due_model.specs.declared.options.OptionLetters.{OptionLetters}
use Rattle.due_model.specs.declared.state.StateSet.{StateSet}
use Rattle.object_groups.specs.claims.Names.{number_of}
use Rattle.object_inheritance.specs.claims.Inherited.{name, value}
use Rattle.object_reader.specs.declared.block.Block.{Block}
use Rattle.object_values.specs.claims.Options.{criteria_in, options_in}
use Rattle.object_values.specs.claims.Values.{number_in}
use Rattle.object_values.specs.declared.options.CriteriaKind.{CriteriaKind}
use Rattle.object_values.specs.declared.options.OptionKind.{OptionKind}

-- ---- numbers and flags

-- the number that the block at a place has for a directive; none where it has none
abbrev pub own_number : List Block → (directive : List ℕ) → (place : ℕ) → Option ℕ
own_number blocks directive place = option_and_then number_in (value blocks directive place)

-- the same, and another number where it has none
abbrev pub number_at : List Block → (directive : List ℕ) → (other place : ℕ) → ℕ
number_at blocks directive other place = unwrap_or (own_number blocks directive place) other

-- A flag: 0 is off, and another number on.
abbrev pub is_on : List Block → (directive : List ℕ) → (by_default : Bool) → (place : ℕ) → Bool
is_on blocks directive by_default place =
    option_map_or (λ number. not (number == 0)) (own_number blocks directive place) by_default

-- ---- options and states

-- the letters that the block at a place allows; every one where it doesn't say
abbrev pub letters_at : List Block → (directive : List ℕ) → OptionKind → (place : ℕ) → OptionLetters
letters_at blocks directive kind place =
    unwrap_or (option_and_then (options_in kind) (value blocks directive place)) every_letter

-- the same, and other letters where it doesn't say
abbrev pub letters_or : List Block → (directive : List ℕ) → OptionKind → (other : OptionLetters)
    → (place : ℕ) → OptionLetters
letters_or blocks directive kind other place =
    unwrap_or (option_and_then (options_in kind) (value blocks directive place)) other

-- the states that the failure criteria of the block at a place name; none where it has no criteria, which
-- isn't an empty list
abbrev pub own_states : List Block → (directive : List ℕ) → CriteriaKind → (place : ℕ)
    → Option StateSet
own_states blocks directive kind place =
    option_and_then (criteria_in kind) (value blocks directive place)

-- ---- periods

-- a period by its number
abbrev pub period_of : ℕ → PeriodId
period_of number = record { 0 = number }

-- the period of a name; none, which is always, where the name is empty
abbrev pub period_named : (periods : List (List ℕ)) → List ℕ → Option PeriodId
period_named periods name =
    if length name == 0 then None else option_map period_of (number_of periods name)

-- The period that the block at a place has for a directive; none where it doesn't say, which isn't the same
-- as always.
abbrev pub own_period : (periods : List (List ℕ)) → List Block → (directive : List ℕ) → (place : ℕ)
    → Option (Option PeriodId)
own_period periods blocks directive place =
    option_map (period_named periods) (name blocks directive place)

-- the same, and always where it doesn't say
abbrev pub period_at : (periods : List (List ℕ)) → List Block → (directive : List ℕ) → (place : ℕ)
    → Option PeriodId
period_at periods blocks directive place =
    unwrap_or (own_period periods blocks directive place) None
