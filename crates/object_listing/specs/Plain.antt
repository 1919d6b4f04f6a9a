-- What blocks give themselves for their directives, as values, without templates; none where a block gives nothing
-- (chapter "Object Definitions").
use Rattle.std.specs.Prelude.{ℕ, List, Option}
use Rattle.std.specs.Option.{option_and_then, option_map}
use Rattle.due_model.specs.declared.config.PeriodId.{PeriodId}
use Rattle.due_model.specs.declared.options.OptionLetters.{OptionLetters}
use Rattle.object_groups.specs.claims.Objects.{names_in}
use Rattle.object_inheritance.specs.claims.Inherited.{name_of, own, own_entries}
use Rattle.object_reader.specs.declared.block.Block.{Block}
use Rattle.object_reader.specs.declared.block.BlockKind.TheVariants.{TimePeriod}
use Rattle.object_listing.specs.claims.Readings.{period_named}
use Rattle.object_values.specs.claims.Options.{options_in}
use Rattle.object_values.specs.claims.Values.{number_in}
use Rattle.object_values.specs.declared.options.OptionKind.{OptionKind}

-- a number
abbrev pub plain_number : List Block → (directive : List ℕ) → (place : ℕ) → Option ℕ
plain_number blocks directive place = option_and_then number_in (own blocks directive place)

-- the letters of an option list
abbrev pub plain_letters : List Block → (directive : List ℕ) → OptionKind → (place : ℕ)
    → Option OptionLetters
plain_letters blocks directive kind place =
    option_and_then (options_in kind) (own blocks directive place)

-- a period, by its name
abbrev pub plain_period : List Block → (directive : List ℕ) → (place : ℕ)
    → Option (Option PeriodId)
plain_period blocks directive place = option_map (period_named (names_in blocks TimePeriod))
    (option_map name_of (own blocks directive place))

-- the entries of a list
abbrev pub plain_list : List Block → (directive : List ℕ) → (place : ℕ) → Option (List (List ℕ))
plain_list blocks directive place = option_map own_entries (own blocks directive place)
