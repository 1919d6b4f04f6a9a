-- Overridden: a directive given twice in a block, by other values (chapter "Object Definitions").
use Rattle.std.specs.Prelude.{ℕ, Bool, false, not, List, [], map, slice_get}
use Rattle.std.specs.Option.{option_map_or}
use Rattle.std.specs.Str.{bytes_eq}
use Rattle.object_groups.specs.claims.Names.{number_of}
use Rattle.object_reader.specs.declared.block.Block.{Block}
use Rattle.object_reader.specs.declared.block.Directive.{Directive}

-- the directives of the block at the place
abbrev pub directives_at : List Block → (place : ℕ) → List Directive
directives_at blocks place = option_map_or (λ block. block.directives) (slice_get blocks place) []

-- the names of directives
abbrev pub names_of : List Directive → List (List ℕ)
names_of directives = map (λ directive. directive.name) directives

-- whether the directive has another value than the other
abbrev pub differs : Directive → Directive → Bool
differs directive other = not (bytes_eq other.value directive.value)

-- whether the directive has another value than the first of its name
abbrev pub is_other : List Directive → Directive → Bool
is_other directives directive = option_map_or
    (λ first. option_map_or (differs directive) (slice_get directives first) false)
    (number_of (names_of directives) directive.name) false

-- the same of the directive of that number in the block at the place
abbrev pub is_other_at : List Block → (place number : ℕ) → Bool
is_other_at blocks place number = option_map_or
    (λ block. option_map_or (is_other block.directives) (slice_get block.directives number) false)
    (slice_get blocks place) false
