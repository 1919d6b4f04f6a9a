-- Blocks as Nagios reads them.
use Rattle.std.specs.Prelude.{ℕ, Bool, true, false, ◌&&◌, List, [], ◌∷◌, codes, flat_map, is_some, map, if◌then◌else◌}
use Rattle.std.specs.Str.{bytes_eq}
use Rattle.object_reader.specs.declared.block.Block.{Block}
use Rattle.object_reader.specs.declared.block.BlockKind.{BlockKind}
use Rattle.object_reader.specs.declared.block.BlockKind.TheVariants.{Service, TimePeriod}
use Rattle.object_reader.specs.declared.block.Directive.{Directive}
use Rattle.object_values.specs.claims.Values.{number_in}
use Rattle.nagios_text.specs.claims.Lone.{mark}
use Rattle.nagios_text.specs.claims.Names.{plain_name}
use Rattle.nagios_text.specs.claims.Values.{day_value, is_day, is_naming, takes_none}

abbrev pub made : (name value : List ℕ) → Directive
made name value = record { name = name; value = value }

abbrev pub is_service : BlockKind → Bool
is_service Service = true
is_service kind = false

abbrev pub is_time_period : BlockKind → Bool
is_time_period TimePeriod = true
is_time_period kind = false

-- ---- a directive without a value: one that names the block or its templates isn't there; a list or a period is given, and none; and
-- elsewhere the mark is no number and no option

abbrev pub emptied : BlockKind → List ℕ → List Directive
emptied kind name =
    if is_naming kind name then []
    else if takes_none name then made name (codes "null") ∷ []
    else made name mark ∷ []

-- ---- volatile services

abbrev pub is_volatile : BlockKind → List ℕ → Bool
is_volatile kind name = is_service kind && bytes_eq name (codes "is_volatile")

-- the value that is looked at for a fault: a number has none
abbrev pub looked_at : List ℕ → List ℕ
looked_at value = if is_some (number_in value) then codes "0" else value

-- the number stands by a name that no text has, and what isn't one is looked at as ever
abbrev pub volatile_said : List ℕ → List Directive
volatile_said value =
    made (codes "is_volatile") (looked_at value) ∷ made (codes "is volatile") value ∷ []

-- ---- all others

abbrev pub value_said : BlockKind → (name value : List ℕ) → List ℕ
value_said kind name value =
    if is_time_period kind && is_day name then day_value value else value

-- what a directive of this name means
abbrev pub said : BlockKind → (name value : List ℕ) → List Directive
said kind name value =
    if bytes_eq value mark then emptied kind name
    else if is_volatile kind name then volatile_said value
    else made name (value_said kind name value) ∷ []

abbrev pub plain_directive : BlockKind → Directive → List Directive
plain_directive kind directive = said kind (plain_name kind directive.name) directive.value

-- ---- blocks

abbrev pub plain_block : Block → Block
plain_block block = record block { directives = flat_map (plain_directive block.kind) block.directives }

abbrev pub plain_blocks : List Block → List Block
plain_blocks blocks = map plain_block blocks
