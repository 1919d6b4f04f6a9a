-- The faults of the values that registered blocks have: which block has the first.
use Rattle.std.specs.Prelude.{◌≡◌, ℕ, ◌<◌, Bool, false, not, ◌==◌, ◌&&◌, ◌||◌, List, length, codes, is_none, Option, None, Some, slice_get, if◌then◌else◌}
use Rattle.std.specs.List.{list_any}
use Rattle.std.specs.Option.{option_map_or}
use Rattle.object_reader.specs.declared.block.Block.{Block}
use Rattle.object_reader.specs.declared.block.BlockKind.{BlockKind}
use Rattle.object_groups.specs.claims.Names.{is_exclusion}
use Rattle.object_groups.specs.claims.Objects.{list_at}
use Rattle.object_inheritance.specs.claims.Inherited.{value}
use Rattle.object_inheritance.specs.claims.Registered.{registers}
use Rattle.object_values.specs.claims.Options.{criteria_in, options_in}
use Rattle.object_values.specs.claims.Ranges.{are_ranges}
use Rattle.object_values.specs.claims.Values.{number_in, value_in}
use Rattle.object_faults.specs.claims.Dated.{has_bad_line, has_other_line}
use Rattle.object_faults.specs.declared.column.Check.{Check}
use Rattle.object_faults.specs.declared.column.Check.TheVariants.{Given, Number, Options, Criteria, Ranges, Zero, Names}
use Rattle.object_faults.specs.declared.fault.ValueFault.{ValueFault}
use Rattle.object_faults.specs.declared.fault.ValueFault.TheVariants.{MissingDirective, BadNumber, BadOption, BadRange, Volatile, Exclusion, DatedException}
use Rattle.object_faults.specs.declared.needs.Need.{Need}
use Rattle.object_faults.specs.declared.needs.Need.TheVariants as needs
use Rattle.object_faults.specs.declared.needs.Side.{Side}
use Rattle.object_faults.specs.declared.needs.Side.TheVariants.{Masters, Dependents}
use Rattle.object_inheritance.specs.claims.Kinds.{is_period, means_nothing}
use Rattle.object_faults.specs.claims.Tables.{description_directive, group_directive, host_directive, service_group_directive}
use Rattle.object_faults.specs.claims.Tables.{name_lists, names, needed, numbers, option_lists, range_lines, zeros}

-- ---- what a block must list

-- whether the block at the place has an entry in its list for the directive
abbrev pub is_listed : List Block → ℕ → List ℕ → Bool
is_listed blocks place directive = not (length (list_at blocks directive place) == 0)

-- a host, by itself or by a group
abbrev pub has_hosts : List Block → ℕ → Side → Bool
has_hosts blocks place side = is_listed blocks place (host_directive side)
    || is_listed blocks place (group_directive side)

-- the services of hosts by their descriptions, or those of a group
abbrev pub has_services : List Block → ℕ → Side → Bool
has_services blocks place side =
    (has_hosts blocks place side && is_listed blocks place (description_directive side))
    || is_listed blocks place (service_group_directive side)

abbrev pub lacks_need : List Block → ℕ → Side → Need → Bool
lacks_need blocks place side needs.Nothing = false
lacks_need blocks place side needs.Hosts = not (has_hosts blocks place side)
lacks_need blocks place side needs.Services = not (has_services blocks place side)

-- whether the block at the place, of the type, lacks what it must list on the side
abbrev pub lacks : List Block → ℕ → BlockKind → Side → Bool
lacks blocks place kind side = lacks_need blocks place side (needed kind side)

-- ---- what its directives must be

-- Whether a text isn't what a directive must be. A text that isn't a number isn't one other than 0.
abbrev pub breaks : Check → List ℕ → Bool
breaks Number text = is_none (number_in text)
breaks (Options kind) text = is_none (options_in kind text)
breaks (Criteria kind) text = is_none (criteria_in kind text)
breaks Ranges text = not (are_ranges text)
breaks Zero text = option_map_or (λ number. not (number == 0)) (number_in text) false
breaks Given text = false
breaks Names text = false

-- Whether what the block at the place has for the directive, itself or by a template, isn't what it must be:
-- where it must be given, nothing; where it is a list of names, one that has an exclusion.
abbrev pub is_broken : List Block → ℕ → Check → List ℕ → Bool
is_broken blocks place Given directive = is_none (value blocks directive place)
is_broken blocks place Names directive = list_any is_exclusion (list_at blocks directive place)
is_broken blocks place check directive =
    option_map_or (breaks check) (value blocks directive place) false

-- whether a block is an object: its type means something, and it isn't a template alone
abbrev pub is_registered : Block → Bool
is_registered block =
    not (means_nothing block.kind) && registers (value_in block.directives (codes "register"))

-- of several faults the first counts
abbrev pub fault_by : (missing number option range volatile exclusion dated : Bool)
    → Option ValueFault
fault_by missing number option range volatile exclusion dated =
    if missing then Some MissingDirective
    else if number then Some BadNumber
    else if option then Some BadOption
    else if range then Some BadRange
    else if volatile then Some Volatile
    else if exclusion then Some Exclusion
    else if dated then Some DatedException
    else None

-- whether the block at the place, of the type, lacks its name or what it must list
abbrev pub is_lacking : List Block → ℕ → BlockKind → Bool
is_lacking blocks place kind = list_any (is_broken blocks place Given) (names kind)
    || lacks blocks place kind Masters || lacks blocks place kind Dependents

-- The fault of the values that the block at the place, of the type, has. A line of dates that is none counts
-- as one that isn't ranges.
abbrev pub value_fault : List Block → ℕ → BlockKind → Option ValueFault
value_fault blocks place kind = fault_by
    (is_lacking blocks place kind)
    (list_any (is_broken blocks place Number) (numbers kind))
    (list_any (λ row. is_broken blocks place row.0 row.1) (option_lists kind))
    (list_any (is_broken blocks place Ranges) (range_lines kind)
    || (is_period kind && has_bad_line blocks place))
    (list_any (is_broken blocks place Zero) (zeros kind))
    (list_any (is_broken blocks place Names) (name_lists kind))
    (is_period kind && has_other_line blocks place)

-- the same, if it is registered
abbrev pub fault_of : List Block → ℕ → Block → Option ValueFault
fault_of blocks place block =
    if is_registered block then value_fault blocks place block.kind else None

-- no block has a fault
abbrev pub AreFree : List Block → Type 0
AreFree blocks = (k : ℕ) (block : Block)
    → slice_get blocks k ≡ Some block → fault_of blocks k block ≡ None

-- the line is that of the first block with a fault, and the fault is that block's
pub record IsFirstFault (blocks : List Block) (line : ℕ) (fault : ValueFault) : Type 0 where
  pub place : ℕ
  pub block : Block
  pub here : slice_get blocks place ≡ Some block
  pub at : block.line ≡ line
  pub refused : fault_of blocks place block ≡ Some fault
  pub before : (k : ℕ) (earlier : Block) → k < place → slice_get blocks k ≡ Some earlier
      → fault_of blocks k earlier ≡ None
