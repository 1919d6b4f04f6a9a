-- NoCriteria: a dependency that holds nothing back (chapter "Host and Service Dependencies").
use Rattle.std.specs.Prelude.{ℕ, Bool, true, false, not, ◌&&◌, ◌||◌, List, codes, Option, None, Some, slice_get, if◌then◌else◌}
use Rattle.std.specs.Option.{option_map_or}
use Rattle.due_model.specs.declared.state.StateSet.{StateSet}
use Rattle.object_inheritance.specs.claims.Inherited.{value}
use Rattle.object_inheritance.specs.claims.Kinds.{means_nothing}
use Rattle.object_inheritance.specs.Kinds.{is_dependency, is_service_dependency}
use Rattle.object_inheritance.specs.claims.Registered.{registers}
use Rattle.object_reader.specs.declared.block.Block.{Block}
use Rattle.object_reader.specs.declared.block.BlockKind.{BlockKind}
use Rattle.object_values.specs.claims.Options.{criteria_in}
use Rattle.object_values.specs.claims.Values.{value_in}
use Rattle.object_values.specs.declared.options.CriteriaKind.{CriteriaKind}
use Rattle.object_values.specs.declared.options.CriteriaKind.TheVariants.{OfHosts, OfServices}

-- whether a block is an object: its type means something, and it isn't a template alone
abbrev pub is_object : Block → Bool
is_object block =
    not (means_nothing block.kind) && registers (value_in block.directives (codes "register"))

-- whether there is any of the states
abbrev pub has_some_state : StateSet → Bool
has_some_state set = set.pending || set.up || set.down || set.unreachable
    || set.fine || set.warning || set.unknown || set.critical

-- of which kind the criteria of dependencies of the type are
abbrev pub criteria_kind : BlockKind → CriteriaKind
criteria_kind kind = if is_service_dependency kind then OfServices else OfHosts

-- whether criteria of the kind are lacking, or name no state
abbrev pub holds_nothing : CriteriaKind → Option (List ℕ) → Bool
holds_nothing kind None = true
holds_nothing kind (Some text) =
    option_map_or (λ states. not (has_some_state states)) (criteria_in kind text) false

-- whether the block, which stands at the place, is a dependency, and the criteria that it has, itself or by a template, hold
-- nothing back
abbrev pub lacks_criteria : List Block → (place : ℕ) → Block → Bool
lacks_criteria blocks place block = is_object block && is_dependency block.kind
    && holds_nothing (criteria_kind block.kind) (value blocks (codes "notification_failure_criteria") place)

-- the same of the block that stands at the place
abbrev pub lacks_criteria_at : List Block → (place : ℕ) → Bool
lacks_criteria_at blocks place =
    option_map_or (lacks_criteria blocks place) (slice_get blocks place) false
