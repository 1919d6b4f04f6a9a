-- The places of the blocks that are notification dependencies.
use Rattle.std.specs.Prelude.{ℕ, ◌<◌, ◌&&◌, List, filter, is_some, ◌↔◌}
use Rattle.std.specs.List.{range_with_len}
use Rattle.graph.specs.declared.edges.Edge.{Edge}
use Rattle.graph_rules.specs.declared.rules.Rules.{Rules}
use Rattle.graph_rules.specs.Rules.{AreWithin, HasDependent, HasMaster}
use Rattle.object_dependencies.specs.claims.Pairs.{IsKept, kept_states}
use Rattle.object_dependencies.specs.Pairs.{BlocksOf}
use Rattle.object_groups.specs.claims.Objects.{is_object_at}
use Rattle.object_reached.specs.declared.roles.Role.{Role}
use Rattle.object_reached.specs.declared.roles.Role.TheVariants.{Dependent, Master}
use Rattle.object_reached.specs.claims.Reached.{SpeaksOf}
use Rattle.object_reader.specs.declared.block.Block.{Block}
use Rattle.object_reader.specs.declared.block.BlockKind.{BlockKind}
use Rattle.object_dependency_loops.specs.Speech.{Speaks}

-- those of the type, in file order
abbrev pub kept_in : List Block → BlockKind → (count : ℕ) → List ℕ
kept_in blocks kind count = filter
    (λ place. is_some (kept_states blocks place) && is_object_at blocks kind place)
    (range_with_len 0 count)

-- by the links each notification dependency speaks of the objects of which it does in the role
abbrev pub SpeakAs : BlocksOf → Role → (objects : ℕ) → (links edges : List Edge) → Type 0
SpeakAs b role objects links edges = (place object : ℕ) → object < objects
    → Speaks links edges place object
    ↔ (IsKept b.blocks place × SpeaksOf b.blocks b.lists role place object)

-- The rules are the blocks by their places, and by each of them the objects depend on each other that do by the
-- notification dependency there.
pub record AreRulesOf (b : BlocksOf) (rules : Rules) : Type 0 where
  pub within : AreWithin rules
  pub dependents : (place object : ℕ) → HasDependent rules place object
      ↔ (IsKept b.blocks place × SpeaksOf b.blocks b.lists Dependent place object)
  pub masters : (place object : ℕ) → HasMaster rules place object
      ↔ (IsKept b.blocks place × SpeaksOf b.blocks b.lists Master place object)
