-- The services that blocks list by hosts and descriptions, and those of service groups, as objects; and the nodes of
-- those that blocks with the same lists describe.
use Rattle.std.specs.Prelude.{◌≡◌, ℕ, ◌+◌, ◌<◌, ◌↔◌, List, [], IfSome}
use Rattle.std.specs.Map.{lookup}
use Rattle.graph.specs.declared.edges.Edge.{Edge}
use Rattle.graph.specs.claims.Chains.{Reaches}
use Rattle.object_dependencies.specs.Pairs.{BlocksOf}
use Rattle.object_groups.specs.ListEdges.{IsEdge}
use Rattle.object_groups.specs.claims.Objects.{list_at, names_in}
use Rattle.object_reached.specs.Alike.{HaveLists, ListPlaces, places_eq}
use Rattle.object_reached.specs.claims.Listed.{IsDescribed, IsGrouped, ServiceDirectives}
use Rattle.object_reader.specs.declared.block.Block.{Block}
use Rattle.object_reader.specs.declared.block.BlockKind.TheVariants.{Service}
use Rattle.object_services.specs.claims.Numbers.{pairs_of}
use Rattle.object_dependency_loops.specs.Base.{host_count}

-- the block at the place lists the service of that number by hosts and descriptions
abbrev pub Describes : BlocksOf → ServiceDirectives → (place object : ℕ) → Type 0
Describes b directives place object = (service : ℕ) × (object ≡ host_count b + service)
    × IsDescribed b.blocks (pairs_of (names_in b.blocks Service) b.lists) directives place service

-- and by a service group
abbrev pub Gathers : BlocksOf → ServiceDirectives → (place object : ℕ) → Type 0
Gathers b directives place object = (service : ℕ) × (object ≡ host_count b + service)
    × IsGrouped b.blocks b.lists directives place service

-- it lists no service group
abbrev pub ListsNoGroup : List Block → ServiceDirectives → (place : ℕ) → Type 0
ListsNoGroup blocks directives place = list_at blocks directives.groups place ≡ []

-- the node leads to what each block with these lists describes
pub record IsNodeOf (b : BlocksOf) (directives : ServiceDirectives) (objects count : ℕ)
    (edges : List Edge) (others : ListPlaces) (node : ℕ) : Type 0 where
  pub low : node < count
  pub each : (place object : ℕ) → HaveLists b.blocks directives place others → object < objects
      → Reaches (IsEdge edges) node object ↔ Describes b directives place object

-- so do all that were found
abbrev pub AreFound : BlocksOf → ServiceDirectives → (objects count : ℕ) → List Edge
    → List (ListPlaces × ℕ) → Type 0
AreFound b directives objects count edges entries = (others : ListPlaces)
    → IfSome (lookup (places_eq others) entries) (IsNodeOf b directives objects count edges others)
