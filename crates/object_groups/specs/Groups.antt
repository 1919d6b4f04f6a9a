-- The groups that blocks define.
use Rattle.std.specs.Prelude.{◌≡◌, ◌^◌, ◌<◌, List, length}
use Rattle.object_reader.specs.declared.block.Block.{Block}
use Rattle.object_groups.specs.declared.groups.GroupKind.{GroupKind}
use Rattle.object_groups.specs.declared.groups.Search.{Search}
use Rattle.object_groups.specs.declared.groups.Tables.{Tables}
use Rattle.object_groups.specs.claims.Members.{Grouping}
use Rattle.object_groups.specs.Nodes.{IsGraphOf, node_count}
use Rattle.object_groups.specs.claims.Objects.{names_in}
use Rattle.object_groups.specs.Objects.{ObjectsOf}
use Rattle.object_groups.specs.claims.Groups.{object_kind, group_kind, grouping}

-- blocks, and a type of groups
pub record GroupsOf : Type 0 where
  pub blocks : List Block
  pub kind : GroupKind

-- these are the objects and the groups, few enough for the nodes of a graph
pub record AreNumbered (blocks : List Block) (kind : GroupKind) (objects groups : ObjectsOf)
    : Type 0 where
  pub object_table : objects ≡ record { blocks = blocks; kind = object_kind kind }
  pub group_table : groups ≡ record { blocks = blocks; kind = group_kind kind }
  pub few : node_count (names_in blocks (object_kind kind)) (names_in blocks (group_kind kind))
      < 2 ^ 32

-- a graph in which the members are found, and a search in it
pub record IsSearchOf (grouped : Grouping) (search : Search) : Type 0 where
  pub has_graph : IsGraphOf grouped search.graph
  pub few : length search.graph < 2 ^ 32
  pub has_reach : search.reach.nodes ≡ length search.graph

-- these are the objects and the groups
pub record AreTables (blocks : List Block) (kind : GroupKind) (tables : Tables) : Type 0 where
  pub object_table : tables.objects ≡ record { blocks = blocks; kind = object_kind kind }
  pub group_table : tables.groups ≡ record { blocks = blocks; kind = group_kind kind }

-- what is kept: the objects and the groups, and the search for members
pub record AreGroups (blocks : List Block) (kind : GroupKind) (tables : Tables)
    (search : Search) : Type 0 where
  pub are : AreTables blocks kind tables
  pub searched : IsSearchOf (grouping blocks kind) search
