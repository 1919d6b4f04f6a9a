-- The groups that blocks define.
use Rattle.std.specs.Prelude.{ℕ, List, codes}
use Rattle.object_reader.specs.declared.block.Block.{Block}
use Rattle.object_reader.specs.declared.block.BlockKind.{BlockKind}
use Rattle.object_reader.specs.declared.block.BlockKind.TheVariants.{Host, HostGroup, Contact, ContactGroup}
use Rattle.object_groups.specs.declared.groups.GroupKind.{GroupKind}
use Rattle.object_groups.specs.declared.groups.GroupKind.TheVariants.{HostGroups, ContactGroups}
use Rattle.object_groups.specs.claims.Members.{Grouping}
use Rattle.object_groups.specs.claims.Objects.{lists_in, names_in}

-- the type of the objects
abbrev pub object_kind : GroupKind → BlockKind
object_kind HostGroups = Host
object_kind ContactGroups = Contact

-- the type of the groups
abbrev pub group_kind : GroupKind → BlockKind
group_kind HostGroups = HostGroup
group_kind ContactGroups = ContactGroup

-- the directive by which a group lists groups
abbrev pub subgroups_directive : GroupKind → List ℕ
subgroups_directive HostGroups = codes "hostgroup_members"
subgroups_directive ContactGroups = codes "contactgroup_members"

-- the directive by which an object names groups
abbrev pub own_groups_directive : GroupKind → List ℕ
own_groups_directive HostGroups = codes "hostgroups"
own_groups_directive ContactGroups = codes "contactgroups"

-- The objects and groups of the type among the blocks: their names and lists.
abbrev pub grouping : List Block → GroupKind → Grouping
grouping blocks kind = record {
  objects = names_in blocks (object_kind kind);
  groups = names_in blocks (group_kind kind);
  members = lists_in blocks (group_kind kind) (codes "members");
  subgroups = lists_in blocks (group_kind kind) (subgroups_directive kind);
  own_groups = lists_in blocks (object_kind kind) (own_groups_directive kind);
}
