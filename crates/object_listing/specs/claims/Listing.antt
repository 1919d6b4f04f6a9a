-- What blocks list by the names of objects and of groups of them (chapter "Object Definitions").
use Rattle.std.specs.Prelude.{ℕ, Bool, ◌&&◌, List, codes, is_none, Contains, ◌⊎◌, ◌↔◌}
use Rattle.std.specs.List.Sorted.{IsStrictlyIncreasing}
use Rattle.object_reader.specs.declared.block.Block.{Block}
use Rattle.object_groups.specs.declared.groups.GroupKind.{GroupKind}
use Rattle.object_groups.specs.declared.groups.GroupKind.TheVariants.{HostGroups, ContactGroups}
use Rattle.object_groups.specs.claims.Groups.{group_kind, grouping, object_kind}
use Rattle.object_groups.specs.claims.Members.{IsMember}
use Rattle.object_groups.specs.claims.Names.{Lists}
use Rattle.object_groups.specs.claims.Objects.{list_at, names_in}
use Rattle.object_inheritance.specs.claims.Inherited.{value}

-- Two directives: by one a block lists objects, by the other groups of them. The type tells which objects.
pub record Directives : Type 0 where
  pub kind : GroupKind
  pub objects : List ℕ
  pub groups : List ℕ

-- those by which a block lists hosts, and contacts
abbrev pub host_directives : Directives
host_directives = record {
  kind = HostGroups;
  objects = codes "host_name";
  groups = codes "hostgroup_name";
}

abbrev pub contact_directives : Directives
contact_directives = record {
  kind = ContactGroups;
  objects = codes "contacts";
  groups = codes "contact_groups";
}

-- The block at the place lists the object: its list of objects names it, or its list of groups names a group
-- of which the object is a member.
abbrev pub IsListed : List Block → Directives → (place object : ℕ) → Type 0
IsListed blocks listing place object =
    Lists (names_in blocks (object_kind listing.kind)) (list_at blocks listing.objects place) object
    ⊎ ((group : ℕ)
    × Lists (names_in blocks (group_kind listing.kind)) (list_at blocks listing.groups place) group
    × IsMember (grouping blocks listing.kind) group object)

-- exactly the numbers of which `P` says so, each once and in order
pub record AreThose (P : ℕ → Type 0) (numbers : List ℕ) : Type 0 where
  pub rising : IsStrictlyIncreasing numbers
  pub exactly : (k : ℕ) → Contains numbers k ↔ P k

-- whether the block at the place has neither directive, by itself or by its templates
abbrev pub gives_neither : List Block → Directives → (place : ℕ) → Bool
gives_neither blocks listing place =
    is_none (value blocks listing.objects place) && is_none (value blocks listing.groups place)
