-- Laws of what blocks list, of any blocks.
use Rattle.std.specs.Prelude.{ℕ, ◌<◌, List, length, Contains}
use Rattle.object_reader.specs.declared.block.Block.{Block}
use Rattle.object_groups.specs.claims.Groups.{group_kind, grouping, object_kind}
use Rattle.object_groups.specs.claims.Members.{IsMember}
use Rattle.object_groups.specs.claims.Names.{Lists}
use Rattle.object_groups.specs.claims.Objects.{list_at, names_in}
use Rattle.object_listing.specs.claims.Listing.{AreThose, Directives, IsListed}

-- An object that the list of objects names is there.
abbrev pub NamedAreThere : Type 0
NamedAreThere = (blocks : List Block) (listing : Directives) (place object : ℕ) (found : List ℕ)
    → AreThose (IsListed blocks listing place) found
    → Lists
    (names_in blocks (object_kind listing.kind)) (list_at blocks listing.objects place) object
    → Contains found object

-- A member of a group that the list of groups names is there.
abbrev pub MembersAreThere : Type 0
MembersAreThere = (blocks : List Block) (listing : Directives) (place group object : ℕ)
    (found : List ℕ)
    → AreThose (IsListed blocks listing place) found
    → Lists (names_in blocks (group_kind listing.kind)) (list_at blocks listing.groups place) group
    → IsMember (grouping blocks listing.kind) group object
    → Contains found object

-- What a block lists are objects of the type.
abbrev pub ListedAreObjects : Type 0
ListedAreObjects = (blocks : List Block) (listing : Directives) (place object : ℕ)
    → IsListed blocks listing place object
    → object < length (names_in blocks (object_kind listing.kind))
