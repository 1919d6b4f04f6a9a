-- Groups and their members (chapter "Object Definitions").
use Rattle.std.specs.Prelude.{ℕ, List, [], slice_index_or, ◌⊎◌}
use Rattle.graph.specs.claims.Chains.{Reaches}
use Rattle.object_groups.specs.claims.Names.{Lists}

-- The objects and the groups of one type, each numbered in file order: the names of both; for each group its
-- list of objects and its list of groups; and for each object its list of groups.
pub record Grouping : Type 0 where
  pub objects : List (List ℕ)
  pub groups : List (List ℕ)
  pub members : List (List (List ℕ))
  pub subgroups : List (List (List ℕ))
  pub own_groups : List (List (List ℕ))

-- a group lists another group
abbrev pub Includes : Grouping → (group other : ℕ) → Type 0
Includes g group other = Lists g.groups (slice_index_or g.subgroups group []) other

-- a group lists an object, or the object names the group
abbrev pub Holds : Grouping → (group object : ℕ) → Type 0
Holds g group object = Lists g.objects (slice_index_or g.members group []) object
    ⊎ Lists g.groups (slice_index_or g.own_groups object []) group

-- An object is a member of a group where a chain of groups, each listed by the one before, leads from the
-- group to one that lists the object or that the object names.
abbrev pub IsMember : Grouping → (group object : ℕ) → Type 0
IsMember g group object =
    (last : ℕ) × Reaches (Includes g) group last × Holds g last object
