-- Groups and their members (chapter "Object Definitions").
use Rattle.std.specs.Prelude.{ℕ, List, Contains, ◌↔◌}
use Rattle.std.specs.List.Sorted.{IsStrictlyIncreasing}
use Rattle.object_groups.specs.claims.Members.{Grouping, IsMember}

-- exactly the members of a group, each once and in number order
pub record AreMembers (g : Grouping) (group : ℕ) (objects : List ℕ) : Type 0 where
  pub rising : IsStrictlyIncreasing objects
  pub exactly : (object : ℕ) → Contains objects object ↔ IsMember g group object
