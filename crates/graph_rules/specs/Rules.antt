-- Rules over the nodes of a graph: by a rule the objects of some nodes depend on those of others.
use Rattle.std.specs.Prelude.{◌≡◌, ℕ, ◌<◌, All, Contains, Some, slice_get}
use Rattle.graph.specs.declared.edges.Edge.{Edge}
use Rattle.graph.specs.claims.Chains.{Reaches}
use Rattle.graph.specs.Edges.{IsWithin}
use Rattle.graph_rules.specs.declared.rules.Rules.{Rules}

abbrev pub edge : (from to : ℕ) → Edge
edge from to = record { from = from; to = to }

-- an edge leads from one node to another
abbrev pub LeadsTo : Rules → (from to : ℕ) → Type 0
LeadsTo rules from to = Contains rules.members.items (edge from to)

-- The node stands for the object: it is the object's node, or a chain of edges leads from it to that.
abbrev pub StandsFor : Rules → (node object : ℕ) → Type 0
StandsFor rules node object = (own : ℕ) × (slice_get rules.objects.items object ≡ Some own)
    × Reaches (LeadsTo rules) node own

-- One of the rule's dependents stands for the object.
abbrev pub HasDependent : Rules → (rule object : ℕ) → Type 0
HasDependent rules rule object = (node : ℕ)
    × Contains rules.dependents.items (edge rule node)
    × StandsFor rules node object

-- One of the rule's masters stands for the object.
abbrev pub HasMaster : Rules → (rule object : ℕ) → Type 0
HasMaster rules rule object = (node : ℕ)
    × Contains rules.masters.items (edge rule node)
    × StandsFor rules node object

-- By the rule the one object depends on the other.
abbrev pub DependsBy : Rules → (rule dependent master : ℕ) → Type 0
DependsBy rules rule dependent master =
    HasDependent rules rule dependent × HasMaster rules rule master

-- By some rule it does.
abbrev pub Depends : Rules → (dependent master : ℕ) → Type 0
Depends rules dependent master = (rule : ℕ) × DependsBy rules rule dependent master

-- The rule lies on a loop: by it one object depends on another, from which a chain of dependencies leads back to the
-- first.
abbrev pub IsLooped : Rules → (rule : ℕ) → Type 0
IsLooped rules rule = (dependent : ℕ) × (master : ℕ)
    × DependsBy rules rule dependent master
    × Reaches (Depends rules) master dependent

-- it is such a rule, and none before it is
pub record IsFirstLooped (rules : Rules) (rule : ℕ) : Type 0 where
  pub looped : IsLooped rules rule
  pub first : (earlier : ℕ) → earlier < rule → IsLooped rules earlier → ⊥

-- no rule is
abbrev pub HasNoLoop : Rules → Type 0
HasNoLoop rules = (rule : ℕ) → IsLooped rules rule → ⊥

-- an edge leads from one of so many rules to one of so many nodes
pub record IsOfRule (count nodes : ℕ) (edge : Edge) : Type 0 where
  pub rule : edge.from < count
  pub node : edge.to < nodes

-- objects have nodes, and edges lead between nodes, or from rules to nodes
pub record AreWithin (rules : Rules) : Type 0 where
  pub objects : All (λ node. node < rules.nodes) rules.objects.items
  pub members : All (IsWithin rules.nodes) rules.members.items
  pub dependents : All (IsOfRule rules.count rules.nodes) rules.dependents.items
  pub masters : All (IsOfRule rules.count rules.nodes) rules.masters.items
