-- Rules of which no object is both a dependent and a master. Their nodes stand in a graph with two more.
use Rattle.std.specs.Prelude.{◌≡◌, ℕ, ◌+◌, true, Bool, List, ◌++◌, length, map, Contains, slice_index_or, false}
use Rattle.graph.specs.declared.edges.Edge.{Edge}
use Rattle.graph.specs.claims.Edges.{Leads}
use Rattle.graph_rules.specs.declared.rules.Rules.{Rules}
use Rattle.graph_rules.specs.Rules.{edge, LeadsTo}

-- the edges from a node to the ends of some
abbrev pub ends_from : (node : ℕ) → List Edge → List Edge
ends_from node sides = map (λ side. edge node side.to) sides

-- the rules' edges, those of a node after theirs, to all dependents, and those of the next, to all masters
abbrev pub side_edges : Rules → List Edge
side_edges rules = (rules.members.items ++ ends_from rules.nodes rules.dependents.items)
    ++ ends_from (rules.nodes + 1) rules.masters.items

-- The graph has the nodes of the rules, with their edges; after them one that leads to all dependents, and one that leads
-- to all masters.
pub record HasSides (rules : Rules) (graph : List (List ℕ)) : Type 0 where
  pub count : length graph ≡ rules.nodes + 2
  pub members : (from to : ℕ) → LeadsTo rules from to → Leads graph from to
  pub dependents : (rule node : ℕ) → Contains rules.dependents.items (edge rule node)
      → Leads graph rules.nodes node
  pub masters : (rule node : ℕ) → Contains rules.masters.items (edge rule node)
      → Leads graph (rules.nodes + 1) node

-- each of the nodes is marked
abbrev pub AreMarked : (marks : List Bool) → (nodes : List ℕ) → Type 0
AreMarked marks nodes = (node : ℕ) → Contains nodes node → slice_index_or marks node false ≡ true

-- none of them is
abbrev pub NoneIsMarked : (marks : List Bool) → (nodes : List ℕ) → Type 0
NoneIsMarked marks nodes = (node : ℕ) → Contains nodes node → slice_index_or marks node false ≡ false
