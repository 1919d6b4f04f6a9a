-- The graph in which loops of rules are found. Its nodes are the rules, and then all nodes twice: `down`, on the way from
-- a rule to the objects of its masters, and `up`, on the way from an object back to the rules of which it is a dependent.
-- The node of an object leads from the one to the other, so that what leads from one rule to the next goes through an
-- object.
use Rattle.std.specs.Prelude.{◌≡◌, ℕ, ◌+◌, List, ◌++◌, map, Contains, ◌⊎◌}
use Rattle.graph.specs.declared.edges.Edge.{Edge}
use Rattle.graph_rules.specs.declared.rules.Rules.{Rules}
use Rattle.graph_rules.specs.Rules.{edge, LeadsTo}

abbrev pub down : Rules → ℕ → ℕ
down rules node = rules.count + node

abbrev pub up : Rules → ℕ → ℕ
up rules node = rules.count + rules.nodes + node

-- an edge from a rule to one of its masters, between nodes on the way down, from an object's node on the way down to the
-- same on the way up, between nodes on the way up, and from a dependent to a rule
abbrev pub IsLink : Rules → (from to : ℕ) → Type 0
IsLink rules from to =
    ((node : ℕ) × Contains rules.masters.items (edge from node) × (to ≡ down rules node))
    ⊎ (((p : ℕ) × (q : ℕ) × LeadsTo rules p q × (from ≡ down rules p) × (to ≡ down rules q))
    ⊎ (((own : ℕ) × Contains rules.objects.items own × (from ≡ down rules own) × (to ≡ up rules own))
    ⊎ (((p : ℕ) × (q : ℕ) × LeadsTo rules p q × (from ≡ up rules q) × (to ≡ up rules p))
    ⊎ ((node : ℕ) × Contains rules.dependents.items (edge to node) × (from ≡ up rules node)))))

-- all edges, in the order in which they are made
abbrev pub edges_in : Rules → List Edge
edges_in rules =
    (((map (λ one. edge one.from (down rules one.to)) rules.masters.items
    ++ map (λ one. edge (down rules one.from) (down rules one.to)) rules.members.items)
    ++ map (λ own. edge (down rules own) (up rules own)) rules.objects.items)
    ++ map (λ one. edge (up rules one.to) (up rules one.from)) rules.members.items)
    ++ map (λ one. edge (up rules one.to) one.from) rules.dependents.items
