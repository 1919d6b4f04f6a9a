use Rattle.std.proofs.Common.{◌≡◌, ◌++◌, map, take}
use Rattle.std.specs.Prelude.{filter_map}
use Rattle.object_inheritance.specs.claims.Templates.{template_place}
use Rattle.object_inheritance.specs.Templates.{edge_from}
use Rattle.object_values.specs.Values.{texts}
use Rattle.object_inheritance.proofs.uses.push_edges.Given as goal

-- The edges to the templates of the names so far.
abbrev pub invariant-loop-name : goal.invariant-loop-name
invariant-loop-name l = l.edges.items ≡ l.initial.edges.items
    ++ map (edge_from l.place) (filter_map (template_place l.names l.block.kind) (texts (take l.name-index l.name-items)))
