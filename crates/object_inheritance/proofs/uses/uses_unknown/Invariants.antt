use Rattle.std.proofs.Common.{◌≡◌, false, is_none, take}
use Rattle.std.specs.List.{list_any}
use Rattle.object_inheritance.specs.claims.Templates.{template_place}
use Rattle.object_values.specs.Values.{texts}
use Rattle.object_inheritance.proofs.uses.uses_unknown.Given as goal

-- None of the names so far is unknown.
abbrev pub invariant-loop-name : goal.invariant-loop-name
invariant-loop-name l = list_any (λ name. is_none (template_place l.names l.block.kind name)) (texts (take l.name-index l.name-items)) ≡ false
