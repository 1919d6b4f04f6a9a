use Rattle.std.proofs.Common.{◌∙◌, List, ap, length, ℕ}
use Rattle.object_groups.specs.claims.Objects.{objects_in}
use Rattle.object_groups.specs.Objects.{ObjectsOf}
use Rattle.object_groups.specs.ObjectLaws.{names-long}
use Rattle.object_groups.proofs.objects.Objects.names.Goals as goal

pub returns-clause-long : goal.returns-clause-long
returns-clause-long c =
    ap (λ (names : List (List ℕ)). length names) c.self.invariant.named ∙ names-long c.self.inside.blocks.now c.self.inside.kind
    ∙ ap (λ (o : ObjectsOf). length (objects_in o.blocks o.kind)) c.self.view_is
