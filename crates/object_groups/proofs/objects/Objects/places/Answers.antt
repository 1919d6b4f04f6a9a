use Rattle.std.proofs.Common.{◌<◌, ◌∙◌, List, ap, length, subst, sym, ℕ}
use Rattle.std.specs.Prelude.{All}
use Rattle.object_groups.specs.claims.Objects.{objects_in}
use Rattle.object_groups.specs.Objects.{ObjectsOf}
use Rattle.object_groups.proofs.GroupLemmas.{objects-within}
use Rattle.object_groups.proofs.objects.Objects.places.Goals as goal

pub returns-clause-within : goal.returns-clause-within
returns-clause-within c =
    subst (λ (places : List ℕ). All (λ place. place < length c.args.self.now.blocks) places)
    (sym (c.as_slice.ensures.value ∙ c.self.invariant.listed ∙ ap (λ (o : ObjectsOf). objects_in o.blocks o.kind) c.self.view_is))
    (objects-within c.args.self.now.blocks c.args.self.now.kind)
