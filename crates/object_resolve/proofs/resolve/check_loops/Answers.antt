use Rattle.std.proofs.Common.{sym, subst}
use Rattle.std.specs.Prelude.{ℕ, ◌<◌, List, length, Option, IfSome}
use Rattle.object_periods.specs.Loops.{IsFirstLooped}
use Rattle.object_reader.specs.declared.block.Block.{Block}
use Rattle.object_reader.specs.declared.block.BlockKind.TheVariants.{TimePeriod}
use Rattle.object_resolve.proofs.PlaceLemmas.{object-within}
use Rattle.object_resolve.proofs.resolve.check_loops.Goals as goal

pub of_place-requires : goal.of_place-requires
of_place-requires c =
    let first = subst (λ (found : Option ℕ). IfSome found (IsFirstLooped c.args.templates.now)) c.in-Some.is c.in_ok-place.ensures.first in
    subst (λ (bs : List Block). c.in-Some.place < length bs) (sym c.blocks-in-Some.ensures.value)
    (object-within c.args.templates.now TimePeriod (first.looped).0 c.in-Some.place (first.looped).1)
