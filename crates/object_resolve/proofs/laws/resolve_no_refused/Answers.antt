use Rattle.object_resolve.proofs.Refusals.{resolved-unrefused}
use Rattle.object_resolve.proofs.laws.resolve_no_refused.Goals as goal

pub returns : goal.returns
returns c = λ blocks config line fault of refused. resolved-unrefused c.one_place_passes.ensures.within c.one_block_passes.ensures.within blocks config line fault of refused
