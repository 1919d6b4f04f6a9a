use Rattle.std.proofs.Common.{arith}
use Rattle.std.proofs.lemmas.List.Sorted.{length_permutation}
use Rattle.site_check.proofs.warned_forms.push_all.Goals as goal

pub returns : goal.returns
returns c = let long = length_permutation _ _ c.sort_by_key.ensures.permutation in grind arith
