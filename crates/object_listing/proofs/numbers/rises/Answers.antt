use Rattle.std.proofs.Common.{nat_lt, rules}
use Rattle.std.proofs.lemmas.Fn.{always_returns_same}
use Rattle.object_groups.specs.NodeLaws.{rising-answer}
use Rattle.object_listing.proofs.numbers.rises.Goals as goal

pub returns : goal.returns
returns c = rising-answer c.args.numbers.now c.is_sorted_by.result
    (c.is_sorted_by.ensures.cases (λ x y. nat_lt x y) (always_returns_same _ _ _ (λ x r f k. search rules)))
