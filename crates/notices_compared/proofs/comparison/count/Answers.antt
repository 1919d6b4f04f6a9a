use Rattle.notices_compared.proofs.comparison.count.Goals as goal

pub returns : goal.returns
returns c = rw c.as_slice.ensures.value at c.count.ensures
