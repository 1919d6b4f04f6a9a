use Rattle.object_listing.proofs.numbers.shorten.Goals as goal

pub returns-else-many-clause-same : goal.returns-else-many-clause-same
returns-else-many-clause-same c = λ k. ((λ at. at), (λ at. at))
