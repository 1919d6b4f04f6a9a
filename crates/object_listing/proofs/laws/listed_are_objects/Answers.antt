use Rattle.object_listing.proofs.ListedLemmas.{listed-within}
use Rattle.object_listing.proofs.laws.listed_are_objects.Goals as goal

pub returns : goal.returns
returns c = listed-within
