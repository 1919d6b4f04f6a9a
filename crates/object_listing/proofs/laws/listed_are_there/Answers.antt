use Rattle.object_listing.proofs.ListedLemmas.{member-there, named-there}
use Rattle.object_listing.proofs.laws.listed_are_there.Goals as goal

pub returns-clause-named : goal.returns-clause-named
returns-clause-named c = named-there

pub returns-clause-members : goal.returns-clause-members
returns-clause-members c = member-there
