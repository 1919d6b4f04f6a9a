use Rattle.std.proofs.Common.{rules}
use Rattle.object_listing.proofs.listing.Listing.origins.Goals as goal

pub returns-clause-own : goal.returns-clause-own
returns-clause-own c = search rules

pub returns-clause-same : goal.returns-clause-same
returns-clause-same c = search rules
