use Rattle.std.proofs.Common.{rules}
use Rattle.object_listing.proofs.listing.Listing.groups.Goals as goal

pub returns : goal.returns
returns c = search rules
