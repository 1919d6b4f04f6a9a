use Rattle.std.proofs.Common.{rules}
use Rattle.object_listing.proofs.listing.Listing.new.Goals as goal

pub invariant_of-result : goal.invariant_of-result
invariant_of-result c = search rules
