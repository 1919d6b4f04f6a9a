use Rattle.std.proofs.Common.{rules}
use Rattle.object_listing.proofs.contacts.ContactListing.gives_neither.Goals as goal

pub returns : goal.returns
returns c = search rules
