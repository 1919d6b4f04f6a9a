-- What is kept of the hosts that service blocks list.
use Rattle.std.proofs.Common.{◌≡◌, List, ap, ◌∙◌}
use Rattle.object_listing.specs.claims.Listing.{host_directives}
use Rattle.object_listing.specs.Listing.{ListingOf}
use Rattle.object_reader.specs.declared.block.Block.{Block}

pub kept-are : (blocks inside : List Block) (hosts : ListingOf) → inside ≡ blocks → hosts ≡ record { blocks = inside; directives = host_directives }
    → hosts ≡ record { blocks = blocks; directives = host_directives }
kept-are blocks inside hosts same are = are ∙ ap (λ (bs : List Block). record { blocks = bs; directives = host_directives }) same
