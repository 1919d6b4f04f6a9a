use Rattle.std.proofs.Common.{◌∙◌, ap, subst, sym}
use Rattle.std.specs.Prelude.{IfOk}
use Rattle.object_groups.specs.Groups.{GroupsOf}
use Rattle.object_listing.specs.claims.Listing.{AreThose, IsListed}
use Rattle.object_listing.specs.Listing.{ListingOf}
use Rattle.object_services.proofs.BlockLemmas.{kept-are}
use Rattle.object_services.proofs.blocks.ServiceBlocks.hosts_at.Goals as goal

pub objects_at-requires : goal.objects_at-requires
objects_at-requires c =
    let groups : ListingOf → GroupsOf = λ l. record { blocks = l.blocks; kind = l.directives.kind } in
    c.requires ∙ ap groups (sym (kept-are c.args.self.now c.self.inside.blocks.now c.self.inside.hosts c.self.view_is c.self.invariant.hosts_are))

pub returns-clause-hosts : goal.returns-clause-hosts
returns-clause-hosts c =
    subst (λ (l : ListingOf). IfOk c.objects_at.result (λ found. AreThose (IsListed l.blocks l.directives c.args.place) found.items))
    (kept-are c.args.self.now c.self.inside.blocks.now c.self.inside.hosts c.self.view_is c.self.invariant.hosts_are) c.objects_at.ensures.objects
