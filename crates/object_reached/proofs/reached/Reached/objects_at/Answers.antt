use Rattle.std.proofs.Common.{◌≡◌, ◌∙◌, List, Some, ap, get_or, length, refl, subst}
use Rattle.std.specs.Prelude.{slice_get}
use Rattle.std.proofs.lemmas.Option.{slice_get_read}
use Rattle.object_listing.specs.claims.Listing.{AreThose, IsListed}
use Rattle.object_reader.specs.declared.block.Block.{Block}
use Rattle.object_reached.specs.claims.Listed.{of_hosts}
use Rattle.object_reached.specs.Listed.{ServiceListingOf}
use Rattle.object_reached.specs.Reached.{AreServicesOf, ReachedOf}
use Rattle.object_reached.specs.claims.Roles.{directives_of, host_kind, service_kind}
use Rattle.object_reached.proofs.ReachedLemmas.{of-hosts, of-none, of-services}
use Rattle.object_reached.proofs.reached.Reached.objects_at.Goals as goal

pub returns-then-is_object-clause-objects : goal.returns-then-is_object-clause-objects
returns-then-is_object-clause-objects c =
    let blocks = c.args.self.now.blocks in
    let place = c.args.place in
    let x = c.index-blocks-place.result in
    let here : slice_get blocks place ≡ Some x = slice_get_read blocks (length blocks) place x refl c.requires.within
    (c.index-blocks-place.is ∙ ap (λ (bs : List Block). get_or bs place x) c.blocks-blocks.ensures) in
    let listing : c.self.inside.listing ≡ record { blocks = blocks; directives = directives_of c.args.self.now.role } =
    c.self.invariant ∙ ap (λ (v : ReachedOf). record { blocks = v.blocks; directives = directives_of v.role }) c.self.view_is in
    of-hosts blocks c.args.services.now c.args.self.now.role place x here c.host_kind.result (directives_of c.args.self.now.role) c.in_ok-found.found.items
    (c.host_kind.ensures ∙ ap (λ (v : ReachedOf). host_kind v.role) c.self.view_is) refl c.if-is_object.ensures
    (subst (λ (l : ServiceListingOf). AreThose (IsListed l.blocks (of_hosts l.directives) place) c.in_ok-found.found.items) listing c.in_ok-found.ensures.hosts)

pub returns-then-is_object-2-clause-objects : goal.returns-then-is_object-2-clause-objects
returns-then-is_object-2-clause-objects c =
    let blocks = c.args.self.now.blocks in
    let place = c.args.place in
    let x = c.index-blocks-place.result in
    let here : slice_get blocks place ≡ Some x = slice_get_read blocks (length blocks) place x refl c.requires.within
    (c.index-blocks-place.is ∙ ap (λ (bs : List Block). get_or bs place x) c.blocks-blocks.ensures) in
    let listing : c.self.inside.listing ≡ record { blocks = blocks; directives = directives_of c.args.self.now.role } =
    c.self.invariant ∙ ap (λ (v : ReachedOf). record { blocks = v.blocks; directives = directives_of v.role }) c.self.view_is in
    of-services blocks c.args.services.now c.args.self.now.role place x here c.service_kind.result (directives_of c.args.self.now.role) c.in_ok-found-2.found.items
    (c.service_kind.ensures ∙ ap (λ (v : ReachedOf). service_kind v.role) c.self.view_is) refl c.if-is_object-2.ensures
    (subst (λ (l : ServiceListingOf). AreServicesOf l.blocks c.args.services.now l.directives place c.in_ok-found-2.found.items) listing c.in_ok-found-2.ensures.objects)

pub returns-clause-objects : goal.returns-clause-objects
returns-clause-objects c =
    let blocks = c.args.self.now.blocks in
    let place = c.args.place in
    let x = c.index-blocks-place.result in
    let here : slice_get blocks place ≡ Some x = slice_get_read blocks (length blocks) place x refl c.requires.within
    (c.index-blocks-place.is ∙ ap (λ (bs : List Block). get_or bs place x) c.blocks-blocks.ensures) in
    of-none blocks c.args.services.now c.args.self.now.role place x here c.host_kind.result c.service_kind.result c.new.result.items
    (c.host_kind.ensures ∙ ap (λ (v : ReachedOf). host_kind v.role) c.self.view_is) (c.service_kind.ensures ∙ ap (λ (v : ReachedOf). service_kind v.role) c.self.view_is)
    c.new.ensures.items c.if-is_object.ensures c.if-is_object-2.ensures
