use Rattle.std.proofs.Common.{◌∙◌, List, ap, arith, length, subst, sym, ℕ}
use Rattle.object_groups.specs.claims.Groups.{object_kind}
use Rattle.object_groups.specs.Groups.{GroupsOf}
use Rattle.object_groups.specs.claims.Objects.{names_in}
use Rattle.object_groups.specs.Objects.{ObjectsOf}
use Rattle.object_reached.specs.Reached.{AreAfter}
use Rattle.object_reached.proofs.ReachedLemmas.{services-are, written-over}
use Rattle.object_reached.proofs.reached.services_at.Goals as goal

pub returns-clause-objects : goal.returns-clause-objects
returns-clause-objects c =
    let found = c.in_ok-found.found in
    let written = written-over found.items c.number_after.new.services found.len (omega (arith, found.ok)) (c.number_after.ensures.long ∙ ap (λ (ns : List ℕ). length ns) c.as_mut_slice.ensures.value) in
    services-are c.members_are_services.ensures c.args.listing.now.blocks c.args.services.now c.args.listing.now.directives c.args.place c.len.result c.in_ok-found.found.items c.as_mut_slice.result.now _
    c.in_ok-found.ensures.services c.as_mut_slice.ensures.value (subst (λ (ns : List ℕ). AreAfter c.len.result c.as_mut_slice.result.now ns) (sym written) c.number_after.ensures.numbers)
    (c.len.ensures ∙ ap (λ (names : List (List ℕ)). length names) c.names.ensures.names ∙ ap (λ (o : ObjectsOf). length (names_in o.blocks o.kind)) c.objects.ensures
    ∙ ap (λ (g : GroupsOf). length (names_in g.blocks (object_kind g.kind))) (c.services_at.ensures.same_hosts ∙ c.requires.hosts))
    c.requires.few
