use Rattle.std.proofs.Common.{◌≡◌, ◌+◌, ◌<◌, ◌^◌, ◌∙◌, ap, arith, eqb-true, is_some, length, subst, sym}
use Rattle.std.proofs.lemmas.List.{nil_from_length}
use Rattle.object_groups.specs.declared.groups.GroupKind.TheVariants.{HostGroups}
use Rattle.object_groups.specs.claims.Objects.{names_in, objects_in}
use Rattle.object_listing.specs.claims.Listing.{AreThose}
use Rattle.object_reached.specs.declared.roles.Role.TheVariants.{Dependent, Master}
use Rattle.object_reached.specs.claims.Reached.{SpeaksOf}
use Rattle.object_reached.specs.Reached.{AreSpokenOf, ReachedOf}
use Rattle.object_reader.specs.declared.block.BlockKind.TheVariants.{Host, Service}
use Rattle.object_services.specs.claims.Limits.{AreHostLists}
use Rattle.object_services.specs.claims.Numbers.{pairs_of}
use Rattle.object_dependencies.specs.Pairs.{BlocksOf}
use Rattle.object_dependencies.proofs.BlockLemmas.{no-criteria, no-dependents, no-masters, pairs-are}
use Rattle.object_dependencies.proofs.blocks.DependencyBlocks.pairs_at.Goals as goal

pub objects_at-requires-clause-within : goal.objects_at-requires-clause-within
objects_at-requires-clause-within c =
    let masters : c.self.inside.masters ≡ record { blocks = c.args.self.now.blocks; role = Master } =
    c.self.invariant.masters_are ∙ ap (λ (v : BlocksOf). record { blocks = v.blocks; role = Master }) c.self.view_is in
    subst (λ (r : ReachedOf). c.args.place < length r.blocks) (sym masters) c.requires.within

pub objects_at-requires-clause-hosts : goal.objects_at-requires-clause-hosts
objects_at-requires-clause-hosts c =
    let masters : c.self.inside.masters ≡ record { blocks = c.args.self.now.blocks; role = Master } =
    c.self.invariant.masters_are ∙ ap (λ (v : BlocksOf). record { blocks = v.blocks; role = Master }) c.self.view_is in
    c.requires.hosts ∙ ap (λ (r : ReachedOf). record { blocks = r.blocks; kind = HostGroups }) (sym masters)

pub objects_at-requires-clause-groups : goal.objects_at-requires-clause-groups
objects_at-requires-clause-groups c =
    let masters : c.self.inside.masters ≡ record { blocks = c.args.self.now.blocks; role = Master } =
    c.self.invariant.masters_are ∙ ap (λ (v : BlocksOf). record { blocks = v.blocks; role = Master }) c.self.view_is in
    c.requires.groups ∙ ap (λ (r : ReachedOf). r.blocks) (sym masters)

pub objects_at-requires-clause-few : goal.objects_at-requires-clause-few
objects_at-requires-clause-few c = subst (λ (r : ReachedOf). length (names_in r.blocks Host) + length c.self.inside.services.now < 2 ^ 32) (sym c.self.invariant.masters_are) c.self.invariant.few

pub objects_at-requires-2-clause-within : goal.objects_at-requires-2-clause-within
objects_at-requires-2-clause-within c =
    let dependents : c.self.inside.dependents ≡ record { blocks = c.args.self.now.blocks; role = Dependent } =
    c.self.invariant.dependents_are ∙ ap (λ (v : BlocksOf). record { blocks = v.blocks; role = Dependent }) c.self.view_is in
    subst (λ (r : ReachedOf). c.args.place < length r.blocks) (sym dependents) c.requires.within

pub objects_at-requires-2-clause-hosts : goal.objects_at-requires-2-clause-hosts
objects_at-requires-2-clause-hosts c =
    let dependents : c.self.inside.dependents ≡ record { blocks = c.args.self.now.blocks; role = Dependent } =
    c.self.invariant.dependents_are ∙ ap (λ (v : BlocksOf). record { blocks = v.blocks; role = Dependent }) c.self.view_is in
    (c.objects_at.ensures.same_hosts ∙ c.requires.hosts) ∙ ap (λ (r : ReachedOf). record { blocks = r.blocks; kind = HostGroups }) (sym dependents)

pub objects_at-requires-2-clause-groups : goal.objects_at-requires-2-clause-groups
objects_at-requires-2-clause-groups c =
    let dependents : c.self.inside.dependents ≡ record { blocks = c.args.self.now.blocks; role = Dependent } =
    c.self.invariant.dependents_are ∙ ap (λ (v : BlocksOf). record { blocks = v.blocks; role = Dependent }) c.self.view_is in
    (c.objects_at.ensures.same_groups ∙ c.requires.groups) ∙ ap (λ (r : ReachedOf). r.blocks) (sym dependents)

pub objects_at-requires-2-clause-few : goal.objects_at-requires-2-clause-few
objects_at-requires-2-clause-few c = subst (λ (r : ReachedOf). length (names_in r.blocks Host) + length c.self.inside.services.now < 2 ^ 32) (sym c.self.invariant.dependents_are) c.self.invariant.few

pub returns-then-is_none-clause-pairs : goal.returns-then-is_none-clause-pairs
returns-then-is_none-clause-pairs c =
    no-criteria c.args.self.now.blocks c.args.self.now.lists c.args.place c.none.result (sym (ap is_some c.kept_states.ensures) ∙ c.if-is_none.ensures) c.none.ensures

pub returns-then-is_empty-clause-pairs : goal.returns-then-is_empty-clause-pairs
returns-then-is_empty-clause-pairs c =
    let masters : c.self.inside.masters ≡ record { blocks = c.args.self.now.blocks; role = Master } =
    c.self.invariant.masters_are ∙ ap (λ (v : BlocksOf). record { blocks = v.blocks; role = Master }) c.self.view_is in
    let lists : AreHostLists c.args.self.now.blocks (objects_in c.args.self.now.blocks Service) c.args.self.now.lists =
    subst (λ (v : BlocksOf). AreHostLists v.blocks (objects_in v.blocks Service) v.lists) c.self.view_is c.self.invariant.host_lists in
    let services : c.self.inside.services.now ≡ pairs_of (names_in c.args.self.now.blocks Service) c.args.self.now.lists =
    c.self.invariant.services_are ∙ ap (λ (v : BlocksOf). pairs_of (names_in v.blocks Service) v.lists) c.self.view_is in
    let are_masters : AreThose (SpeaksOf c.args.self.now.blocks c.args.self.now.lists Master c.args.place) c.in_ok-masters.masters.items =
    (subst (λ (r : ReachedOf). AreSpokenOf r.blocks c.self.inside.services.now r.role c.args.place c.in_ok-masters.masters.items) masters c.in_ok-masters.ensures.objects) c.args.self.now.lists lists services in
    let zero = eqb-true _ 0 (sym c.if-is_empty.ensures) in
    no-masters c.args.self.now.blocks c.args.self.now.lists c.args.place c.none-then-is_empty.result c.in_ok-masters.masters.items are_masters (nil_from_length c.in_ok-masters.masters.items (omega (arith, zero, c.in_ok-masters.masters.ok))) c.none-then-is_empty.ensures

pub returns-then-is_empty-2-clause-pairs : goal.returns-then-is_empty-2-clause-pairs
returns-then-is_empty-2-clause-pairs c =
    let dependents : c.self.inside.dependents ≡ record { blocks = c.args.self.now.blocks; role = Dependent } =
    c.self.invariant.dependents_are ∙ ap (λ (v : BlocksOf). record { blocks = v.blocks; role = Dependent }) c.self.view_is in
    let lists : AreHostLists c.args.self.now.blocks (objects_in c.args.self.now.blocks Service) c.args.self.now.lists =
    subst (λ (v : BlocksOf). AreHostLists v.blocks (objects_in v.blocks Service) v.lists) c.self.view_is c.self.invariant.host_lists in
    let services : c.self.inside.services.now ≡ pairs_of (names_in c.args.self.now.blocks Service) c.args.self.now.lists =
    c.self.invariant.services_are ∙ ap (λ (v : BlocksOf). pairs_of (names_in v.blocks Service) v.lists) c.self.view_is in
    let are_dependents : AreThose (SpeaksOf c.args.self.now.blocks c.args.self.now.lists Dependent c.args.place) c.in_ok-dependents.dependents.items =
    (subst (λ (r : ReachedOf). AreSpokenOf r.blocks c.self.inside.services.now r.role c.args.place c.in_ok-dependents.dependents.items) dependents c.in_ok-dependents.ensures.objects) c.args.self.now.lists lists services in
    let zero = eqb-true _ 0 (sym c.if-is_empty-2.ensures) in
    no-dependents c.args.self.now.blocks c.args.self.now.lists c.args.place c.none-then-is_empty-2.result c.in_ok-dependents.dependents.items are_dependents (nil_from_length c.in_ok-dependents.dependents.items (omega (arith, zero, c.in_ok-dependents.dependents.ok))) c.none-then-is_empty-2.ensures

pub returns-clause-pairs : goal.returns-clause-pairs
returns-clause-pairs c =
    let masters : c.self.inside.masters ≡ record { blocks = c.args.self.now.blocks; role = Master } =
    c.self.invariant.masters_are ∙ ap (λ (v : BlocksOf). record { blocks = v.blocks; role = Master }) c.self.view_is in
    let dependents : c.self.inside.dependents ≡ record { blocks = c.args.self.now.blocks; role = Dependent } =
    c.self.invariant.dependents_are ∙ ap (λ (v : BlocksOf). record { blocks = v.blocks; role = Dependent }) c.self.view_is in
    let lists : AreHostLists c.args.self.now.blocks (objects_in c.args.self.now.blocks Service) c.args.self.now.lists =
    subst (λ (v : BlocksOf). AreHostLists v.blocks (objects_in v.blocks Service) v.lists) c.self.view_is c.self.invariant.host_lists in
    let services : c.self.inside.services.now ≡ pairs_of (names_in c.args.self.now.blocks Service) c.args.self.now.lists =
    c.self.invariant.services_are ∙ ap (λ (v : BlocksOf). pairs_of (names_in v.blocks Service) v.lists) c.self.view_is in
    let are_masters : AreThose (SpeaksOf c.args.self.now.blocks c.args.self.now.lists Master c.args.place) c.in_ok-masters.masters.items =
    (subst (λ (r : ReachedOf). AreSpokenOf r.blocks c.self.inside.services.now r.role c.args.place c.in_ok-masters.masters.items) masters c.in_ok-masters.ensures.objects) c.args.self.now.lists lists services in
    let are_dependents : AreThose (SpeaksOf c.args.self.now.blocks c.args.self.now.lists Dependent c.args.place) c.in_ok-dependents.dependents.items =
    (subst (λ (r : ReachedOf). AreSpokenOf r.blocks c.self.inside.services.now r.role c.args.place c.in_ok-dependents.dependents.items) dependents c.in_ok-dependents.ensures.objects) c.args.self.now.lists lists services in
    pairs-are c.args.self.now.blocks c.args.self.now.lists c.args.place c.new.result c.in_ok-dependents.dependents.items c.in_ok-masters.masters.items (sym (ap is_some c.kept_states.ensures) ∙ c.if-is_none.ensures) are_dependents are_masters c.new.ensures
