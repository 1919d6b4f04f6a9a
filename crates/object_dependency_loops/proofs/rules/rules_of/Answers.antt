use Rattle.std.proofs.Common.{◌≡◌, ◌∙◌, List, ap, arith, length, subst, sym, ℕ}
use Rattle.std.specs.Prelude.{All}
use Rattle.std.proofs.lemmas.Bool.Decides.{nat_tests}
use Rattle.object_reached.specs.declared.roles.Role.TheVariants.{Dependent, Master}
use Rattle.object_reached.specs.Reached.{ReachedOf}
use Rattle.object_reached.specs.claims.Roles.{directives_of, host_kind, service_kind}
use Rattle.object_reader.specs.declared.block.Block.{Block}
use Rattle.object_reader.specs.declared.block.BlockKind.TheVariants.{HostDependency, ServiceDependency}
use Rattle.object_dependency_loops.specs.Described.{ListsNoGroup}
use Rattle.object_dependency_loops.specs.Places.{SpeakAs}
use Rattle.object_dependency_loops.proofs.RoleLemmas.{places-are, rules-over, speak-over}
use Rattle.object_dependency_loops.proofs.RuleLemmas.{no-rules, rules-are}
use Rattle.object_dependency_loops.proofs.rules.rules_of.Goals as goal

pub push_role-requires-clause-host_places : goal.push_role-requires-clause-host_places
push_role-requires-clause-host_places c =
    places-are c.args.blocks.now.blocks HostDependency (host_kind c.dependents.result.now.role) c.as_slice-2.result.now (c.as_slice-2.ensures.value ∙ c.in_ok-host_places.ensures)
    (ap (λ (r : ReachedOf). host_kind r.role) (sym c.dependents.ensures))

pub push_role-requires-clause-service_places : goal.push_role-requires-clause-service_places
push_role-requires-clause-service_places c =
    places-are c.args.blocks.now.blocks ServiceDependency (service_kind c.dependents.result.now.role) c.as_slice-3.result.now (c.as_slice-3.ensures.value ∙ c.in_ok-service_places.ensures)
    (ap (λ (r : ReachedOf). service_kind r.role) (sym c.dependents.ensures))

pub push_role-requires-2-clause-host_places : goal.push_role-requires-2-clause-host_places
push_role-requires-2-clause-host_places c =
    places-are c.args.blocks.now.blocks HostDependency (host_kind c.masters.result.now.role) c.as_slice-4.result.now (c.as_slice-4.ensures.value ∙ c.in_ok-host_places.ensures)
    (ap (λ (r : ReachedOf). host_kind r.role) (sym c.masters.ensures))

pub push_role-requires-2-clause-service_places : goal.push_role-requires-2-clause-service_places
push_role-requires-2-clause-service_places c =
    places-are c.args.blocks.now.blocks ServiceDependency (service_kind c.masters.result.now.role) c.as_slice-5.result.now (c.as_slice-5.ensures.value ∙ c.in_ok-service_places.ensures)
    (ap (λ (r : ReachedOf). service_kind r.role) (sym c.masters.ensures))

pub returns-clause-rules : goal.returns-clause-rules
returns-clause-rules c =
    let b = c.args.blocks.now in
    let firsts = c.in_ok-base.base.firsts in
    let one = c.in_ok-dependents.ensures in
    let other = c.in_ok-masters.ensures in
    rules-are b _ c.in_ok-masters.masters.next c.in_ok-masters.masters.next firsts.objects c.spoken_are_objects.ensures (ap (λ (bs : List Block). length bs) c.blocks-3.ensures) c.in_ok-base.ensures.base.objects_are
    other.base.few c.in_ok-numbers_below.ensures other.base.within
    (rules-over (length b.blocks) c.in_ok-dependents.dependents.next c.in_ok-masters.masters.next c.push_role.new.edges.items c.push_role-2.new.edges.items c.in_ok-dependents.dependents.links.items other.over one.linked)
    other.linked
    (speak-over b firsts Dependent c.in_ok-dependents.dependents.next c.in_ok-masters.masters.next c.push_role.new.edges.items c.push_role-2.new.edges.items c.in_ok-dependents.dependents.links.items one.base one.linked other.over
    (subst (λ (r : ReachedOf). SpeakAs b r.role firsts.objects c.in_ok-dependents.dependents.links.items c.push_role.new.edges.items) c.dependents.ensures one.speak))
    (subst (λ (r : ReachedOf). SpeakAs b r.role firsts.objects c.in_ok-masters.masters.links.items c.push_role-2.new.edges.items) c.masters.ensures other.speak)

pub returns-then-is_empty-2-clause-rules : goal.returns-then-is_empty-2-clause-rules
returns-then-is_empty-2-clause-rules c =
    let hosts = c.in_ok-host_places.host_places.items in
    let services = c.in_ok-service_places.service_places.items in
    let no_hosts : length hosts ≡ 0 = grind (arith, nat_tests, c.is_empty.ensures, c.if-is_empty.ensures) in
    let no_services : length services ≡ 0 = grind (arith, nat_tests, c.is_empty-then-is_empty.ensures, c.if-is_empty-2.ensures) in
    no-rules c.args.blocks.now _ hosts services c.in_ok-host_places.ensures c.in_ok-service_places.ensures no_hosts no_services c.no_rules.ensures.dependents c.no_rules.ensures.masters c.no_rules.ensures.members
    c.no_rules.ensures.objects

pub push_role-requires-clause-none : goal.push_role-requires-clause-none
push_role-requires-clause-none c = λ none.
    subst (λ (r : ReachedOf). All (ListsNoGroup c.args.blocks.now.blocks (directives_of r.role)) c.as_slice-3.result.now) (sym c.dependents.ensures)
    (subst (λ (ps : List ℕ). All (ListsNoGroup c.args.blocks.now.blocks (directives_of Dependent)) ps) (c.as_slice.ensures.value ∙ sym c.as_slice-3.ensures.value)
    (c.lists_any_group-has_groups.ensures.dependents (sym c.in_ok-base.ensures.has_groups ∙ none)))

pub push_role-requires-2-clause-none : goal.push_role-requires-2-clause-none
push_role-requires-2-clause-none c = λ none.
    subst (λ (r : ReachedOf). All (ListsNoGroup c.args.blocks.now.blocks (directives_of r.role)) c.as_slice-5.result.now) (sym c.masters.ensures)
    (subst (λ (ps : List ℕ). All (ListsNoGroup c.args.blocks.now.blocks (directives_of Master)) ps) (c.as_slice.ensures.value ∙ sym c.as_slice-5.ensures.value)
    (c.lists_any_group-has_groups.ensures.masters (sym c.in_ok-base.ensures.has_groups ∙ none)))
