use Rattle.std.proofs.Common.{◌<◌, ◌∙◌, ◌||◌, List, None, ap, arith, get_or, refl, subst, sym, take_all, ℕ}
use Rattle.std.specs.Prelude.{All}
use Rattle.std.specs.List.{list_any}
use Rattle.std.specs.List.Sorted.{IsStrictlyIncreasing}
use Rattle.graph.specs.Reach.{Found}
use Rattle.object_groups.specs.claims.Objects.{objects_in}
use Rattle.object_groups.specs.Objects.{ObjectsOf}
use Rattle.object_groups.specs.claims.First.{IsFirst}
use Rattle.object_services.specs.Alike.{is_among, SharesAmong}
use Rattle.object_services.specs.claims.Hosts.{AreHosts}
use Rattle.object_services.proofs.DoubledLemmas.{hosts-within, scanned-more, scanned-none, shares-here}
use Rattle.object_services.proofs.doubled.first_sharing.Goals as goal

pub loop-member-init : goal.loop-member-init
loop-member-init c = record {
  same = refl;
  nodes = ap (λ (f : Found). f.nodes) c.begin.ensures ∙ c.requires.nodes;
  scanned = scanned-none c.args.services.now (is_among c.begin.new.self.found) (λ host. ap (λ (f : Found). is_among f.found host) c.begin.ensures);
}

pub find_all-requires-clause-few : goal.find_all-requires-clause-few
find_all-requires-clause-few c = let nodes = c.loop-member.invariant.nodes in let few = c.requires.few in omega (arith, nodes, few)

pub find_all-requires-clause-within : goal.find_all-requires-clause-within
find_all-requires-clause-within c =
    let n = get_or c.args.numbers.now c.loop-member.member-index 0 in
    subst (λ (hosts : List ℕ). All (λ host. host < c.loop-member.seen.nodes) hosts) (sym c.as_slice.ensures.value)
    (hosts-within c.listed_are_objects.ensures c.args.services.now (get_or c.places-places.result.now n 0) c.in_ok-found.found.items c.loop-member.seen.nodes c.in_ok-found.ensures.hosts c.loop-member.invariant.nodes)

pub find_all-requires-clause-rising : goal.find_all-requires-clause-rising
find_all-requires-clause-rising c = subst IsStrictlyIncreasing (sym c.as_slice.ensures.value) c.in_ok-found.ensures.hosts.rising

pub returns-then-find_all-clause-nodes : goal.returns-then-find_all-clause-nodes
returns-then-find_all-clause-nodes c = c.find_all.ensures.nodes ∙ c.loop-member.invariant.nodes ∙ sym c.requires.nodes

pub returns-then-find_all-clause-first : goal.returns-then-find_all-clause-first
returns-then-find_all-clause-first c =
    let blocks = c.args.services.now in
    let n = get_or c.args.numbers.now c.loop-member.member-index 0 in
    let listed = c.places-places.ensures.places ∙ ap (λ (o : ObjectsOf). objects_in o.blocks o.kind) c.objects.ensures in
    shares-here blocks c.args.numbers.now c.requires.rising c.loop-member.member-index 0 c.loop-member-test.true (is_among c.loop-member.seen.found) c.loop-member.invariant.scanned c.in_ok-found.found.items
    (subst (λ (places : List ℕ). AreHosts blocks (get_or places n 0) c.in_ok-found.found.items) listed c.in_ok-found.ensures.hosts)
    (ap (list_any (is_among c.loop-member.seen.found)) (sym c.as_slice.ensures.value) ∙ sym c.find_all.ensures.again ∙ c.if-find_all.true)

pub loop-member-preserved : goal.loop-member-preserved
loop-member-preserved c =
    let blocks = c.args.services.now in
    let n = get_or c.args.numbers.now c.loop-member.member-index 0 in
    let listed = c.places-places.ensures.places ∙ ap (λ (o : ObjectsOf). objects_in o.blocks o.kind) c.objects.ensures in
    record {
      same = c.hosts_at.ensures.same ∙ c.loop-member.invariant.same;
      nodes = c.find_all.ensures.nodes ∙ c.loop-member.invariant.nodes;
      scanned = scanned-more blocks c.args.numbers.now c.requires.rising c.loop-member.member-index 0 c.loop-member-test.true (is_among c.loop-member.seen.found) c.loop-member.invariant.scanned c.in_ok-found.found.items
          (subst (λ (places : List ℕ). AreHosts blocks (get_or places n 0) c.in_ok-found.found.items) listed c.in_ok-found.ensures.hosts)
          (is_among c.find_all.new.seen.found)
          (ap (list_any (is_among c.loop-member.seen.found)) (sym c.as_slice.ensures.value) ∙ sym c.find_all.ensures.again ∙ c.if-find_all.false)
          (λ host. c.find_all.ensures.found c.if-find_all.false host ∙ ap (λ (hosts : List ℕ). is_among c.loop-member.seen.found host || is_among hosts host) c.as_slice.ensures.value);
    }

pub returns-clause-nodes : goal.returns-clause-nodes
returns-clause-nodes c = c.loop-member.invariant.nodes ∙ sym c.requires.nodes

pub returns-clause-first : goal.returns-clause-first
returns-clause-first c =
    subst (λ (ms : List ℕ). IsFirst (SharesAmong c.args.services.now ms) None) (take_all c.loop-member.member-index c.args.numbers.now c.loop-member-test.false) c.loop-member.invariant.scanned.apart
