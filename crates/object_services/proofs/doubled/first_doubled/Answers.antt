use Rattle.std.proofs.Common.{◌≡◌, ◌<◌, ◌∙◌, List, arith, ap, length, refl, ℕ}
use Rattle.graph.specs.Reach.{Found}
use Rattle.object_groups.specs.claims.Groups.{object_kind}
use Rattle.object_groups.specs.Groups.{GroupsOf}
use Rattle.object_groups.specs.claims.Objects.{names_in}
use Rattle.object_groups.specs.Objects.{ObjectsOf}
use Rattle.object_reader.specs.declared.block.BlockKind.TheVariants.{Host}
use Rattle.object_services.specs.Alike.{alike}
use Rattle.object_services.proofs.AlikeLemmas.{alike-pairs, doubled-all, doubled-more, doubled-none}
use Rattle.object_services.proofs.doubled.first_doubled.Goals as goal

pub loop-first-init : goal.loop-first-init
loop-first-init c =
    let count : c.len-count.result ≡ length (names_in c.args.services.now Host) =
    c.len-count.ensures ∙ ap (λ (names : List (List ℕ)). length names) c.names.ensures.names ∙ ap (λ (o : ObjectsOf). length (names_in o.blocks o.kind)) c.objects-2.ensures
    ∙ ap (λ (g : GroupsOf). length (names_in g.blocks (object_kind g.kind))) c.requires in
    record {
      same = refl;
      nodes = ap (λ (f : Found). f.nodes) c.in_ok-seen.ensures ∙ count;
      below = doubled-none c.args.services.now;
    }

pub first_sharing-requires-clause-few : goal.first_sharing-requires-clause-few
first_sharing-requires-clause-few c =
    let count : c.len-count.result ≡ length (names_in c.args.services.now Host) =
    c.len-count.ensures ∙ ap (λ (names : List (List ℕ)). length names) c.names.ensures.names ∙ ap (λ (o : ObjectsOf). length (names_in o.blocks o.kind)) c.objects-2.ensures
    ∙ ap (λ (g : GroupsOf). length (names_in g.blocks (object_kind g.kind))) c.requires in
    omega (arith, count, c.if-count.false)

pub first_sharing-requires-clause-rising : goal.first_sharing-requires-clause-rising
first_sharing-requires-clause-rising c =
    let first = c.loop-first.first in
    let low : first < length c.names-names.result.now = omega (arith, c.len-first-end.ensures, c.loop-first-test.true) in
    alike-pairs c.names-names.result.now first c.ends.result.now (c.ends.ensures.value ∙ c.in_ok-groups.ensures.each first low)

pub loop-first-preserved : goal.loop-first-preserved
loop-first-preserved c =
    let blocks = c.args.services.now in
    let first = c.loop-first.first in
    let names = c.names-names.ensures.names ∙ ap (λ (o : ObjectsOf). names_in o.blocks o.kind) c.objects.ensures in
    let low : first < length c.names-names.result.now = omega (arith, c.len-first-end.ensures, c.loop-first-test.true) in
    record {
      same = c.first_sharing.ensures.same ∙ c.loop-first.invariant.same;
      nodes = c.first_sharing.ensures.nodes ∙ c.loop-first.invariant.nodes;
      below = doubled-more blocks first c.loop-first.doubled c.in_ok-found.found c.lower-doubled.result c.ends.result.now
          (c.ends.ensures.value ∙ c.in_ok-groups.ensures.each first low ∙ ap (λ (ns : List (List ℕ)). alike ns first) names)
          c.lower-doubled.ensures c.loop-first.invariant.below c.in_ok-found.ensures.first;
    }

pub returns-clause-first : goal.returns-clause-first
returns-clause-first c =
    let blocks = c.args.services.now in
    let names = c.names-names.ensures.names ∙ ap (λ (o : ObjectsOf). names_in o.blocks o.kind) c.objects.ensures in
    let end : c.loop-first.first ≡ length c.names-names.result.now = omega (arith, c.len-first-end.ensures, c.loop-first.auto.first-end, c.loop-first-test.false) in
    doubled-all blocks c.loop-first.first c.loop-first.doubled (end ∙ ap (λ (ns : List (List ℕ)). length ns) names) c.loop-first.invariant.below
