use Rattle.std.proofs.Common.{◌≡◌, ◌<◌, ◌∙◌, List, ap, arith, length, refl, ℕ}
use Rattle.object_groups.specs.claims.Groups.{object_kind}
use Rattle.object_groups.specs.Groups.{GroupsOf}
use Rattle.object_groups.specs.claims.Objects.{names_in}
use Rattle.object_groups.specs.Objects.{ObjectsOf}
use Rattle.object_reader.specs.declared.block.BlockKind.TheVariants.{Host, Service}
use Rattle.object_unknown_services.proofs.UnknownLemmas.{keys-begin, keys-end, keys-more, stamps-none}
use Rattle.object_unknown_services.proofs.unknown.first_in.Goals as goal

pub loop-key-init : goal.loop-key-init
loop-key-init c =
    let count : c.len.result ≡ length (names_in c.args.services.now Host) =
    c.len.ensures ∙ ap (λ (names : List (List ℕ)). length names) c.names.ensures.names ∙ ap (λ (o : ObjectsOf). length (names_in o.blocks o.kind)) c.objects.ensures
    ∙ ap (λ (g : GroupsOf). length (names_in g.blocks (object_kind g.kind))) c.requires.hosts in
    record {
      same = refl;
      stamps = stamps-none (length (names_in c.args.services.now Host)) c.len.result _ count (c.as_mut_slice-stamps.ensures.value ∙ c.in_ok-room.ensures.items_if_clones_equal (λ y is. is));
      first = keys-begin c.args.services.now c.args.naming.now.role;
    }

pub loop-key-preserved : goal.loop-key-preserved
loop-key-preserved c = record {
  same = c.first_of_key.ensures.same ∙ c.loop-key.invariant.same;
  stamps = c.in_ok-found.ensures.stamps;
  first = keys-more c.args.services.now c.args.naming.now.role c.loop-key.key c.loop-key.first c.in_ok-found.found c.lower-first.result c.lower-first.ensures c.loop-key.invariant.first
      c.in_ok-found.ensures.first;
}

pub returns-clause-first : goal.returns-clause-first
returns-clause-first c =
    let blocks = c.args.services.now in
    let long = c.in_ok-namers.ensures.keys in
    let all : length (names_in blocks Service) < c.loop-key.key = omega (arith, c.len-key-end.ensures, long, c.loop-key-test.false) in
    keys-end blocks c.args.naming.now.role c.loop-key.key c.loop-key.first all c.loop-key.invariant.first
