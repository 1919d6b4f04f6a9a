use Rattle.std.proofs.Common.{◌≡◌, ◌≤◌, ◌∙◌, List, ap, arith, length, subst, take_all, ℕ}
use Rattle.std.specs.List.{AllZip}
use Rattle.object_groups.specs.claims.Objects.{names_in, objects_in}
use Rattle.object_groups.specs.Objects.{ObjectsOf}
use Rattle.object_reader.specs.declared.block.BlockKind.TheVariants.{Host}
use Rattle.object_settings.specs.Own.{IsOwnOfHost}
use Rattle.object_settings.proofs.ObjectLemmas.{host-asked, owns-more}
use Rattle.object_settings.proofs.objects.owns_of.Goals as goal

pub own_at-own-requires-clause-asked : goal.own_at-own-requires-clause-asked
own_at-own-requires-clause-asked c =
    let listed : c.places-place-items.result.now ≡ objects_in c.args.tables.now.blocks Host = c.places-place-items.ensures.places ∙ ap (λ (o : ObjectsOf). objects_in o.blocks o.kind) c.requires.hosts in
    host-asked _ c.args.tables.now.asked c.places-place-items.result.now c.loop-number.number 0 listed c.loop-number-test.true c.requires.asked

pub loop-number-preserved : goal.loop-number-preserved
loop-number-preserved c =
    let blocks = c.args.tables.now.blocks in
    let i = c.loop-number.number in
    let listed : c.places-place-items.result.now ≡ objects_in blocks Host = c.places-place-items.ensures.places ∙ ap (λ (o : ObjectsOf). objects_in o.blocks o.kind) c.requires.hosts in
    let names = c.names.ensures.names ∙ ap (λ (o : ObjectsOf). names_in o.blocks o.kind) c.requires.hosts in
    record {
      owns = owns-more blocks c.places-place-items.result.now c.names.result.now i 0 c.name-name.result.now c.own_at-own.result c.loop-number.owns.items c.push.new.self.items
          listed c.loop-number-test.true names c.name-name.ensures c.own_at-own.ensures.own c.loop-number.invariant.owns c.in_ok-push.ensures.items;
      read = c.own_at-own.ensures.read;
    }

pub returns : goal.returns
returns c =
    let blocks = c.args.tables.now.blocks in
    let listed : c.places-place-items.result.now ≡ objects_in blocks Host = c.places-place-items.ensures.places ∙ ap (λ (o : ObjectsOf). objects_in o.blocks o.kind) c.requires.hosts in
    let long = ap (λ (places : List ℕ). length places) listed in
    let all : length (objects_in blocks Host) ≤ c.loop-number.number = omega (arith, long, c.loop-number-test.false) in
    subst (λ (places : List ℕ). AllZip (IsOwnOfHost blocks) places c.loop-number.owns.items) (take_all c.loop-number.number (objects_in blocks Host) all) c.loop-number.invariant.owns
