use Rattle.std.proofs.Common.{arith}
use Rattle.std.proofs.lemmas.Slice.Zip.{AllZip-long}
use Rattle.object_groups.specs.claims.Objects.{objects_in}
use Rattle.object_reader.specs.declared.block.BlockKind.TheVariants.{Host}
use Rattle.object_settings.specs.Own.{IsOwnOfHost}
use Rattle.object_settings.proofs.ObjectLemmas.{block-objects}
use Rattle.object_settings.proofs.OwnLemmas.{hosts-within}
use Rattle.object_settings.proofs.objects.push_services_at.Goals as goal

pub push_block-requires-clause-within : goal.push_block-requires-clause-within
push_block-requires-clause-within c = hosts-within c.listed_are_objects.ensures c.args.tables.now.blocks c.args.place c.args.owns.now c.args.hosts.now c.requires.owns c.requires.hosts

pub push_block-requires-clause-few : goal.push_block-requires-clause-few
push_block-requires-clause-few c =
    let long = AllZip-long (IsOwnOfHost c.args.tables.now.blocks) (objects_in c.args.tables.now.blocks Host) c.args.owns.now c.requires.owns in
    omega (arith, long, c.requires.few_hosts)

pub returns-clause-objects : goal.returns-clause-objects
returns-clause-objects c =
    block-objects c.args.tables.now.blocks c.args.place c.args.name.now c.args.owns.now c.own_at-own.result c.args.hosts.now c.args.objects.now.items c.push_block.new.objects.items
    c.requires.owns c.requires.named c.own_at-own.ensures.own c.in_ok-push_block.ensures
