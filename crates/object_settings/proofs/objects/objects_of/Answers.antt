use Rattle.std.proofs.Common.{◌≤◌, List, ap, arith, length, subst, sym}
use Rattle.std.proofs.lemmas.Result.{IfOk-weaker}
use Rattle.due_model.specs.claims.Limits.{max_objects}
use Rattle.due_model.specs.declared.config.Object.{Object}
use Rattle.object_groups.specs.claims.Objects.{objects_in}
use Rattle.object_listing.specs.Contacts.{AskedContacts}
use Rattle.object_reader.specs.declared.block.Block.{Block}
use Rattle.object_reader.specs.declared.block.BlockKind.TheVariants.{Host}
use Rattle.object_settings.specs.claims.Settings.{AreObjectsOf}
use Rattle.object_settings.proofs.ObjectLemmas.{hosts-few, objects-few}
use Rattle.object_settings.proofs.objects.objects_of.Goals as goal

pub all_objects-requires-clause-few_hosts : goal.all_objects-requires-clause-few_hosts
all_objects-requires-clause-few_hosts c =
    subst (λ (blocks : List Block). length (objects_in blocks Host) ≤ max_objects) (sym (ap (λ (t : AskedContacts). t.blocks) c.in_ok-tables.ensures)) (hosts-few c.args.templates.now c.args.lists.now c.requires.few)

pub new-requires-2 : goal.new-requires-2
new-requires-2 c =
    let are = subst (λ (blocks : List Block). AreObjectsOf blocks c.args.lists.now c.in_ok-objects.objects.items) (ap (λ (t : AskedContacts). t.blocks) c.in_ok-tables.ensures) c.in_ok-objects.ensures in
    let few : length c.in_ok-objects.objects.items ≤ max_objects = objects-few c.args.templates.now c.args.lists.now c.in_ok-objects.objects.items c.requires.few are in
    omega (arith, few, c.in_ok-objects.objects.ok)

pub returns : goal.returns
returns c = IfOk-weaker c.new-2.result _ _
    (λ made is. subst (λ (objects : List Object). AreObjectsOf c.args.templates.now c.args.lists.now objects) (sym is)
    (subst (λ (blocks : List Block). AreObjectsOf blocks c.args.lists.now c.in_ok-objects.objects.items) (ap (λ (t : AskedContacts). t.blocks) c.in_ok-tables.ensures) c.in_ok-objects.ensures))
    c.new-2.ensures
