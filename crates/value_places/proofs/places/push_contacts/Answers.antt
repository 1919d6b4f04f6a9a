use Rattle.std.proofs.Common.{List, ap, subst, sym, ◌∙◌}
use Rattle.std.proofs.lemmas.Result.{on_ok_weaker}
use Rattle.object_groups.specs.claims.Objects.{objects_in}
use Rattle.object_groups.specs.Objects.{ObjectsOf}
use Rattle.object_reader.specs.declared.block.Block.{Block}
use Rattle.object_reader.specs.declared.block.BlockKind.TheVariants.{Contact}
use Rattle.value_places.specs.Places.{file_of}
use Rattle.value_places.specs.Questions.{AreRights}
use Rattle.value_places.proofs.AddLemmas.{contacts-added}
use Rattle.value_places.proofs.places.push_contacts.Goals as goal

pub push_contacts_at-requires : goal.push_contacts_at-requires
push_contacts_at-requires c = subst (λ (blocks : List Block). AreRights blocks c.in_ok-rights.rights) (sym c.blocks-blocks.ensures.value) c.in_ok-rights.ensures.rights

pub returns : goal.returns
returns c =
    on_ok_weaker c.push_contacts_at.result
    (λ added. contacts-added (file_of c.args.source) c.args.templates.now c.blocks-blocks.result.now c.args.service c.in_ok-rights.rights.service c.places-places.result.now
    (objects_in c.args.templates.now Contact) _ _ c.blocks-blocks.ensures.value
    c.in_ok-rights.ensures.is (c.places-places.ensures.places ∙ ap (λ (o : ObjectsOf). objects_in o.blocks o.kind) c.in_ok-contacts.ensures) added)
    c.push_contacts_at.ensures
