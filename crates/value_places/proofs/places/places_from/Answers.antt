use Rattle.std.proofs.Common.{ap, map}
use Rattle.object_groups.specs.claims.Objects.{objects_in}
use Rattle.object_reader.specs.declared.block.BlockKind.TheVariants.{Contact}
use Rattle.value_places.specs.Places.{file_of}
use Rattle.value_places.specs.Questions.{contacts_questions, object_questions}
use Rattle.value_places.proofs.AddLemmas.{adds-all}
use Rattle.value_places.proofs.places.places_from.Goals as goal

pub returns : goal.returns
returns c =
    adds-all (file_of c.args.source) c.args.templates.now (object_questions c.args.templates.now c.args.origin)
    (contacts_questions c.args.origin.is_service (objects_in c.args.templates.now Contact)) _ _ _ (ap (map (λ text. text.items)) c.new-texts.ensures.items) c.in_ok-push_object.ensures c.in_ok-push_contacts.ensures
