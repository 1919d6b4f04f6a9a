use Rattle.due_model.specs.claims.Limits.{max_contacts}
use Rattle.object_reader.specs.declared.block.BlockKind.TheVariants.{Contact}
use Rattle.object_resolve.proofs.PlaceLemmas.{few-names}
use Rattle.object_resolve.proofs.config.listed_contacts.Goals as goal

pub new-requires-2-clause-few : goal.new-requires-2-clause-few
new-requires-2-clause-few c = few-names c.args.templates.now Contact max_contacts c.requires.contacts
