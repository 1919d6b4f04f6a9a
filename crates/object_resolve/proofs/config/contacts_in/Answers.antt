use Rattle.due_model.specs.claims.Limits.{max_periods}
use Rattle.object_reader.specs.declared.block.BlockKind.TheVariants.{TimePeriod}
use Rattle.object_resolve.proofs.PlaceLemmas.{few-names}
use Rattle.object_resolve.proofs.config.contacts_in.Goals as goal

pub contacts_of-requires-clause-few_periods : goal.contacts_of-requires-clause-few_periods
contacts_of-requires-clause-few_periods c = few-names c.args.templates.now TimePeriod max_periods c.requires.few.periods
