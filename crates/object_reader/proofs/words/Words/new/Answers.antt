use Rattle.object_reader.specs.claims.Blanks.{is_blank}
use Rattle.object_reader.proofs.Trimming.{first_place}
use Rattle.object_reader.proofs.words.Words.new.Goals as goal

pub invariant_of-result : goal.invariant_of-result
invariant_of-result c = first_place is_blank c.args.statement.now _ _ c.first_blank.ensures c.unwrap_or-end.ensures
