use Rattle.std.proofs.Common.{ap, map}
use Rattle.object_check.specs.Rows.{said_by}
use Rattle.object_warnings.proofs.UnusedLemmas.{all-rows}
use Rattle.object_warnings.proofs.unused.named_of.Goals as goal

pub named_by_rows-requires : goal.named_by_rows-requires
named_by_rows-requires c block = all-rows c.args.kind block _ _ _ (ap (map said_by) c.as_slice.ensures.value) (c.in_ok-rows.ensures block) c.name_rows.ensures
