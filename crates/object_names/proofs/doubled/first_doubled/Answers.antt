use Rattle.object_names.proofs.DoubledLemmas.{all-first}
use Rattle.object_names.proofs.doubled.first_doubled.Goals as goal

pub returns : goal.returns
returns c = all-first c.args.objects.now c.first_among.result c.first_among.ensures
