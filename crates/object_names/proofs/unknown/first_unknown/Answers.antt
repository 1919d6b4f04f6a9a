use Rattle.std.proofs.lemmas.Result.{IfOk-weaker}
use Rattle.object_names.proofs.UnknownLemmas.{all-first}
use Rattle.object_names.proofs.unknown.first_unknown.Goals as goal

pub returns : goal.returns
returns c = IfOk-weaker c.first_among.result _ _ (λ found first. all-first c.args.templates.now found first) c.first_among.ensures
