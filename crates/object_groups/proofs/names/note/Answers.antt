use Rattle.std.proofs.Common.{arith}
use Rattle.std.proofs.lemmas.Grind.{common_steps}
use Rattle.object_groups.proofs.NumberLemmas.{numbers-entered}
use Rattle.object_groups.proofs.names.note.Goals as goal

pub returns : goal.returns
returns c names long has = numbers-entered names c.args.name c.args.numbers.now.entries has _ c.args.number long
    (λ other.
    let updates = (c.in_ok-numbers.ensures.update.0 c.or_insert.result.now).0 other in
    let value = c.in_ok-numbers.ensures.value in
    let given = c.or_insert.ensures.value in
    grind (arith, common_steps, updates, value, given))
