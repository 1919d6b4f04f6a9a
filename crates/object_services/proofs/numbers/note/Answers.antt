use Rattle.std.proofs.Common.{arith}
use Rattle.std.proofs.lemmas.Grind.{common_steps}
use Rattle.object_services.proofs.PairLemmas.{places-entered}
use Rattle.object_services.proofs.numbers.note.Goals as goal

pub returns : goal.returns
returns c pairs long has = places-entered pairs (c.args.host, c.args.description) c.args.places.now.entries has _ c.args.place long
    (λ other.
    let updates = (c.in_ok-places.ensures.update.0 c.or_insert.result.now).0 other in
    let value = c.in_ok-places.ensures.value in
    let given = c.or_insert.ensures.value in
    grind (arith, common_steps, updates, value, given))
