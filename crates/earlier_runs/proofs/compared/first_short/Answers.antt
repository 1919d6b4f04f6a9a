use Rattle.std.proofs.Common.{◌<◌, length, refl, rules}
use Rattle.std.specs.Prelude.{slice_index_or}
use Rattle.std.proofs.lemmas.Option.{slice_get-get_or}
use Rattle.earlier_runs.proofs.compared.first_short.Goals as goal

pub returns-clause-short : goal.returns-clause-short
returns-clause-short c =
    let within : c.in_ok-place.place < length c.args.states.now = search rules in
    let less : c.args.events < (slice_index_or c.args.states.now c.in_ok-place.place c.index-states-place.result).from = search rules in
    (slice_index_or c.args.states.now c.in_ok-place.place c.index-states-place.result, slice_get-get_or c.args.states.now c.in_ok-place.place c.index-states-place.result within, refl, less)
