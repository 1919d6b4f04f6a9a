use Rattle.std.proofs.lemmas.Result.{IfOk-weaker}
use Rattle.value_places.specs.Places.{file_of}
use Rattle.value_places.proofs.PlaceLemmas.{columns-same, place-told}
use Rattle.value_places.proofs.places.directive_text.Goals as goal

pub value_text-requires : goal.value_text-requires
value_text-requires c = columns-same c.in_ok-values.values c.args.templates.now c.blocks-2.result.now c.args.directive.now c.in_ok-values.ensures c.blocks-2.ensures.value

pub returns : goal.returns
returns c =
    IfOk-weaker c.value_text.result _ _
    (λ text told. place-told (file_of c.args.source) c.args.templates.now c.blocks-2.result.now c.in_ok-values.values c.args.directive.now c.args.own c.args.other c.place_from-place.result text.items
    c.in_ok-values.ensures c.blocks-2.ensures.value c.place_from-place.ensures told)
    c.value_text.ensures
