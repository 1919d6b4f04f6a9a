use Rattle.std.proofs.lemmas.Result.{on_ok_weaker}
use Rattle.value_places.specs.Places.{file_of}
use Rattle.value_places.proofs.AddLemmas.{adds-same, adds-three}
use Rattle.value_places.proofs.PlaceLemmas.{column-same}
use Rattle.value_places.proofs.places.push_contact.Goals as goal

pub push_value-requires : goal.push_value-requires
push_value-requires c = column-same c.args.rights.now.enabled c.args.blocks.now c.enabled_directive-enabled.result.now _ c.requires.enabled c.enabled_directive-enabled.ensures

pub push_value-requires-2 : goal.push_value-requires-2
push_value-requires-2 c = column-same c.args.rights.now.options c.args.blocks.now c.options_directive-options.result.now _ c.requires.options c.options_directive-options.ensures

pub push_value-requires-3 : goal.push_value-requires-3
push_value-requires-3 c = column-same c.args.rights.now.period c.args.blocks.now c.period_directive-period.result.now _ c.requires.period c.period_directive-period.ensures

pub returns : goal.returns
returns c =
    let file = file_of c.args.source in
    let blocks = c.args.blocks.now in
    let place = c.args.place in
    on_ok_weaker c.push_value-3.result
    (λ third. adds-three file blocks _ _ _ _ _ _ _ (adds-same file blocks place _ _ _ _ c.enabled_directive-enabled.ensures c.in_ok-push_value.ensures)
    (adds-same file blocks place _ _ _ _ c.options_directive-options.ensures c.in_ok-push_value-2.ensures) (adds-same file blocks place _ _ _ _ c.period_directive-period.ensures third))
    c.push_value-3.ensures
