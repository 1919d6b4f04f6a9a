use Rattle.std.specs.Prelude.{slice_get}
use Rattle.std.proofs.lemmas.Result.{IfOk-weaker}
use Rattle.value_places.specs.Places.{file_of}
use Rattle.value_places.proofs.PlaceLemmas.{item-some, places-found}
use Rattle.value_places.proofs.places.places_at.Goals as goal

pub returns-in-Some : goal.returns-in-Some
returns-in-Some c =
    let origins = c.args.origins.now in
    let here = item-some origins c.args.object c.get.result c.in-Some.origin c.in-Some.is c.get.ensures.lookup in
    IfOk-weaker c.places_from.result _ _
    (λ texts are. places-found (file_of c.args.source) c.args.templates.now (slice_get origins c.args.object) c.in-Some.origin.now _ here are)
    c.places_from.ensures
