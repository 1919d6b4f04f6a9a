use Rattle.std.proofs.Common.{List, ap, subst, sym}
use Rattle.std.specs.Prelude.{slice_get}
use Rattle.std.proofs.lemmas.Result.{IfOk-weaker}
use Rattle.object_services.specs.Limits.{IsRefusal}
use Rattle.object_services.specs.declared.services.LimitFault.{LimitFault}
use Rattle.value_places.specs.Places.{file_of}
use Rattle.value_places.specs.declared.origins.Origin.{Origin}
use Rattle.value_places.proofs.PlaceLemmas.{places-are}
use Rattle.value_places.proofs.SoundLemmas.{sound-limit}
use Rattle.value_places.proofs.places.places_of.Goals as goal

pub returns-in-Ok : goal.returns-in-Ok
returns-in-Ok c = λ sound.
    IfOk-weaker c.places_at.result _ _
    (λ texts from. places-are (file_of c.args.source) c.args.templates.now c.args.object c.in-Ok.origins.items (slice_get c.as_slice.result.now c.args.object) _ c.in-Ok.ensures.origins
    (ap (λ (origins : List Origin). slice_get origins c.args.object) (sym c.as_slice.ensures.value)) from)
    c.places_at.ensures

pub returns-in-Err-TooMany : goal.returns-in-Err-TooMany
returns-in-Err-TooMany c = λ sound. absurd (sound-limit c.args.templates.now _ _ sound
    (subst (λ (fault : LimitFault). IsRefusal c.args.templates.now fault) c.in-Err-TooMany.field-0-is c.in-Err-TooMany.ensures.fault))
