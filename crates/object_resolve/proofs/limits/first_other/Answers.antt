use Rattle.std.proofs.Common.{◌∙◌, ap}
use Rattle.std.specs.Prelude.{slice_get}
use Rattle.std.specs.Option.{option_and_then}
use Rattle.object_groups.specs.First.{lower}
use Rattle.due_model.specs.claims.Limits.{max_contacts, max_lanes, max_periods}
use Rattle.object_groups.specs.claims.Objects.{objects_in}
use Rattle.object_groups.specs.Objects.{ObjectsOf}
use Rattle.object_resolve.proofs.LimitLemmas.{few-if_none, first-other}
use Rattle.object_resolve.proofs.limits.first_other.Goals as goal

pub returns-clause-first : goal.returns-clause-first
returns-clause-first c =
    first-other c.args.objects.now c.args.lanes.now c.place_of-contact.result c.place_of-period.result c.lane_over-lane.result c.requires
    (c.place_of-contact.ensures ∙ ap (λ (o : ObjectsOf). slice_get (objects_in o.blocks o.kind) max_contacts) c.objects.ensures)
    (c.place_of-period.ensures ∙ ap (λ (o : ObjectsOf). slice_get (objects_in o.blocks o.kind) max_periods) c.objects-2.ensures)
    (c.lane_over-lane.ensures ∙ ap (λ (o : ObjectsOf). option_and_then (slice_get (objects_in o.blocks o.kind)) (slice_get c.args.lanes.now max_lanes)) c.objects-3.ensures)
    c.lower-2.result (c.lower-2.ensures ∙ ap (lower c.place_of-contact.result) c.lower.ensures)

pub returns-clause-few : goal.returns-clause-few
returns-clause-few c =
    few-if_none c.args.objects.now c.args.lanes.now c.place_of-contact.result c.place_of-period.result c.lane_over-lane.result c.requires
    (c.place_of-contact.ensures ∙ ap (λ (o : ObjectsOf). slice_get (objects_in o.blocks o.kind) max_contacts) c.objects.ensures)
    (c.place_of-period.ensures ∙ ap (λ (o : ObjectsOf). slice_get (objects_in o.blocks o.kind) max_periods) c.objects-2.ensures)
    (c.lane_over-lane.ensures ∙ ap (λ (o : ObjectsOf). option_and_then (slice_get (objects_in o.blocks o.kind)) (slice_get c.args.lanes.now max_lanes)) c.objects-3.ensures)
    c.lower-2.result (c.lower-2.ensures ∙ ap (lower c.place_of-contact.result) c.lower.ensures)
