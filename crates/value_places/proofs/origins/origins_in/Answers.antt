use Rattle.std.proofs.Common.{List, ap, flat_map, length, ◌++◌, ◌∙◌}
use Rattle.std.specs.List.{range_with_len}
use Rattle.value_places.specs.Origins.{services_at}
use Rattle.value_places.specs.declared.origins.Origin.{Origin}
use Rattle.value_places.proofs.origins.origins_in.Goals as goal

pub returns : goal.returns
returns c =
    c.in_ok-push_services.ensures
    ∙ ap (λ (origins : List Origin). origins ++ flat_map (services_at c.args.hosts.now c.args.places.now c.args.lists.now) (range_with_len 0 (length c.args.places.now))) c.in_ok-origins.ensures
