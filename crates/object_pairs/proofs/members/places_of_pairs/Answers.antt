use Rattle.std.proofs.Common.{List, ap, take_all, ◌∙◌}
use Rattle.object_pairs.specs.claims.Members.{place_of_pair}
use Rattle.object_pairs.specs.Pairs.{pairs_in}
use Rattle.object_pairs.proofs.PairLemmas.{places-more, Text}
use Rattle.object_pairs.proofs.members.places_of_pairs.Goals as goal
use Rattle.std.specs.List.{filter_map}

pub loop-pair-preserved : goal.loop-pair-preserved
loop-pair-preserved c =
    places-more (place_of_pair c.args.hosts.now c.args.services.now) c.args.pairs.now c.loop-pair.pair-index _ c.loop-pair.places.items _ c.place_of_pair.result c.loop-pair-test.true
    c.loop-pair.invariant c.place_of_pair.ensures c.in_ok-push_place.ensures

pub returns : goal.returns
returns c =
    c.loop-pair.invariant ∙ ap (λ (ps : List (Text × Text)). filter_map (place_of_pair c.args.hosts.now c.args.services.now) (pairs_in ps))
    (take_all c.loop-pair.pair-index c.args.pairs.now c.loop-pair-test.false)
