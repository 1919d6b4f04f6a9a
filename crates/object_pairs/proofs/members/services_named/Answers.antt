use Rattle.std.proofs.Common.{◌∙◌, List, ap}
use Rattle.std.specs.List.{filter_map}
use Rattle.std.proofs.lemmas.Result.{IfOk-weaker}
use Rattle.object_pairs.specs.claims.Members.{place_of_pair}
use Rattle.object_pairs.specs.Pairs.{pairs_in}
use Rattle.object_pairs.proofs.MemberLemmas.{places-odd, places-pairs}
use Rattle.object_pairs.proofs.PairLemmas.{odd-read, pairs-read, Text}
use Rattle.object_pairs.proofs.members.services_named.Goals as goal
use Rattle.object_values.specs.Values.{texts}

pub returns-in-None : goal.returns-in-None
returns-in-None c =
    places-odd c.args.hosts.now c.args.services.now (texts c.args.members.now) c.new.result.items c.new.ensures.items
    (odd-read c.in_ok-by_two.field-0 (texts c.args.members.now) c.in-None.is c.in_ok-by_two.ensures)

pub returns-in-Some : goal.returns-in-Some
returns-in-Some c =
    IfOk-weaker c.places_of_pairs.result _ _
    (λ places is. places-pairs c.args.hosts.now c.args.services.now (texts c.args.members.now) (pairs_in c.in-Some.pairs.items) places.items
    (pairs-read c.in_ok-by_two.field-0 c.in-Some.pairs (texts c.args.members.now) c.in-Some.is c.in_ok-by_two.ensures)
    (is ∙ ap (λ (ps : List (Text × Text)). filter_map (place_of_pair c.args.hosts.now c.args.services.now) (pairs_in ps)) c.as_slice.ensures.value))
    c.places_of_pairs.ensures
