use Rattle.std.proofs.Common.{◌≤◌, List, arith, length, subst, take_all}
use Rattle.object_services.specs.Numbers.{HasPlaces, Key, pairs_in}
use Rattle.object_services.proofs.numbers.ServiceNumbers.new.Goals as goal

pub invariant_of-result : goal.invariant_of-result
invariant_of-result c =
    let all : length c.in_ok-pairs.pairs.items ≤ c.loop-place.place = omega (arith, c.len-place-end.ensures, c.loop-place-test.false) in
    subst (λ (keys : List Key). HasPlaces (pairs_in keys) c.loop-place.places.entries) (take_all c.loop-place.place c.in_ok-pairs.pairs.items all) c.loop-place.invariant
