use Rattle.std.proofs.Common.{arith, length}
use Rattle.graph.proofs.PushedLemmas.{lists-none}
use Rattle.graph.proofs.lists.ListsBuilder.with_room.Goals as goal

pub returns : goal.returns
returns g c =
    let places = rw c.in_ok-places.ensures.ok_part at c.checked_add.ensures in
    rw c.in_ok-with_capacity.ensures.items (lists-none c.args.count (length c.in_ok-vec.field-0.items) (omega (arith, c.in_ok-vec.ensures.len, c.in_ok-vec.field-0.ok.0, places.1)))
