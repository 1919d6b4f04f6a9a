use Rattle.object_reached.specs.Listed.{is_named_at}
use Rattle.object_reached.proofs.AddsLemmas.{passed-at, passed-none}
use Rattle.object_reached.proofs.numbers.push_nth.Goals as goal

pub returns-in_ok-push_named : goal.returns-in_ok-push_named
returns-in_ok-push_named c =
    passed-at (is_named_at c.args.services.now c.args.descriptions.now) c.args.found.now.items c.push_named.new.found.items _ c.of_host-on.result.now c.args.turn 0 c.if-turn-on.true c.of_host-on.ensures.are c.in_ok-push_named.ensures

pub returns-else-turn-on : goal.returns-else-turn-on
returns-else-turn-on c =
    passed-none (is_named_at c.args.services.now c.args.descriptions.now) c.args.found.now.items _ c.of_host-on.result.now c.args.turn c.if-turn-on.false c.of_host-on.ensures.are
