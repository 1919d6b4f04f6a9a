use Rattle.std.specs.Prelude.{None, Some}
use Rattle.object_resolve.proofs.LimitLemmas.{escalations-first, over-first, over-refused}
use Rattle.object_resolve.proofs.limits.over_escalations.Goals as goal

pub returns-in-TooMany : goal.returns-in-TooMany
returns-in-TooMany c =
    over-refused c.args.blocks.now c.least.result c.of_place.result
    (over-first c.args.blocks.now None (Some c.in-TooMany.place) c.args.rest c.least.result c.requires.counted.nowhere
    (escalations-first c.one_block_passes.ensures.one c.args.blocks.now c.args.hosts.now c.in-TooMany.place c.in-TooMany.line c.args.fault
    c.requires.counted.within c.requires.counted.hosts_are c.in-TooMany.is c.requires.refused)
    c.requires.rest c.least.ensures)
    c.of_place.ensures
