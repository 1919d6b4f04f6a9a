use Rattle.std.proofs.Common.{refl}
use Rattle.std.specs.Prelude.{None, Some}
use Rattle.object_resolve.proofs.LimitLemmas.{counted-first, over-first, over-of_both, over-refused, rest-first, uncounted, unlooked, unpaired}
use Rattle.object_resolve.proofs.limits.over.Goals as goal

pub returns-in-TooMany : goal.returns-in-TooMany
returns-in-TooMany c =
    let first = counted-first c.one_place_passes.ensures.one c.args.blocks.now c.args.blocks.now c.in-TooMany.place c.in-TooMany.line c.args.fault
    refl c.in-TooMany.is c.requires.refused in
    over-of_both c.args.blocks.now c.of_place.result (unlooked c.one_place_passes.ensures.within c.args.blocks.now c.in-TooMany.place first.0)
    (over-refused c.args.blocks.now c.least.result c.of_place.result
    (over-first c.args.blocks.now (Some c.in-TooMany.place) None c.args.other c.least.result first
    (uncounted c.one_place_passes.ensures.within c.args.blocks.now c.in-TooMany.place first.0)
    (rest-first c.args.blocks.now None c.args.other c.args.other (unpaired c.one_place_passes.ensures.within c.args.blocks.now c.in-TooMany.place first.0) c.requires.other refl)
    c.least.ensures)
    c.of_place.ensures)
