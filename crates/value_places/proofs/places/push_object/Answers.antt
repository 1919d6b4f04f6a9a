use Rattle.std.proofs.Common.{◌≡◌, arith}
use Rattle.value_places.specs.Places.{file_of}
use Rattle.value_places.proofs.AddLemmas.{adds-none, filter-more, filters-all}
use Rattle.value_places.proofs.places.push_object.Goals as goal

pub loop-filter-init : goal.loop-filter-init
loop-filter-init c = adds-none (file_of c.args.source) c.args.templates.now _

pub loop-filter-preserved : goal.loop-filter-preserved
loop-filter-preserved c =
    filter-more (file_of c.args.source) c.args.templates.now c.args.origin c.loop-filter.filter _ _ _ c.loop-filter.invariant c.in_ok-push_filter.ensures

pub returns : goal.returns
returns c =
    let end : c.loop-filter.filter ≡ 11 = omega (arith, c.loop-filter.auto.filter-end, c.loop-filter-test.false) in
    filters-all (file_of c.args.source) c.args.templates.now c.args.origin c.loop-filter.filter _ _ end c.loop-filter.invariant
