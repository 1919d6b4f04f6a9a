use Rattle.std.proofs.Common.{rules}
use Rattle.object_warnings.specs.Unused.{is_unused_at}
use Rattle.object_warnings.proofs.NumberLemmas.{one-more}
use Rattle.object_warnings.proofs.UnusedLemmas.{unused-at}
use Rattle.object_warnings.proofs.unused.unused.Goals as goal

pub loop-number-preserved : goal.loop-number-preserved
loop-number-preserved c =
    one-more (is_unused_at c.args.templates.now c.args.kind) c.loop-number.number c.loop-number.found.items _ c.is_unused.result
    c.loop-number.invariant c.in_ok-push_where.ensures
    (unused-at c.args.templates.now c.args.kind c.in_ok-values.values c.in_ok-objects.objects c.block_kind.result c.places-places.result.now c.names.result.now c.loop-number.number
    c.place_at-place.result c.name-name.result.now c.is_unused.result
    (search rules) c.in_ok-objects.ensures c.block_kind.ensures c.places-places.ensures.places c.names.ensures.names c.place_at-place.ensures c.name-name.ensures c.is_unused.ensures)
