use Rattle.std.proofs.Common.{None, get_or, sym, ◌∙◌}
use Rattle.std.specs.Prelude.{is_some}
use Rattle.object_inheritance.proofs.ColumnLemmas.{find-here, find-later}
use Rattle.object_inheritance.proofs.inherited.first_with.Goals as goal

pub returns-then-is_some-clause-first : goal.returns-then-is_some-clause-first
returns-then-is_some-clause-first c =
    sym (c.loop-place.invariant ∙ find-here (λ q. is_some (get_or c.args.column.now q None)) c.args.places.now c.loop-place.place-index 0 c.loop-place-test.true (sym c.if-is_some.ensures))

pub loop-place-preserved : goal.loop-place-preserved
loop-place-preserved c =
    c.loop-place.invariant ∙ find-later (λ q. is_some (get_or c.args.column.now q None)) c.args.places.now c.loop-place.place-index 0 c.loop-place-test.true (sym c.if-is_some.ensures)
