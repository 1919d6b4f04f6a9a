use Rattle.std.proofs.Common.{Option, arith, subst, sym}
use Rattle.std.specs.Prelude.{IfSome}
use Rattle.object_warnings.specs.Hours.{IsKnown}
use Rattle.object_warnings.specs.declared.known_spans.Known.{Known}
use Rattle.object_warnings.proofs.known_spans.found.Goals as goal

pub returns : goal.returns
returns c rows are =
    c.span_in.ensures rows
    (subst (λ (slot : Option Known). IfSome slot (IsKnown rows)) (sym c.index-known-slot.is) (are c.args.slot c.index-known-slot.result (omega (arith, c.if-slot-known.false))))
