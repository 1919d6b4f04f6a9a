use Rattle.std.proofs.Common.{None, Option, rules, subst}
use Rattle.std.proofs.lemmas.List.Elements.{All-push}
use Rattle.std.specs.Prelude.{IfSome}
use Rattle.object_warnings.specs.Hours.{AreKnown, IsKnown}
use Rattle.object_warnings.specs.declared.known_spans.Known.{Known}
use Rattle.object_warnings.proofs.known_spans.no_spans.Goals as goal

pub loop-slot-preserved : goal.loop-slot-preserved
loop-slot-preserved c rows =
    subst (AreKnown rows) (search rules) (All-push (λ (slot : Option Known). IfSome slot (IsKnown rows)) c.loop-slot.known.items None (c.loop-slot.invariant rows) tt)
