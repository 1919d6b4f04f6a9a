use Rattle.std.proofs.Common.{Option}
use Rattle.std.proofs.lemmas.List.Elements.{All-set}
use Rattle.std.specs.Prelude.{IfSome}
use Rattle.object_warnings.specs.Hours.{IsKnown}
use Rattle.object_warnings.specs.declared.known_spans.Known.{Known}
use Rattle.object_warnings.proofs.known_spans.put.Goals as goal

pub returns : goal.returns
returns c rows is are = All-set (λ (slot : Option Known). IfSome slot (IsKnown rows)) _ _ _ is are
