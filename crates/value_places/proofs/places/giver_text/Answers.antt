use Rattle.std.proofs.Common.{◌≡◌, Some, List, subst, ℕ}
use Rattle.std.specs.Prelude.{slice_get}
use Rattle.std.proofs.lemmas.Result.{IfOk-weaker}
use Rattle.object_values.specs.Values.{texts}
use Rattle.value_places.specs.Lines.{IsLineOf}
use Rattle.value_places.specs.Places.{file_of}
use Rattle.value_places.proofs.PlaceLemmas.{giver-told, item-some}
use Rattle.value_places.proofs.places.giver_text.Goals as goal

pub returns-in-Some : goal.returns-in-Some
returns-in-Some c =
    let block = c.in-Some.block.now in
    let here : slice_get c.args.blocks.now c.args.giver ≡ Some block = item-some c.args.blocks.now c.args.giver c.get.result c.in-Some.block c.in-Some.is c.get.ensures.lookup in
    let told = subst (λ (name : List ℕ). IsLineOf (texts c.args.source.lines.now) block.line name c.line_of-line.result) c.as_bytes.ensures.value c.line_of-line.ensures in
    IfOk-weaker c.line_text.result _ _
    (λ text is. giver-told (file_of c.args.source) c.args.directive.now (slice_get c.args.blocks.now c.args.giver) block c.line_of-line.result text.items here told is)
    c.line_text.ensures
