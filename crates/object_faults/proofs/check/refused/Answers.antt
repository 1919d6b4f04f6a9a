use Rattle.std.proofs.Common.{◌≡◌, ◌∙◌, List, ap, get_or, length, refl}
use Rattle.std.proofs.lemmas.Option.{slice_get_read}
use Rattle.object_reader.specs.declared.block.Block.{Block}
use Rattle.object_faults.proofs.TableLemmas.{first-fault}
use Rattle.object_faults.proofs.check.refused.Goals as goal

pub returns : goal.returns
returns c =
    let blocks = c.args.templates.now in
    let i = c.args.found.place in
    let x = c.index-blocks-place.result in
    let is : x ≡ get_or blocks i x = c.index-blocks-place.is ∙ ap (λ (list : List Block). get_or list i x) c.blocks-blocks.ensures.value in
    first-fault blocks c.args.found x (slice_get_read blocks (length blocks) i x refl c.requires.0 is) c.requires
