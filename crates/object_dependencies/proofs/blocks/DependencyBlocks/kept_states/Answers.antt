use Rattle.std.proofs.Common.{◌≡◌, ◌∙◌, List, Some, ap, get_or, length, refl}
use Rattle.std.specs.Prelude.{codes, slice_get}
use Rattle.std.proofs.lemmas.Option.{slice_get_read}
use Rattle.object_inheritance.specs.Columns.{Column}
use Rattle.object_reader.specs.declared.block.Block.{Block}
use Rattle.object_listing.specs.claims.Readings.{own_states}
use Rattle.object_values.specs.declared.options.CriteriaKind.TheVariants.{OfHosts, OfServices}
use Rattle.object_dependencies.specs.Pairs.{BlocksOf}
use Rattle.object_dependencies.proofs.BlockLemmas.{kept-hosts, kept-none, kept-services}
use Rattle.object_dependencies.proofs.blocks.DependencyBlocks.kept_states.Goals as goal

pub returns-then-is_object : goal.returns-then-is_object
returns-then-is_object c =
    let blocks = c.args.self.now.blocks in
    let place = c.args.place in
    let x = c.index-blocks-place.result in
    let here : slice_get blocks place ≡ Some x = slice_get_read blocks (length blocks) place x refl c.requires
    (c.index-blocks-place.is ∙ ap (λ (bs : List Block). get_or bs place x) c.blocks-blocks.ensures) in
    let criteria : c.self.inside.criteria ≡ record { blocks = blocks; directive = codes "notification_failure_criteria" } =
    c.self.invariant.criteria_are ∙ ap (λ (v : BlocksOf). record { blocks = v.blocks; directive = codes "notification_failure_criteria" }) c.self.view_is in
    c.own_states.ensures ∙ ap (λ (column : Column). own_states column.blocks column.directive OfHosts place) criteria ∙ kept-hosts blocks place x here c.if-is_object.ensures

pub returns-then-is_object-2 : goal.returns-then-is_object-2
returns-then-is_object-2 c =
    let blocks = c.args.self.now.blocks in
    let place = c.args.place in
    let x = c.index-blocks-place.result in
    let here : slice_get blocks place ≡ Some x = slice_get_read blocks (length blocks) place x refl c.requires
    (c.index-blocks-place.is ∙ ap (λ (bs : List Block). get_or bs place x) c.blocks-blocks.ensures) in
    let criteria : c.self.inside.criteria ≡ record { blocks = blocks; directive = codes "notification_failure_criteria" } =
    c.self.invariant.criteria_are ∙ ap (λ (v : BlocksOf). record { blocks = v.blocks; directive = codes "notification_failure_criteria" }) c.self.view_is in
    c.own_states-then-is_object-2.ensures ∙ ap (λ (column : Column). own_states column.blocks column.directive OfServices place) criteria
    ∙ kept-services blocks place x here c.if-is_object.ensures c.if-is_object-2.ensures

pub returns : goal.returns
returns c =
    let blocks = c.args.self.now.blocks in
    let place = c.args.place in
    let x = c.index-blocks-place.result in
    let here : slice_get blocks place ≡ Some x = slice_get_read blocks (length blocks) place x refl c.requires
    (c.index-blocks-place.is ∙ ap (λ (bs : List Block). get_or bs place x) c.blocks-blocks.ensures) in
    kept-none blocks place x here c.if-is_object.ensures c.if-is_object-2.ensures
