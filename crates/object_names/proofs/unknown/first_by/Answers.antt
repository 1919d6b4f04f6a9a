use Rattle.std.proofs.Common.{◌∙◌, List, ap, map, sym}
use Rattle.std.proofs.lemmas.Result.{IfOk-weaker}
use Rattle.object_groups.specs.claims.Objects.{names_in}
use Rattle.object_groups.specs.Objects.{ObjectsOf}
use Rattle.object_inheritance.specs.Columns.{Column}
use Rattle.object_reader.specs.declared.block.Block.{Block}
use Rattle.object_names.specs.declared.named.NamedKind.{NamedKind}
use Rattle.object_names.specs.claims.Named.{block_kind}
use Rattle.object_names.specs.claims.Unknown.{is_registered}
use Rattle.object_names.proofs.UnknownLemmas.{of-values}
use Rattle.object_names.proofs.unknown.first_by.Goals as goal

pub first_in-requires-clause-blocks : goal.first_in-requires-clause-blocks
first_in-requires-clause-blocks c = c.blocks-2.ensures.value ∙ sym (ap (λ (v : Column). v.blocks) c.in_ok-values.ensures)

pub first_in-requires-clause-directive : goal.first_in-requires-clause-directive
first_in-requires-clause-directive c = ap (λ (v : Column). v.directive) c.in_ok-values.ensures ∙ c.as_bytes.ensures.value ∙ c.directive_of.ensures

pub first_in-requires-clause-names : goal.first_in-requires-clause-names
first_in-requires-clause-names c =
    c.names.ensures.names ∙ ap (λ (o : ObjectsOf). names_in o.blocks o.kind) c.objects-named.ensures
    ∙ ap (λ (bs : List Block). names_in bs (block_kind c.named_of.result)) (c.requires.objects ∙ sym (ap (λ (v : Column). v.blocks) c.in_ok-values.ensures))
    ∙ ap (λ (kind : NamedKind). names_in c.in_ok-values.values.blocks (block_kind kind)) c.named_of.ensures

pub first_in-requires-clause-registered : goal.first_in-requires-clause-registered
first_in-requires-clause-registered c = c.requires.registered ∙ ap (map is_registered) (sym (ap (λ (v : Column). v.blocks) c.in_ok-values.ensures))

pub returns : goal.returns
returns c =
    IfOk-weaker c.first_in.result _ _ (λ found first. of-values c.args.templates.now c.in_ok-values.values c.args.reference _ found c.in_ok-values.ensures first)
    c.first_in.ensures
