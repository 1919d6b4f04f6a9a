use Rattle.std.proofs.Common.{◌≡◌, ◌+◌, ◌<◌, ◌∙◌, List, ap, get_or, length, subst, sym, take, take_all, ℕ}
use Rattle.std.proofs.lemmas.Result.{IfOk-weaker}
use Rattle.object_groups.specs.claims.Objects.{names_in}
use Rattle.object_groups.specs.Objects.{ObjectsOf}
use Rattle.object_reader.specs.declared.block.Block.{Block}
use Rattle.object_reader.specs.declared.block.BlockKind.TheVariants.{Service}
use Rattle.object_unknown_services.specs.Keys.{Adds, AreByKey, NamesFirst}
use Rattle.object_unknown_services.specs.Named.{descriptions_at}
use Rattle.object_unknown_services.proofs.DistinctLemmas.{firsts-low}
use Rattle.object_unknown_services.proofs.KeyLemmas.{names-more, names-none, names-past, Pushed}
use Rattle.object_values.specs.Values.{texts}
use Rattle.object_unknown_services.proofs.keys.described.Goals.{then-pair+in_ok-descriptions+in_ok-push_each, else-pair}
use Rattle.object_unknown_services.proofs.keys.described.Goals as goal

pub loop-pair-init : goal.loop-pair-init
loop-pair-init c =
    let names : c.names-names.result.now ≡ names_in c.args.services.now Service = c.names-names.ensures.names ∙ ap (λ (o : ObjectsOf). names_in o.blocks o.kind) c.objects.ensures in
    names-none (names_in c.args.services.now Service) c.args.services.now c.args.naming.now.role c.in_ok-lists.lists
    (subst (λ (ns : List (List ℕ)). AreByKey ns (λ key place. ⊥) c.in_ok-lists.lists) names c.in_ok-lists.ensures)

pub descriptions_at-requires : goal.descriptions_at-requires
descriptions_at-requires c =
    subst (λ (bs : List Block). (get_or c.args.found.now c.loop-pair.pair-index (0, 0)).0 < length bs) c.requires.naming
    (firsts-low c.args.services.now c.args.naming.now.role c.args.found.now c.requires.found c.loop-pair.pair-index c.loop-pair-test.true)

pub loop-pair-preserved : goal.loop-pair-preserved
loop-pair-preserved c =
    let blocks = c.args.services.now in
    let role = c.args.naming.now.role in
    let found = c.args.found.now in
    let i = c.loop-pair.pair-index in
    let place : ℕ = (get_or found i (0, 0)).0 in
    let names : c.names-names.result.now ≡ names_in blocks Service = c.names-names.ensures.names ∙ ap (λ (o : ObjectsOf). names_in o.blocks o.kind) c.objects.ensures in
    elim c.if-pair.branch [
      | then-pair+in_ok-descriptions+in_ok-push_each w ↦
          let described : texts w.as_slice.result.now ≡ descriptions_at blocks role place =
          ap texts w.as_slice.ensures.value ∙ w.in_ok-descriptions.ensures ∙ ap (λ (bs : List Block). descriptions_at bs role place) (sym c.requires.naming) in
          subst (λ (ls : List (List ℕ)). AreByKey (names_in blocks Service) (NamesFirst blocks role (take (i + 1) found)) ls) (sym w.lists-is)
          (names-more found i c.loop-pair-test.true blocks role c.loop-pair.lists w.push_each.new.lists w.if-pair.true
          (subst (λ (ns : List (List ℕ)). Adds (Pushed ns (descriptions_at blocks role place) place) c.loop-pair.lists w.push_each.new.lists) names
          (subst (λ (ds : List (List ℕ)). Adds (Pushed c.names-names.result.now ds place) c.loop-pair.lists w.push_each.new.lists) described w.in_ok-push_each.ensures))
          c.loop-pair.invariant)
      | else-pair w ↦
          subst (λ (ls : List (List ℕ)). AreByKey (names_in blocks Service) (NamesFirst blocks role (take (i + 1) found)) ls) (sym w.lists-is)
          (names-past found i c.loop-pair-test.true blocks role c.loop-pair.lists w.if-pair.false c.loop-pair.invariant)
    ]

pub returns : goal.returns
returns c =
    let blocks = c.args.services.now in
    let role = c.args.naming.now.role in
    IfOk-weaker c.build.result _ _
    (λ lists is. subst (λ (ls : List (List ℕ)). AreByKey (names_in blocks Service) (NamesFirst blocks role c.args.found.now) ls) (sym is)
    (subst (λ (ps : List (ℕ × ℕ)). AreByKey (names_in blocks Service) (NamesFirst blocks role ps) c.loop-pair.lists) (take_all c.loop-pair.pair-index c.args.found.now c.loop-pair-test.false) c.loop-pair.invariant))
    c.build.ensures
