use Rattle.std.proofs.Common.{[], ◌≡◌, ◌∙◌, List, ap, arith, get_or, length, subst, sym, ℕ}
use Rattle.std.proofs.lemmas.Result.{IfOk-weaker}
use Rattle.object_groups.specs.claims.Objects.{names_in, objects_in}
use Rattle.object_groups.specs.Objects.{ObjectsOf}
use Rattle.object_reader.specs.declared.block.BlockKind.TheVariants.{Service}
use Rattle.object_unknown_services.specs.Keys.{AreByKey, GivesBelow, GivesKey, key_of}
use Rattle.object_unknown_services.proofs.KeyLemmas.{gives-more, gives-none}
use Rattle.object_unknown_services.proofs.keys.givers.Goals as goal

pub loop-number-init : goal.loop-number-init
loop-number-init c =
    let names : c.names-names.result.now ≡ names_in c.args.services.now Service = c.names-names.ensures.names ∙ ap (λ (o : ObjectsOf). names_in o.blocks o.kind) c.objects.ensures in
    gives-none (names_in c.args.services.now Service) c.args.services.now c.in_ok-lists.lists
    (subst (λ (ns : List (List ℕ)). AreByKey ns (λ key place. ⊥) c.in_ok-lists.lists) names c.in_ok-lists.ensures)

pub loop-number-preserved : goal.loop-number-preserved
loop-number-preserved c =
    let i = c.loop-number.number in
    let names : c.names-names.result.now ≡ names_in c.args.services.now Service = c.names-names.ensures.names ∙ ap (λ (o : ObjectsOf). names_in o.blocks o.kind) c.objects.ensures in
    let listed : c.places-place-items.result.now ≡ objects_in c.args.services.now Service =
    c.places-place-items.ensures.places ∙ ap (λ (o : ObjectsOf). objects_in o.blocks o.kind) c.objects-2.ensures in
    gives-more c.args.services.now i (get_or c.places-place-items.result.now i 0) c.key_of.result c.loop-number.lists c.push.new.self
    (ap (λ (ps : List ℕ). get_or ps i 0) (sym listed))
    (c.key_of.ensures.key ∙ ap (λ (d : List ℕ). key_of c.names-names.result.now d) c.name.ensures ∙ ap (λ (ns : List (List ℕ)). key_of ns (get_or ns i [])) names)
    c.in_ok-push.ensures.pushed c.loop-number.invariant

pub returns : goal.returns
returns c =
    let blocks = c.args.services.now in
    let names : c.names-names.result.now ≡ names_in blocks Service = c.names-names.ensures.names ∙ ap (λ (o : ObjectsOf). names_in o.blocks o.kind) c.objects.ensures in
    let listed : c.places-place-items.result.now ≡ objects_in blocks Service = c.places-place-items.ensures.places ∙ ap (λ (o : ObjectsOf). objects_in o.blocks o.kind) c.objects-2.ensures in
    let long : length c.names-names.result.now ≡ length (objects_in blocks Service) = c.names-names.ensures.long ∙ ap (λ (o : ObjectsOf). length (objects_in o.blocks o.kind)) c.objects.ensures in
    let end : c.loop-number.number ≡ length c.places-place-items.result.now = omega (arith, c.loop-number.auto.number-end, c.loop-number-test.false) in
    let all : c.loop-number.number ≡ length (names_in blocks Service) =
    end ∙ ap (λ (ps : List ℕ). length ps) listed ∙ sym long ∙ ap (λ (ns : List (List ℕ)). length ns) names in
    IfOk-weaker c.build.result _ _
    (λ lists is. subst (λ (ls : List (List ℕ)). AreByKey (names_in blocks Service) (GivesKey blocks) ls) (sym is)
    (subst (λ (n : ℕ). AreByKey (names_in blocks Service) (GivesBelow blocks n) c.loop-number.lists) all c.loop-number.invariant))
    c.build.ensures
