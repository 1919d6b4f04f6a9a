use Rattle.std.proofs.Common.{◌≡◌, ◌∙◌, Bool, List, ap, false, not, refl, sym, true}
use Rattle.std.proofs.lemmas.Result.{IfOk-weaker}
use Rattle.object_groups.specs.claims.Objects.{names_in}
use Rattle.object_groups.specs.Objects.{ObjectsOf}
use Rattle.object_reached.specs.Listed.{ServiceListingOf}
use Rattle.object_reached.specs.claims.Roles.{directives_of}
use Rattle.object_reader.specs.declared.block.Block.{Block}
use Rattle.object_reader.specs.declared.block.BlockKind.TheVariants.{ServiceGroup}
use Rattle.object_dependency_loops.proofs.RoleLemmas.{grouped-pushed, none-grouped}
use Rattle.object_dependency_loops.proofs.roles.push_grouped.Goals as goal

not-false : (b : Bool) → not b ≡ false → b ≡ true
not-false true is = refl
not-false false is = sym is

not-true : (b : Bool) → not b ≡ true → b ≡ false
not-true true is = sym is
not-true false is = refl

pub returns : goal.returns
returns c =
    let role = c.args.reached.now.role in
    let names : c.names.result.now ≡ names_in c.args.blocks.now.blocks ServiceGroup =
    c.names.ensures.names ∙ ap (λ (o : ObjectsOf). names_in o.blocks o.kind) c.groups-2.ensures ∙ ap (λ (bs : List Block). names_in bs ServiceGroup) c.requires.groups in
    let column : c.groups.result.now ≡ record { blocks = c.args.blocks.now.blocks; directive = (directives_of role).groups } =
    c.groups.ensures ∙ ap (λ (v : ServiceListingOf). record { blocks = v.blocks; directive = v.directives.groups }) c.listing.ensures
    ∙ ap (λ (bs : List Block). record { blocks = bs; directive = (directives_of role).groups }) c.requires.reached in
    IfOk-weaker c.push_listed.result _ _
    (λ next listed. grouped-pushed c.members_are_services.ensures c.args.blocks.now c.args.firsts c.args.node next c.args.edges.now.items c.push_listed.new.edges.items c.args.links.now.items
    c.push_listed.new.links.items c.args.places.now (directives_of role) c.names.result.now c.groups.result.now c.requires.base (not-false _ c.if-not-firsts.false) c.requires.linked c.requires.places names column listed)
    c.push_listed.ensures

pub returns-then-not-firsts : goal.returns-then-not-firsts
returns-then-not-firsts c =
    none-grouped c.args.blocks.now c.args.firsts.objects c.args.node c.args.edges.now.items c.args.links.now.items c.args.places.now (directives_of c.args.reached.now.role) c.requires.linked
    (c.requires.none (not-true _ c.if-not-firsts.true))
