use Rattle.std.proofs.Common.{◌≡◌, ◌∙◌, List, ap, arith, get_or, length, subst, sym, ℕ}
use Rattle.std.specs.Arc.{arc_value}
use Rattle.object_reader.specs.declared.block.Block.{Block}
use Rattle.object_inheritance.specs.Columns.{HasGivenFrom, IsInherited}
use Rattle.object_inheritance.specs.Faults.{AreUses}
use Rattle.object_inheritance.specs.declared.templates.Uses.{Uses}
use Rattle.object_inheritance.specs.claims.Inherited.{own}
use Rattle.object_inheritance.proofs.ColumnLemmas.{all-used, has-own, nothing-given, stays-given}
use Rattle.object_inheritance.proofs.InheritedLemmas.{graph-long}
use Rattle.object_inheritance.proofs.inherited.Values.new.Goals as goal

pub of-requires : goal.of-requires
of-requires c =
    nothing-given c.args.templates.now c.args.directive.now c.new.result.items c.new.ensures.items
    (λ place. ap (λ (blocks : List Block). own blocks c.args.directive.now place) (sym c.givers.ensures) ∙ c.in_default.ensures.none place)

pub of-requires-then-stays : goal.of-requires-then-stays
of-requires-then-stays c =
    stays-given c.args.templates.now c.args.directive.now c.in_ok-own.own.items c.blocks-2.ensures.inherited (sym c.stays.ensures ∙ c.if-stays.true)
    (has-own c.givers.result.now c.args.templates.now c.args.directive.now c.in-Some.texts.now c.in_ok-own.own.items c.givers.ensures c.in-Some.ensures.last (c.in_ok-own.ensures.each c.givers.result.now))

pub with_inherited-column-requires-clause-long : goal.with_inherited-column-requires-clause-long
with_inherited-column-requires-clause-long c =
    c.in_ok-own.ensures.long ∙ ap (λ (blocks : List Block). length blocks) c.blocks-2.ensures.value
    ∙ sym (ap (λ (one : Uses). length one.graph) (c.deref.ensures ∙ c.in_ok-uses.ensures) ∙ ap (λ (graph : List (List ℕ)). length graph) c.uses.ensures.uses.same ∙ graph-long c.args.templates.now)

pub of-requires-2 : goal.of-requires-2
of-requires-2 c =
    let blocks = c.args.templates.now in
    let directive = c.args.directive.now in
    let uses = arc_value c.in_ok-uses.uses in
    let are : AreUses blocks uses = subst (λ (one : Uses). AreUses blocks one) (sym c.in_ok-uses.ensures) c.uses.ensures.uses in
    let inherited : IsInherited blocks directive = record { moves = sym c.stays.ensures ∙ c.if-stays.false; along = c.blocks-2.ensures.inherited } in
    all-used blocks directive uses are c.with_inherited-column.result.items c.uses.ensures.few
    (c.with_inherited-column.ensures.long ∙ c.in_ok-own.ensures.long ∙ ap (λ (bs : List Block). length bs) c.blocks-2.ensures.value) inherited
    (subst (λ (one : Uses). HasGivenFrom blocks directive one 0 c.with_inherited-column.result.items) c.deref.ensures
    (c.with_inherited-column.ensures.each blocks directive (subst (λ (one : Uses). AreUses blocks one) (sym c.deref.ensures) are) inherited
    (has-own c.givers.result.now blocks directive c.in-Some.texts.now c.in_ok-own.own.items c.givers.ensures c.in-Some.ensures.last (c.in_ok-own.ensures.each c.givers.result.now))))
