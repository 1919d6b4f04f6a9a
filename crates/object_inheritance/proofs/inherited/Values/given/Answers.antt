use Rattle.std.proofs.Common.{◌≡◌, ◌<◌, ◌≤◌, ◌∙◌, List, None, Option, ap, arith, get_or, length, refl, subst, sym, ℕ}
use Rattle.std.specs.Arc.{arc_value}
use Rattle.std.specs.Option.{option_map}
use Rattle.object_inheritance.specs.Columns.{Column, IsGivenAt, IsNext}
use Rattle.object_inheritance.specs.Faults.{is_used}
use Rattle.object_inheritance.specs.declared.inherited.Given.{Given}
use Rattle.object_inheritance.specs.declared.templates.Uses.{Uses}
use Rattle.object_inheritance.proofs.InheritedLemmas.{graph-long}
use Rattle.object_inheritance.proofs.ColumnLemmas.{kept-all, kept-past, kept-some, next-asked}
use Rattle.object_inheritance.proofs.inherited.Values.given.Goals as goal

pub returns-then-place-len : goal.returns-then-place-len
returns-then-place-len c =
    let s = c.self.inside in
    subst (λ (column : Column). IsGivenAt column.blocks column.directive c.args.place None) c.self.view_is
    (kept-past s.blocks.now s.directive.now (option_map (λ uses. arc_value uses) s.uses) s.column.items c.args.place c.self.invariant
    (omega (arith, c.len.ensures, s.column.ok, c.if-place-len.true)))

pub given_at-requires-clause-within : goal.given_at-requires-clause-within
given_at-requires-clause-within c =
    let s = c.self.inside in
    let has = kept-some s.blocks.now s.directive.now (option_map (λ uses. arc_value uses) s.uses) (arc_value c.in-Some.uses) s.column.items c.self.invariant
    (ap (option_map (λ uses. arc_value uses)) c.in-Some.is) in
    let graph : length c.deref-2.result.now.graph ≡ length s.blocks.now =
    ap (λ (one : Uses). length one.graph) c.deref-2.ensures ∙ ap (λ (graph : List (List ℕ)). length graph) has.using.same ∙ graph-long s.blocks.now in
    omega (arith, graph, has.long, c.len.ensures, s.column.ok, c.if-place-len.false)

pub given_at-requires-clause-long : goal.given_at-requires-clause-long
given_at-requires-clause-long c =
    let s = c.self.inside in
    let has = kept-some s.blocks.now s.directive.now (option_map (λ uses. arc_value uses) s.uses) (arc_value c.in-Some.uses) s.column.items c.self.invariant
    (ap (option_map (λ uses. arc_value uses)) c.in-Some.is) in
    let graph : length c.deref-2.result.now.graph ≡ length s.blocks.now =
    ap (λ (one : Uses). length one.graph) c.deref-2.ensures ∙ ap (λ (graph : List (List ℕ)). length graph) has.using.same ∙ graph-long s.blocks.now in
    ap (λ (column : List (Option Given)). length column) c.as_slice.ensures.value ∙ has.long ∙ sym graph

pub returns : goal.returns
returns c =
    let s = c.self.inside in
    let has = kept-some s.blocks.now s.directive.now (option_map (λ uses. arc_value uses) s.uses) (arc_value c.in-Some.uses) s.column.items c.self.invariant
    (ap (option_map (λ uses. arc_value uses)) c.in-Some.is) in
    subst (λ (column : Column). IsGivenAt column.blocks column.directive c.args.place c.given_at.result) c.self.view_is
    (c.given_at.ensures s.blocks.now s.directive.now (ap (λ (one : Uses). one.graph) c.deref-2.ensures ∙ has.using.same)
    (subst (λ (column : List (Option Given)). IsNext s.blocks.now s.directive.now column c.args.place) (sym c.as_slice.ensures.value)
    (next-asked s.blocks.now s.directive.now (arc_value c.in-Some.uses) s.column.items c.args.place has
    (ap (λ (one : Uses). is_used one c.args.place) (sym c.deref.ensures) ∙ sym c.is_used.ensures ∙ c.if-is_used.false))))
