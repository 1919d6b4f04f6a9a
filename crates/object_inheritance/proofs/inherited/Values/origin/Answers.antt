use Rattle.std.proofs.Common.{◌≡◌, ◌∙◌, Option, [], ap, arith, length, subst, sym, ℕ}
use Rattle.std.specs.Prelude.{IfSome}
use Rattle.std.specs.Arc.{arc_value}
use Rattle.std.specs.Option.{option_map}
use Rattle.object_inheritance.specs.Columns.{Column, line_of}
use Rattle.object_inheritance.specs.claims.Inherited.{given, own, value}
use Rattle.object_inheritance.specs.declared.inherited.Given.{Given}
use Rattle.object_inheritance.proofs.ColumnLemmas.{none-gives, origin-gives, past-none}
use Rattle.object_inheritance.proofs.inherited.Values.origin.Goals as goal

pub returns-in-Some-clause-same : goal.returns-in-Some-clause-same
returns-in-Some-clause-same c =
    let blocks = c.args.self.now.blocks in
    let directive = c.args.self.now.directive in
    subst (λ (kept : Option Given). IfSome kept (λ one. given blocks directive one.origin ≡ given blocks directive c.args.place)) c.in-Some.is c.given.ensures.origin

pub returns-in-Some-clause-own : goal.returns-in-Some-clause-own
returns-in-Some-clause-own c =
    let blocks = c.args.self.now.blocks in
    let directive = c.args.self.now.directive in
    subst (λ (kept : Option Given). IfSome kept (λ one. own blocks directive one.origin ≡ value blocks directive c.args.place)) c.in-Some.is
    (origin-gives blocks directive c.args.place c.given.result c.given.ensures)

pub returns-in-None-clause-same : goal.returns-in-None-clause-same
returns-in-None-clause-same c =
    let column = c.self.inside.column in
    let end : c.len.result ≡ length column.items = omega (arith, c.len.ensures, column.ok) in
    subst (λ (column : Column). given column.blocks column.directive c.len.result ≡ []) c.self.view_is
    (ap (λ (n : ℕ). given c.self.inside.blocks.now c.self.inside.directive.now n) end
    ∙ past-none c.self.inside.blocks.now c.self.inside.directive.now (option_map (λ uses. arc_value uses) c.self.inside.uses) column.items c.self.invariant)
    ∙ sym (c.given.ensures.line ∙ ap (line_of c.args.self.now.blocks c.args.self.now.directive) c.in-None.is)

pub returns-in-None-clause-own : goal.returns-in-None-clause-own
returns-in-None-clause-own c =
    let column = c.self.inside.column in
    let end : c.len.result ≡ length column.items = omega (arith, c.len.ensures, column.ok) in
    none-gives c.args.self.now.blocks c.args.self.now.directive c.args.place c.len.result c.given.result c.given.ensures c.in-None.is
    (subst (λ (column : Column). given column.blocks column.directive c.len.result ≡ []) c.self.view_is
    (ap (λ (n : ℕ). given c.self.inside.blocks.now c.self.inside.directive.now n) end
    ∙ past-none c.self.inside.blocks.now c.self.inside.directive.now (option_map (λ uses. arc_value uses) c.self.inside.uses) column.items c.self.invariant))
