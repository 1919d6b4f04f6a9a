use Rattle.std.proofs.Common.{List, Some, ap, sym, ℕ, ◌∙◌}
use Rattle.object_inheritance.specs.claims.Inherited.{is_additive, list_given, own_entries}
use Rattle.object_inheritance.proofs.ColumnLemmas.{plain-list}
use Rattle.object_inheritance.proofs.inherited.Values.list.Goals as goal

pub returns-then-not-is_additive : goal.returns-then-not-is_additive
returns-then-not-is_additive c =
    ap (λ (es : List (List ℕ)). Some es) (c.in_ok-own_entries.ensures ∙ ap own_entries c.text-text.ensures)
    ∙ sym (plain-list c.args.self.now.blocks c.args.self.now.directive c.in-Some.nearest (ap is_additive (sym c.text-text.ensures) ∙ sym c.is_additive.ensures ∙ c.if-not-is_additive.true))
    ∙ ap list_given (sym c.in-Some.ensures.line)

pub returns : goal.returns
returns c = ap (λ (es : List (List ℕ)). Some es) c.in_ok-joined.ensures ∙ ap list_given (sym c.in-Some.ensures.line)
