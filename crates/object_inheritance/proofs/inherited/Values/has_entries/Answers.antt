use Rattle.std.proofs.Common.{◌≡◌, ◌∙◌, List, Option, ap, subst, sym, ℕ}
use Rattle.object_inheritance.specs.Columns.{given_from, line_of}
use Rattle.object_inheritance.specs.Givers.{text_at}
use Rattle.object_inheritance.specs.claims.Inherited.{joined_entries, own_entries}
use Rattle.object_inheritance.specs.Inherited.{has_any, has_entries}
use Rattle.object_inheritance.specs.declared.inherited.Given.{Given}
use Rattle.object_inheritance.proofs.EntryLemmas.{any-beside, any-here}
use Rattle.object_inheritance.proofs.inherited.Values.has_entries.Goals as goal

pub returns-then-has_own_entry : goal.returns-then-has_own_entry
returns-then-has_own_entry c =
    let blocks = c.args.self.now.blocks in
    let directive = c.args.self.now.directive in
    sym (any-here (text_at blocks c.in-Some.next.origin c.in-Some.next.number) (given_from blocks directive c.in-Some.next.further)
    (ap (λ (text : List ℕ). has_any (own_entries text)) (sym c.text.ensures) ∙ sym c.has_own_entry.ensures ∙ c.if-has_own_entry.true))
    ∙ subst (λ (kept : Option Given). has_any (joined_entries (line_of blocks directive kept)) ≡ has_entries blocks directive c.args.place) c.in-Some.is c.loop-left.invariant

pub loop-left-preserved : goal.loop-left-preserved
loop-left-preserved c =
    let blocks = c.args.self.now.blocks in
    let directive = c.args.self.now.directive in
    any-beside (text_at blocks c.in-Some.next.origin c.in-Some.next.number) (given_from blocks directive c.in-Some.next.further) (line_of blocks directive c.beside-left.result)
    c.beside-left.ensures
    (ap (λ (text : List ℕ). has_any (own_entries text)) (sym c.text.ensures) ∙ sym c.has_own_entry.ensures ∙ c.if-has_own_entry.false)
    ∙ subst (λ (kept : Option Given). has_any (joined_entries (line_of blocks directive kept)) ≡ has_entries blocks directive c.args.place) c.in-Some.is c.loop-left.invariant
