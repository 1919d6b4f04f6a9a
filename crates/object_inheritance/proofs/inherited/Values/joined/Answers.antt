use Rattle.std.proofs.Common.{◌≡◌, ◌++◌, ◌<◌, ◌∙◌, Bor, List, Option, Some, ap, length, subst, sym, ℕ}
use Rattle.std.specs.Prelude.{reverse}
use Rattle.std.proofs.lemmas.List.{take_at}
use Rattle.object_inheritance.specs.Columns.{given_from, line_of}
use Rattle.object_inheritance.specs.Givers.{text_at}
use Rattle.object_inheritance.specs.claims.Inherited.{joined_entries, own_entries}
use Rattle.object_values.specs.Values.{texts}
use Rattle.object_inheritance.specs.declared.inherited.Given.{Given}
use Rattle.object_inheritance.proofs.ColumnLemmas.{fewer, one-text, texts-reverse}
use Rattle.object_inheritance.proofs.inherited.Values.joined.Goals as goal

pub loop-given-preserved : goal.loop-given-preserved
loop-given-preserved c =
    let blocks = c.args.self.now.blocks in
    let directive = c.args.self.now.directive in
    one-text (text_at blocks c.in-Some.next.origin c.in-Some.next.number) (given_from blocks directive c.in-Some.next.further) (line_of blocks directive c.beside-given.result)
    (joined_entries (line_of blocks directive (Some c.args.first))) (texts c.loop-given.list.items) (texts c.push_reversed.new.list.items)
    (subst (λ (kept : Option Given). joined_entries (line_of blocks directive kept) ++ reverse (texts c.loop-given.list.items) ≡ joined_entries (line_of blocks directive (Some c.args.first)))
    c.in-Some.is c.loop-given.invariant)
    c.beside-given.ensures
    (c.in_ok-push_reversed.ensures ∙ ap (λ (text : List ℕ). texts c.loop-given.list.items ++ reverse (own_entries text)) c.text.ensures)

pub loop-given-smaller : goal.loop-given-smaller
loop-given-smaller c =
    let blocks = c.args.self.now.blocks in
    let directive = c.args.self.now.directive in
    subst (λ (kept : Option Given). length (line_of blocks directive c.beside-given.result) < length (line_of blocks directive kept)) (sym c.in-Some.is)
    (fewer (text_at blocks c.in-Some.next.origin c.in-Some.next.number) (given_from blocks directive c.in-Some.next.further) (line_of blocks directive c.beside-given.result) c.beside-given.ensures)

pub returns : goal.returns
returns c =
    let blocks = c.args.self.now.blocks in
    let directive = c.args.self.now.directive in
    let written : c.reverse.new.self ≡ reverse c.loop-given.list.items =
    c.reverse.ensures.after ∙ ap (λ (xs : List (Bor (List ℕ))). reverse xs) c.as_mut_slice.ensures.value in
    ap (λ (xs : List (Bor (List ℕ))). texts xs) (take_at c.reverse.new.self _ c.loop-given.list.len (c.reverse.ensures.len ∙ c.as_mut_slice.ensures.len) ∙ written)
    ∙ texts-reverse c.loop-given.list.items
    ∙ subst (λ (kept : Option Given). joined_entries (line_of blocks directive kept) ++ reverse (texts c.loop-given.list.items) ≡ joined_entries (line_of blocks directive (Some c.args.first)))
    c.in_default.is c.loop-given.invariant
