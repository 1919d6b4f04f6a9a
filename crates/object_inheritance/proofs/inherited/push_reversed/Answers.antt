use Rattle.std.proofs.Common.{◌≡◌, ◌++◌, ◌∙◌, List, ℕ, Bor, ap}
use Rattle.std.specs.Prelude.{reverse}
use Rattle.std.proofs.lemmas.List.{map-append, take_at}
use Rattle.object_values.specs.Values.{texts}
use Rattle.object_inheritance.proofs.ColumnLemmas.{texts-reverse}
use Rattle.object_inheritance.proofs.inherited.push_reversed.Goals as goal

pub returns : goal.returns
returns c =
    let written : c.reverse.new.self ≡ reverse c.in_ok-own.own.items = c.reverse.ensures.after ∙ ap (λ (xs : List (Bor (List ℕ))). reverse xs) c.as_mut_slice.ensures.value in
    let kept : c.as_slice.result.now ≡ reverse c.in_ok-own.own.items =
    c.as_slice.ensures.value ∙ take_at c.reverse.new.self _ c.in_ok-own.own.len (c.reverse.ensures.len ∙ c.as_mut_slice.ensures.len) ∙ written in
    ap (λ (xs : List (Bor (List ℕ))). texts xs) c.in_ok-extend_from_slice.ensures.items
    ∙ map-append (λ (text : Bor (List ℕ)). text.now) c.args.list.now.items _
    ∙ ap (λ (more : List (List ℕ)). texts c.args.list.now.items ++ more) (ap (λ (xs : List (Bor (List ℕ))). texts xs) kept ∙ texts-reverse c.in_ok-own.own.items ∙ ap (λ (es : List (List ℕ)). reverse es) c.in_ok-own.ensures)
