use Rattle.std.proofs.Common.{List, ◌∙◌, Bor, Option, ap, is_none, not, sym, ℕ}
use Rattle.std.specs.List.{list_any}
use Rattle.object_inheritance.specs.claims.Templates.{template_place}
use Rattle.object_values.specs.Values.{texts}
use Rattle.lemmas.proofs.Searches.{any-at}
use Rattle.object_inheritance.proofs.uses.uses_unknown.Goals as goal

pub returns-then-is_none : goal.returns-then-is_none
returns-then-is_none c =
    any-at (λ name. is_none (template_place c.args.names.now c.args.block.now.kind name)) c.as_slice-name-items.result.now c.loop-name.name-index _ c.loop-name-test.true
    (sym (ap (λ (found : Option ℕ). is_none found) (sym c.find.ensures.place) ∙ ap not c.if-is_none.ensures))
    ∙ ap (λ names. list_any (λ name. is_none (template_place c.args.names.now c.args.block.now.kind name)) names)
    (ap (λ (list : List (Bor (List ℕ))). texts list) c.as_slice-name-items.ensures.value ∙ c.in_ok-used.ensures)
