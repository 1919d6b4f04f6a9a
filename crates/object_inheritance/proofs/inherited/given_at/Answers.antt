use Rattle.std.proofs.Common.{List, None, [], ap, get_or, ℕ, ◌∙◌}
use Rattle.std.specs.Prelude.{find, is_some}
use Rattle.object_inheritance.proofs.ColumnLemmas.{given-none, given-own, given-taken}
use Rattle.object_inheritance.proofs.inherited.given_at.Goals as goal

pub returns-in-Some : goal.returns-in-Some
returns-in-Some c blocks directive same next =
    given-own blocks directive c.args.place c.args.column.now next c.first_with-further.result
    (c.first_with-further.ensures.first ∙ ap (λ (places : List ℕ). find (λ q. is_some (get_or c.args.column.now q None)) places)
    (c.ends.ensures.value ∙ ap (λ (graph : List (List ℕ)). get_or graph c.args.place []) (c.graph.ensures ∙ same)))
    c.in-Some.own c.in-Some.is

pub returns-in-Some-further : goal.returns-in-Some-further
returns-in-Some-further c blocks directive same next =
    given-taken blocks directive c.args.place c.args.column.now next c.first_with-further.result
    (c.first_with-further.ensures.first ∙ ap (λ (places : List ℕ). find (λ q. is_some (get_or c.args.column.now q None)) places)
    (c.ends.ensures.value ∙ ap (λ (graph : List (List ℕ)). get_or graph c.args.place []) (c.graph.ensures ∙ same)))
    c.in-Some-further.template c.in-None.is c.in-Some-further.is

pub returns-in-None-further : goal.returns-in-None-further
returns-in-None-further c blocks directive same next =
    given-none blocks directive c.args.place c.args.column.now next c.first_with-further.result
    (c.first_with-further.ensures.first ∙ ap (λ (places : List ℕ). find (λ q. is_some (get_or c.args.column.now q None)) places)
    (c.ends.ensures.value ∙ ap (λ (graph : List (List ℕ)). get_or graph c.args.place []) (c.graph.ensures ∙ same)))
    c.in-None.is c.in-None-further.is
