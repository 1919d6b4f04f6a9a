use Rattle.std.proofs.Common.{map}
use Rattle.std.specs.List.{range_with_len}
use Rattle.value_places.specs.Places.{Adds, file_of}
use Rattle.value_places.specs.Questions.{question_at}
use Rattle.value_places.proofs.places.push_object.Given as goal

-- The places of the filters so far came.
abbrev pub invariant-loop-filter : goal.invariant-loop-filter
invariant-loop-filter l =
    Adds (file_of l.source) l.templates (map (question_at l.templates l.origin) (range_with_len 0 l.filter)) (map (λ text. text.items) l.fn.texts.items) (map (λ text. text.items) l.texts.items)
