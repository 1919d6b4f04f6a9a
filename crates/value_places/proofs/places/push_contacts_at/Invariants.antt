use Rattle.std.proofs.Common.{map, take}
use Rattle.value_places.specs.Places.{Adds, file_of}
use Rattle.value_places.specs.Questions.{contacts_questions}
use Rattle.value_places.proofs.places.push_contacts_at.Given as goal

-- The places of the contacts so far came.
abbrev pub invariant-loop-place : goal.invariant-loop-place
invariant-loop-place l =
    Adds (file_of l.source) l.blocks (contacts_questions l.rights.service (take l.place-index l.places)) (map (λ text. text.items) l.fn.texts.items) (map (λ text. text.items) l.texts.items)
