-- What a decider has received is what it was sent.
use Rattle.std.proofs.Common.{◌≡◌, List, [], ◌∷◌, ◌++◌, refl, sym, ap, ◌∙◌, append_assoc, append-nil, reverse}
use Rattle.std.proofs.lemmas.List.{reverse-append, reverse-reverse}
use Rattle.due_model.specs.declared.event.Event.{Event}
use Rattle.decider_thread.specs.declared.Signal.{Signal}
use Rattle.decider_thread.specs.declared.Signal.TheVariants.{Decides, Over}
use Rattle.decider_thread.specs.Decided.{heard}

-- the events before the end
abbrev before_end : List Signal → List Event
before_end [] = []
before_end (Decides e ∷ ss) = e ∷ before_end ss
before_end (Over ∷ ss) = []

before_end_of : (past : List Event) (ss : List Signal) → before_end (heard past ++ ss) ≡ reverse past ++ before_end ss
before_end_of [] ss = refl
before_end_of (e ∷ past) ss =
    ap before_end (append_assoc (heard past) (Decides e ∷ []) ss) ∙ before_end_of past (Decides e ∷ ss)
    ∙ sym (append_assoc (reverse past) (e ∷ []) (before_end ss)) ∙ ap (λ (es : List Event). es ++ before_end ss) (sym (reverse-append (e ∷ []) past))

same_reverse : (a b : List Event) → reverse a ≡ reverse b → a ≡ b
same_reverse a b e = sym (reverse-reverse a) ∙ ap (λ (es : List Event). reverse es) e ∙ reverse-reverse b

pub heard_same : (all past : List Event) (got known sent : List Signal) → got ++ known ≡ sent → got ≡ heard all ++ Over ∷ [] → sent ≡ heard past ++ Over ∷ [] → all ≡ past
heard_same all past got known sent fifo was is =
    let both : heard all ++ Over ∷ known ≡ heard past ++ Over ∷ [] = sym (append_assoc (heard all) (Over ∷ []) known) ∙ ap (λ (ss : List Signal). ss ++ known) (sym was) ∙ fifo ∙ is in
    let ends = sym (before_end_of all (Over ∷ known)) ∙ ap before_end both ∙ before_end_of past (Over ∷ []) in
    same_reverse all past (sym (append-nil (reverse all)) ∙ ends ∙ append-nil (reverse past))
