-- The outcomes of a problem, from the place on where it begins.
use Rattle.std.proofs.Common.{true, false, if◌then◌else◌, ap₂, ◌≡◌, ℕ, ◌+◌, ◌<◌, ◌≤◌, List, [], ◌∷◌, length, get_or, take, drop, reverse, sym, ap, ◌∙◌, arith}
use Rattle.due_model.specs.declared.event.Event.{Event}
use Rattle.due_model.specs.declared.notice.Outcome.{Outcome}
use Rattle.due_model.specs.declared.notice.Outcome.TheVariants.{Nothing}
use Rattle.due_model.specs.claims.Readings.{begins}
use Rattle.due_model.specs.claims.Histories.{of_problem}
use Rattle.lemmas.proofs.Lists.{past_more, part_more, drop_none}

-- where a problem begins at place i, its outcomes are that of place i alone
pub problem_begins : (o : ℕ) (events : List Event) (history : List Outcome) (d : Event) (i : ℕ) → length events ≡ length history → i < length events
    → begins o (get_or events i d) (reverse (take i events)) ≡ true
    → reverse (drop i (take (i + 1) history)) ≡ of_problem o (reverse (take (i + 1) events)) (reverse (take (i + 1) history))
problem_begins o events history d i same h b =
    let now = get_or history i Nothing in
    let past = reverse (take i events) in
    part_more history i i Nothing (omega arith) (omega arith)
    ∙ ap (λ xs. now ∷ reverse xs) (drop_none history i)
    ∙ ap (λ t. now ∷ (if t then [] else of_problem o past (reverse (take i history)))) (sym b)
    ∙ ap₂ (of_problem o) (sym (past_more events i d h)) (sym (past_more history i Nothing (omega arith)))

-- where none does, they are those of the problem so far, and that of place i
pub problem_goes_on : (o : ℕ) (events : List Event) (history : List Outcome) (d : Event) (start i : ℕ) → length events ≡ length history → i < length events → start ≤ i
    → begins o (get_or events i d) (reverse (take i events)) ≡ false
    → reverse (drop start (take i history)) ≡ of_problem o (reverse (take i events)) (reverse (take i history))
    → reverse (drop start (take (i + 1) history)) ≡ of_problem o (reverse (take (i + 1) events)) (reverse (take (i + 1) history))
problem_goes_on o events history d start i same h low b so_far =
    let now = get_or history i Nothing in
    let past = reverse (take i events) in
    part_more history start i Nothing low (omega arith)
    ∙ ap (λ xs. now ∷ xs) so_far
    ∙ ap (λ t. now ∷ (if t then [] else of_problem o past (reverse (take i history)))) (sym b)
    ∙ ap₂ (of_problem o) (sym (past_more events i d h)) (sym (past_more history i Nothing (omega arith)))
