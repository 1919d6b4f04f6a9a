-- What becomes of an object at an event, told by what is kept.
use Rattle.std.specs.Prelude.{◌≡◌, ℕ, ◌+◌, ◌^◌, ◌<◌, ◌≤◌, Bool, true, List, ◌∷◌, slice_get, Option, None, Some, IfSome}
use Rattle.due_model.specs.declared.config.Choices.{Choices}
use Rattle.due_model.specs.declared.config.Config.{Config}
use Rattle.due_model.specs.declared.config.Object.{Object}
use Rattle.due_model.specs.declared.event.Event.{Event}
use Rattle.due_model.specs.declared.notice.Kind.{Kind}
use Rattle.due_model.specs.declared.notice.Outcome.{Outcome}
use Rattle.due_model.specs.declared.notice.Outcome.TheVariants.{Nothing, Sent, Suppressed}
use Rattle.due_model.specs.declared.zone.Zone.{Zone}
use Rattle.due_model.specs.claims.Acknowledgements.{acknowledgement}
use Rattle.due_model.specs.claims.Limits.{last_moment}
use Rattle.due_model.specs.claims.Readings.{hard_after, is_problem_state, moment}
use Rattle.due_model.specs.claims.Receivers.{is_heard}
use Rattle.due_model.specs.claims.Rules.{is_problem}
use Rattle.outcomes.specs.declared.found.Found.{Found}
use Rattle.outcomes.specs.declared.outcome.Decision.{Decision}
use Rattle.outcomes.specs.declared.outcome.Judgement.{Judgement}
use Rattle.outcomes.specs.declared.rules.Rules.{Rules}
use Rattle.outcomes.specs.Found.{IsFound}
use Rattle.problem_count.specs.claims.Book.{BookValues}
use Rattle.problem_count.specs.Book.{longest_gap}
use Rattle.problem_count.specs.claims.Fits.{BookFits}
use Rattle.problem_count.specs.Fits.{BookFitsLapsed, BookFitsWithin, outcome_at}

-- the moment and the gap of an outcome are within their limits
abbrev pub IsInRange : Outcome → Type 0
IsInRange Nothing = Unit {0}
IsInRange (Sent k s number t gap reach) = (t ≤ last_moment) × (gap ≤ longest_gap)
IsInRange (Suppressed k s number t why) = t ≤ last_moment

-- an outcome of an attempt of this kind
abbrev pub IsOfKind : Kind → Outcome → Type 0
IsOfKind kind Nothing = ⊥
IsOfKind kind (Sent k s number t gap reach) = k ≡ kind
IsOfKind kind (Suppressed k s number t why) = k ≡ kind

-- an outcome whose notice counts, or doesn't
abbrev pub with_heard : Bool → Outcome → Outcome
with_heard heard Nothing = Nothing
with_heard heard (Sent k s number t gap reach) =
    Sent k s number t gap
    (record { heard = heard; told = reach.told; standing = reach.standing })
with_heard heard (Suppressed k s number t why) = Suppressed k s number t why

-- whether the notice of an outcome counts, whatever the outcome says of that
abbrev pub heard_of : Config → Zone → ℕ → Object → Outcome → Bool
heard_of c zone o object Nothing = true
heard_of c zone o object (Sent k s number t gap reach) =
    is_heard c zone o object (record { kind = k; state = s; moment = t }) number reach.told
    reach.standing
heard_of c zone o object (Suppressed k s number t why) = true

-- Whatever event and past this is found at and the book fits, the outcome is that of the definitions, but for whether
-- its notice counts, and the book fits within the event.
abbrev pub Decides : Rules → (o : ℕ) → Found → BookValues → Judgement → Type 0
Decides rules o found book judged =
    (settings : Object) (e : Event) (past : List Event)
    → slice_get rules.config.now.objects o ≡ Some settings
    → IsFound rules.config.now rules.zone.now o settings e past found
    → BookFits rules.config.now rules.zone.now o settings past book
    → (outcome_at rules.config.now rules.zone.now o settings e past
    ≡ with_heard (heard_of rules.config.now rules.zone.now o settings judged.outcome)
    judged.outcome)
    × BookFitsLapsed rules.config.now rules.zone.now o settings e past judged.book

-- Whatever event the judged book fits within, of which the judged outcome becomes once it is known whether its notice
-- counts, this is that outcome, and the book after it fits.
abbrev pub Concludes : Rules → (o : ℕ) → Judgement → (heard : Bool) → Decision → Type 0
Concludes rules o judged heard decision =
    (settings : Object) (e : Event) (past : List Event)
    → slice_get rules.config.now.objects o ≡ Some settings
    → outcome_at rules.config.now rules.zone.now o settings e past
    ≡ with_heard heard judged.outcome
    → BookFitsLapsed rules.config.now rules.zone.now o settings e past judged.book
    → (decision.outcome ≡ outcome_at rules.config.now rules.zone.now o settings e past)
    × BookFits rules.config.now rules.zone.now o settings (e ∷ past) decision.book

-- an outcome of what was attempted, if anything
abbrev pub IsOf : Option Kind → Outcome → Type 0
IsOf None outcome = outcome ≡ Nothing
IsOf (Some k) outcome = IsOfKind k outcome

-- a judgement is of what was attempted, of a problem that runs if of a problem
pub record IsJudgement (j : Judgement) : Type 0 where
  pub of : IsOf j.kind j.outcome
  pub range : IsInRange j.outcome
  pub runs : IfSome j.kind (λ k. is_problem k ≡ true → is_problem_state j.book.state ≡ true)
  pub number : j.book.sent + 2 < 2 ^ 64

-- The book within an event: its state is the one that the event gives, no more notices are counted, and it fits
-- within whatever event this is found at.
pub record Begins (choices : Choices) (o : ℕ) (found : Found) (old new : BookValues) : Type 0
  where
    pub state : new.state ≡ hard_after o found.event old.state
    pub sent : new.sent ≤ old.sent
    pub fits : (c : Config) (zone : Zone) (settings : Object) (e : Event) (past : List Event)
        → choices ≡ c.choices → found.event ≡ e.kind → found.moment ≡ moment (e ∷ past)
        → found.before.acknowledged ≡ acknowledgement o past
        → BookFits c zone o settings past old → BookFitsWithin c zone o settings e past new

-- Whatever event the old book fits within, of which this becomes, the new one fits after it.
abbrev pub Settles : Rules → (o : ℕ) → Kind → Outcome → (old new : BookValues) → Type 0
Settles rules o kind outcome old new =
    (settings : Object) (e : Event) (past : List Event)
    → slice_get rules.config.now.objects o ≡ Some settings
    → IsOfKind kind outcome
    → outcome ≡ outcome_at rules.config.now rules.zone.now o settings e past
    → BookFitsLapsed rules.config.now rules.zone.now o settings e past old
    → BookFits rules.config.now rules.zone.now o settings (e ∷ past) new

-- Whatever event this is found at, of which this becomes but for whether its notice counts, and the old book fits
-- within, the new one fits with what the outcome does to the wait.
abbrev pub Lapses : Rules → (o : ℕ) → Found → Outcome → (old new : BookValues) → Type 0
Lapses rules o found outcome old new =
    (settings : Object) (e : Event) (past : List Event) (heard : Bool)
    → slice_get rules.config.now.objects o ≡ Some settings
    → IsFound rules.config.now rules.zone.now o settings e past found
    → outcome_at rules.config.now rules.zone.now o settings e past ≡ with_heard heard outcome
    → BookFitsWithin rules.config.now rules.zone.now o settings e past old
    → BookFitsLapsed rules.config.now rules.zone.now o settings e past new
