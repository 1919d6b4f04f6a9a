-- What a run takes of a feed.
use Rattle.std.specs.Prelude.{◌≡◌, ℕ, ◌+◌, Bool, false, ◌==◌, ◌&&◌, All, List, [], ◌∷◌, flat_map, Result, Ok, Err, if◌then◌else◌}
use Rattle.std.specs.List.{list_any}
use Rattle.due_model.specs.declared.config.Object.{Object}
use Rattle.due_model.specs.declared.event.Event.{Event}
use Rattle.due_model.specs.claims.Limits.{max_events}
use Rattle.event_feed.specs.declared.fault.FeedFault.{FeedFault}
use Rattle.event_feed.specs.declared.fault.FeedFault.TheVariants.{Ended}
use Rattle.event_feed.specs.declared.fault.RefusedLine.{RefusedLine}
use Rattle.event_feed.specs.claims.Fault.{is_ahead}
use Rattle.event_feed.specs.claims.Feed.{Answer, AreGiven, answers_within, ends_feed}
use Rattle.text_lines.specs.claims.Lines.{pieces}
use Rattle.engine.specs.claims.Lists.{IsFrontOf}

-- ---- of the answers of a feed

-- an event after as many as can be numbered
abbrev pub is_unnumbered : (count : ℕ) → Result Event FeedFault → Bool
is_unnumbered count (Ok e) = count == max_events
is_unnumbered count (Err fault) = false

-- how many events there are after it
abbrev pub count_after : (count : ℕ) → Result Event FeedFault → ℕ
count_after count (Ok e) = count + 1
count_after count (Err fault) = count

-- What is taken of the answers of a feed, after so many events: all of them, but an event that can't be numbered is refused
-- as Ended, and nothing after it is read.
abbrev pub taken_after : (count : ℕ) → List Answer → List Answer
taken_after count [] = []
taken_after count (answer ∷ more) =
    if is_unnumbered count answer.given then record { line = answer.line; given = Err Ended } ∷ []
    else answer ∷ taken_after (count_after count answer.given) more

-- the event that an answer is, if it is one
abbrev pub event_in : Result Event FeedFault → List Event
event_in (Ok e) = e ∷ []
event_in (Err fault) = []

abbrev pub events_in : List Answer → List Event
events_in given = flat_map (λ answer. event_in answer.given) given

-- the refused line that it is, if it is one
abbrev pub refused_in : (line : ℕ) → Result Event FeedFault → List RefusedLine
refused_in line (Ok e) = []
refused_in line (Err fault) = record { line = line; fault = fault } ∷ []

abbrev pub refusals_in : List Answer → List RefusedLine
refusals_in given = flat_map (λ answer. refused_in answer.line answer.given) given

abbrev pub is_cut : List Answer → Bool
is_cut given = list_any (λ answer. ends_feed answer.given) given

-- ---- of the lines that are too far ahead

-- whether a line is refused as Ahead among these
abbrev pub ahead_in : List RefusedLine → (line : ℕ) → Bool
ahead_in refused line = list_any (λ r. (r.line == line) && is_ahead r.fault) refused

-- ---- of a feed

-- these events and refused lines were taken of these answers, and the feed was cut or not
pub record AreTaken (given : List Answer) (events : List Event) (refused : List RefusedLine)
    (cut : Bool) : Type 0 where
  pub events_are : events ≡ events_in (taken_after 0 given)
  pub refused_are : refused ≡ refusals_in (taken_after 0 given)
  pub cut_is : cut ≡ is_cut (taken_after 0 given)

-- The events and the refused lines are those of the bytes, of whose lines these are too far ahead, up to the end of them; or up
-- to the line of the last that is refused, where the feed was cut: it ended within a line, an event can't be numbered, or the
-- reading broke off.
abbrev pub IsWhatWasRead : (far : ℕ → Bool) → (can_fail : Bool) → List Object → (bytes : List ℕ)
    → List Event → List RefusedLine → (cut : Bool) → Type 0
IsWhatWasRead far can_fail objects bytes events refused cut =
    (given : List Answer)
    × AreGiven can_fail given (answers_within far objects 0 0 (pieces bytes)) 0 (pieces bytes)
    × AreTaken given events refused cut

-- all the events that the bytes give
abbrev pub events_of : (far : ℕ → Bool) → List Object → (bytes : List ℕ) → List Event
events_of far objects bytes =
    events_in (taken_after 0 (answers_within far objects 0 0 (pieces bytes)))

-- these answers are a front of all that is taken of the bytes
abbrev pub IsFrontTaken : (far : ℕ → Bool) → List Object → (bytes : List ℕ)
    → (said : List Answer) → Type 0
IsFrontTaken far objects bytes said =
    IsFrontOf said (taken_after 0 (answers_within far objects 0 0 (pieces bytes)))

-- The events and the refused lines are those of a front of what the bytes give, as far as memory sufficed.
abbrev pub IsFrontRead : (far : ℕ → Bool) → List Object → (bytes : List ℕ) → List Event
    → List RefusedLine → Type 0
IsFrontRead far objects bytes events refused =
    (said : List Answer)
    × IsFrontTaken far objects bytes said
    × (events ≡ events_in said) × (refused ≡ refusals_in said)

-- no line was refused as Ahead
abbrev pub NoneIsAhead : List RefusedLine → Type 0
NoneIsAhead refused = All (λ r. is_ahead r.fault ≡ false) refused
