-- What an intake has taken.
use Rattle.std.specs.Prelude.{◌≡◌, ℕ, ◌≤◌, ◌++◌, [], All, Contains, List, Option, map, true, length, Result, Ok, Err, Some, IsErrOf, option_to_list}
use Rattle.std.specs.List.{AllZip}
use Rattle.due_model.specs.declared.config.Config.{Config}
use Rattle.due_model.specs.declared.event.Event.{Event}
use Rattle.due_model.specs.claims.Proper.{IsProper}
use Rattle.caller_feeds.specs.declared.handle.FeedHandle.{FeedHandle}
use Rattle.caller_feeds.specs.declared.end.FeedEnd.{FeedEnd}
use Rattle.caller_feeds.specs.declared.intake.IntakeStop.{IntakeStop}
use Rattle.caller_feeds.specs.declared.intake.IntakeStop.TheVariants.{Over, Ended, HandleDropped}
use Rattle.caller_feeds.specs.declared.item.FeedItem.TheVariants.{Posted}
use Rattle.caller_feeds.specs.Items.{has_end, improper_count, proper_among}
use Rattle.caller_feeds.specs.Feeds.{ComesNext, IsSameEnd, NothingWaits, improper_of, received_by, sent_by}
use Rattle.caller_feeds.specs.Merge.{Merge}

-- the proper events among what each end has received, and among what each handle has sent
abbrev pub received_lists : Config → List FeedEnd → List (List Event)
received_lists c ends = map (λ e. proper_among c (received_by e)) ends

abbrev pub sent_lists : Config → List FeedHandle → List (List Event)
sent_lists c handles = map (λ h. proper_among c (sent_by h)) handles

-- an end has counted its improper events
abbrev pub HasCounted : Config → FeedEnd → Type 0
HasCounted c e = improper_of e ≡ improper_count c (received_by e)

-- The events are a merge of the proper ones among what the ends have received, and each end has counted its improper ones.
pub record IsTaken (c : Config) (ends : List FeedEnd) (events : List Event) : Type 0 where
  pub merge : Merge events (received_lists c ends)
  pub counted : All (HasCounted c) ends

-- each feed's end was received
abbrev pub AreOver : List FeedEnd → Type 0
AreOver ends = All (λ e. has_end (received_by e) ≡ true) ends

-- a proper event comes next at this end
abbrev pub Awaits : Config → FeedEnd → Type 0
Awaits c e = (event : Event) × ComesNext (Posted event) e × IsProper c event

-- a proper event comes next at one of the ends
abbrev pub SomeAwaits : Config → List FeedEnd → Type 0
SomeAwaits c ends = (e : FeedEnd) × Contains ends e × Awaits c e

-- the event that is given, if one is
abbrev pub given_by : Result (Option Event) IntakeStop → List Event
given_by (Ok found) = option_to_list found
given_by (Err stop) = []

-- an event that is given is one that is found
abbrev pub found_by : Result Event IntakeStop → Result (Option Event) IntakeStop
found_by (Ok event) = Ok (Some event)
found_by (Err stop) = Err stop

-- ---- of one end

-- What came next at an end, if something did, was taken. Where it is a proper event, it is given, and added to the events. Nothing
-- is taken where there is an error.
pub record TakesNext (c : Config) (most : ℕ) (result : Result (Option Event) IntakeStop)
    (old new : FeedEnd) (before after : List Event) : Type 0 where
  pub feed : IsSameEnd old new
  pub events : after ≡ before ++ given_by result
  pub received : proper_among c (received_by new) ≡ proper_among c (received_by old) ++ given_by result
  pub counted : HasCounted c old → HasCounted c new
  pub proper : All (IsProper c) (given_by result)
  pub within : length before ≤ most → length after ≤ most
  pub ended : IsErrOf result Ended → Awaits c new × (most ≤ length after)
  pub over : IsErrOf result Over → ⊥
  pub dropped : IsErrOf result HandleDropped → ⊥

-- ---- of an intake

-- what contracts see of an intake: its ends, the events that were taken, and how many may be
pub record Taking : Type 0 where
  pub ends : List FeedEnd
  pub events : List Event
  pub most : ℕ

-- An intake goes on: its ends are those of the same feeds, in order; and where the events were a merge of what the ends had
-- received, they still are.
pub record GoesOn (c : Config) (old new : Taking) : Type 0 where
  pub ends : AllZip IsSameEnd old.ends new.ends
  pub most : new.most ≡ old.most
  pub taken : IsTaken c old.ends old.events → IsTaken c new.ends new.events

-- An intake gives an event, which is proper and added to the events, or none. Over: each feed's end was received. Ended: as many
-- events were taken as may be, and one more waits. HandleDropped: nothing waits, and not each feed's end was received.
pub record GivesNext (c : Config) (result : Result (Option Event) IntakeStop)
    (old new : Taking) : Type 0 where
  pub goes : GoesOn c old new
  pub events : new.events ≡ old.events ++ given_by result
  pub proper : All (IsProper c) (given_by result)
  pub within : length old.events ≤ old.most → length new.events ≤ new.most
  pub over : IsErrOf result Over → AreOver new.ends
  pub ended : IsErrOf result Ended → SomeAwaits c new.ends × (new.most ≤ length new.events)
  pub dropped : IsErrOf result HandleDropped → All NothingWaits new.ends × (¬ AreOver new.ends)
