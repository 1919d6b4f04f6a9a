-- What a run takes of a feed.
use Rattle.std.specs.Prelude.{◌≡◌, ◌≢◌, ℕ, ◌+◌, ◌≤◌, Bool, false, true, All, List, [], ◌∷◌, ◌++◌, length, Option, None, Some, IfSome, Result, Ok, Err, if◌then◌else◌}
use Rattle.due_model.specs.declared.config.Config.{Config}
use Rattle.due_model.specs.declared.event.Event.{Event}
use Rattle.due_model.specs.claims.Limits.{max_events}
use Rattle.due_model.specs.claims.Proper.{IsProper}
use Rattle.event_feed.specs.declared.fault.FeedFault.{FeedFault}
use Rattle.event_feed.specs.declared.fault.FeedFault.TheVariants.{Ended, NoMemory}
use Rattle.event_feed.specs.declared.fault.RefusedLine.{RefusedLine}
use Rattle.event_feed.specs.claims.Fault.{is_ahead}
use Rattle.event_feed.specs.claims.Feed.{Answer, AreGivenByWithin, Feed, GivesEventWithin, answers_from_within, ends_feed, refusal}
use Rattle.event_feed.specs.Feed.{PassesLines}
use Rattle.text_lines.specs.claims.Lines.{Known}
use Rattle.engine.specs.declared.intake.Next.{Next}
use Rattle.engine.specs.declared.intake.Next.TheVariants.{Accepts, Refused, Over}
use Rattle.engine.specs.claims.Lists.{IsFrontOf}
use Rattle.engine.specs.claims.Feed.{taken_after, events_in, refusals_in, is_cut, ahead_in, AreTaken, NoneIsAhead}

-- whether an answer is that
abbrev pub is_held_back : Result Event FeedFault → Bool
is_held_back (Ok e) = false
is_held_back (Err fault) = is_ahead fault

-- of the lines of these answers just those are too far ahead that are refused so
abbrev pub AreHeldBack : (far : ℕ → Bool) → List Answer → Type 0
AreHeldBack far given = All (λ answer. far answer.line ≡ is_held_back answer.given) given

-- ---- while it is read

-- what is read of a feed so far: the feed after it, the events that were accepted and the lines that were refused
pub record Intake : Type 0 where
  pub feed : Feed
  pub events : List Event
  pub refused : List RefusedLine

-- the same; whether no line is too far ahead for it; whether it is over, and then whether it was cut; and for how many more events
-- and lines there is room
pub record Kept : Type 0 where
  pub read : Intake
  pub is_open : Bool
  pub over : Option Bool
  pub events_room : ℕ
  pub refused_room : ℕ

-- These came first of a feed's answers, whatever lines after them are too far ahead, none of them ends the feed, and it goes on
-- after them; what was taken of them, and of any that come after them, is these events and refused lines first.
pub record CameFirst (c : Config) (start : Feed) (given : List Answer) (now : Feed)
    (events : List Event) (refused : List RefusedLine) : Type 0 where
  pub answers : (far : ℕ → Bool) → AreHeldBack far given → Known start.bytes now.bytes
      (λ bytes rest. answers_from_within far c.objects start bytes
      ≡ given ++ answers_from_within far c.objects now rest)
  pub line : start.line ≤ now.line
  pub earlier : All (λ answer. answer.line ≤ now.line) given
  pub held_back : AreHeldBack (ahead_in (refusals_in given)) given
  pub read_on : All (λ answer. ends_feed answer.given ≡ false) given
  pub lines : PassesLines start now
  pub events_are : events ≡ events_in given
  pub refused_are : refused ≡ refusals_in given
  pub taken : (others : List Answer)
      → taken_after 0 (given ++ others) ≡ given ++ taken_after (length events) others

-- these answers, and one more, if there is one
abbrev pub with_one : List Answer → Option Answer → List Answer
with_one said None = said
with_one said (Some answer) = said ++ answer ∷ []

-- what a run has, as far as it has read: these answers were taken
pub record HasRead (c : Config) (start : Feed) (said : List Answer) (now : Intake) : Type 0 where
  pub first : CameFirst c start said now.feed now.events now.refused
  pub goes_on : now.feed.stop ≡ None
  pub proper : All (IsProper c) now.events
  pub short : length now.events ≤ max_events
  pub named : All (λ r. r.fault ≢ NoMemory) now.refused

-- an event was read, and isn't accepted yet
pub record Offers (c : Config) (start : Feed) (said : List Answer) (event : Event)
    (now : Intake) : Type 0 where
  pub before : Feed
  pub read : HasRead c start said (record now { feed = before })
  pub gives : (far : ℕ → Bool) → far now.feed.line ≡ false
      → GivesEventWithin far c before event now.feed

-- the reading is over: these answers are all that was taken
pub record HasEnded (can_fail : Bool) (c : Config) (start : Feed) (said : List Answer) (cut : Bool)
    (now : Intake) : Type 0 where
  pub given : (far : ℕ → Bool) → AreHeldBack far said → (given : List Answer)
      × AreGivenByWithin far can_fail c.objects start given × (said ≡ taken_after 0 given)
  pub held_back : AreHeldBack (ahead_in (refusals_in said)) said
  pub events_are : now.events ≡ events_in said
  pub refused_are : now.refused ≡ refusals_in said
  pub cut_is : cut ≡ is_cut said
  pub proper : All (IsProper c) now.events
  pub named : All (λ r. r.fault ≢ NoMemory) now.refused

-- the events are a front of those that the feed gives
abbrev pub IsFrontOfFeed : (far : ℕ → Bool) → Config → Feed → List Event → Type 0
IsFrontOfFeed far c start events = IfSome start.bytes (λ bytes.
    IsFrontOf events (events_in (taken_after 0 (answers_from_within far c.objects start bytes))))

-- and the answers are a front of what is taken of it
abbrev pub AreFrontOfFeed : (far : ℕ → Bool) → Config → Feed → (said : List Answer) → Type 0
AreFrontOfFeed far c start said = IfSome start.bytes
    (λ bytes. IsFrontOf said (taken_after 0 (answers_from_within far c.objects start bytes)))

-- The reading is over, and the feed was cut or not. The answers but the last, where it was cut, are a front of what is taken of it.
pub record IsOver (can_fail : Bool) (c : Config) (start : Feed) (said : List Answer) (cut : Bool)
    (now : Intake) : Type 0 where
  pub ended : HasEnded can_fail c start said cut now
  pub before : List Answer
  pub last : List RefusedLine
  pub begins : (far : ℕ → Bool) → AreHeldBack far said → AreHeldBack far before
  pub held_back : AreHeldBack (ahead_in (refusals_in before)) before
  pub front : (far : ℕ → Bool) → AreHeldBack far before → AreFrontOfFeed far c start before
  pub events_are : now.events ≡ events_in before
  pub refused_are : now.refused ≡ refusals_in before ++ last
  pub one : length last ≡ (if cut then 1 else 0)

-- what was taken of a feed so far, which goes on or is over
abbrev pub HasTaken : (can_fail : Bool) → Config → (start : Feed) → (said : List Answer)
    → (over : Option Bool) → Intake → Type 0
HasTaken can_fail c start said None now = HasRead c start said now
HasTaken can_fail c start said (Some cut) now = IsOver can_fail c start said cut now

-- none was where none is too far ahead
abbrev pub StaysOpen : (old new : Kept) → Type 0
StaysOpen old new = (old.is_open ≡ true → NoneIsAhead old.read.refused → NoneIsAhead new.read.refused)
    × (new.is_open ≡ old.is_open)

-- of a feed of which answers were taken, others are taken then
abbrev pub Goes : (can_fail : Bool) → Config → (old new : Kept) → Type 0
Goes can_fail c old new = ((start : Feed) (said : List Answer)
    → HasTaken can_fail c start said old.over old.read
    → (all : List Answer) × HasTaken can_fail c start all new.over new.read)
    × StaysOpen old new

-- what the next line of the feed makes of a run that has taken these answers
abbrev pub Follows : (can_fail : Bool) → Config → (start : Feed) → (said : List Answer) → Next
    → Intake
    → Type 0
Follows can_fail c start said (Accepts e) now = Offers c start said e now
Follows can_fail c start said Refused now =
    (fault : RefusedLine) × HasRead c start (said ++ refusal fault ∷ []) now
Follows can_fail c start said (Over cut) now =
    (all : List Answer) × IsOver can_fail c start all cut now

-- whether the feed goes on after it
abbrev pub goes_on : Next → Bool
goes_on (Accepts e) = true
goes_on Refused = true
goes_on (Over cut) = false

-- the event that it is, if it is one
abbrev pub accepts : Next → List Event
accepts (Accepts e) = e ∷ []
accepts Refused = []
accepts (Over cut) = []

-- an event more is accepted
abbrev pub accepted : Event → Intake → Intake
accepted e now = record now { events = now.events ++ e ∷ [] }

-- an event that can't be numbered is refused
abbrev pub ended : Intake → Intake
ended now = record now {
  refused = now.refused ++ record { line = now.feed.line; fault = Ended } ∷ [];
}

-- ---- from its start to its end

-- the first line of a feed is the next, and its bytes are these, where they are known
pub record IsFirst (known : Option (List ℕ)) (feed : Feed) : Type 0 where
  pub bytes : feed.bytes ≡ known
  pub line : feed.line ≡ 0
  pub last : feed.last ≡ 0
  pub goes_on : feed.stop ≡ None

-- nothing was read of such a feed
pub record IsStart (known : Option (List ℕ)) (now : Kept) : Type 0 where
  pub first : IsFirst known now.read.feed
  pub no_events : now.read.events ≡ []
  pub no_refused : now.read.refused ≡ []
  pub not_over : now.over ≡ None

-- What a run leaves of a feed of whose lines these are too far ahead: all that was taken of it, or, where memory ran out, a front
-- of that; then it isn't said to be cut.
pub record IsLeft (far : ℕ → Bool) (can_fail : Bool) (c : Config) (start : Feed) (memory : Bool)
    (events : List Event) (refused : List RefusedLine) (cut : Bool) : Type 0 where
  pub read : memory ≡ false → (given : List Answer)
      × AreGivenByWithin far can_fail c.objects start given
      × AreTaken given events refused cut
  pub front : IsFrontOfFeed far c start events
  pub read_front : memory ≡ true → (said : List Answer)
      × AreFrontOfFeed far c start said
      × (events ≡ events_in said) × (refused ≡ refusals_in said)
  pub uncut : memory ≡ true → cut ≡ false
  pub proper : All (IsProper c) events
  pub named : All (λ r. r.fault ≢ NoMemory) refused
