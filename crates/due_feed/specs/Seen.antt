-- What a feed makes due: all that each of its events makes due, in order.
use Rattle.std.specs.Prelude.{◌≡◌, ℕ, ◌==◌, Bool, false, List, [], ◌∷◌, ◌++◌, length, Option, None, Result, Ok, Err, if◌then◌else◌}
use Rattle.decider.specs.declared.share.Share.{Share}
use Rattle.due_model.specs.declared.config.Config.{Config}
use Rattle.due_model.specs.declared.event.Event.{Event}
use Rattle.due_model.specs.declared.notice.Notice.{Notice}
use Rattle.due_model.specs.declared.zone.Zone.{Zone}
use Rattle.due_model.specs.claims.Limits.{max_events}
use Rattle.event_feed.specs.declared.fault.FeedFault.{FeedFault}
use Rattle.event_feed.specs.claims.Feed.{Answer, AreGivenBy, Feed}
use Rattle.event_feed.specs.Feed.{feed_of}
use Rattle.messages.specs.claims.Entries.{event_entries}
use Rattle.messages.specs.Entries.{notices_in}

-- the share of the one decider: all objects
abbrev pub whole_share : Share
whole_share = record { decider = 0; deciders = 1 }

-- ---- by its events

-- the past after an answer of a feed, the newest event first
abbrev pub past_after : List Event → Result Event FeedFault → List Event
past_after past (Ok event) = event ∷ past
past_after past (Err fault) = past

-- an event after as many as can be numbered
abbrev pub is_ended : List Event → Result Event FeedFault → Bool
is_ended past (Ok event) = length past == max_events
is_ended past (Err fault) = false

-- the past after the answers of a feed, up to an event that can't be numbered
abbrev pub past_from : List Event → List Answer → List Event
past_from past [] = past
past_from past (answer ∷ answers) =
    if is_ended past answer.given then past else past_from (past_after past answer.given) answers

abbrev pub past_of : List Answer → List Event
past_of answers = past_from [] answers

-- what is due by these events, the newest first
abbrev pub due_of : Config → Zone → (past : List Event) → List Notice
due_of c zone [] = []
due_of c zone (event ∷ past) = due_of c zone past ++ notices_in (event_entries c zone event past)

-- ---- by whoever looks

-- a feed of which nothing is read
abbrev pub unread : (bytes : Option (List ℕ)) → Feed
unread bytes = feed_of (record { line = []; held = []; unread = bytes; calls = 0 }) 0 0 None

-- All that a feed makes due was seen, and so many events were decided.
pub record IsSeen {L : Type 0} (can_fail : Bool) (c : Config) (zone : Zone) (feed : Feed) (saw : L → List Notice → L → Type 0)
    (count : ℕ) (before after : L) : Type 0 where
  pub given : List Answer
  pub are : AreGivenBy can_fail c.objects feed given
  pub saw_all : saw before (due_of c zone (past_of given)) after
  pub count_is : count ≡ length (past_of given)

-- Of these notices some first were seen, and at the next it stopped.
pub record StopsAmong {L : Type 0} (saw : L → List Notice → L → Type 0) (stops : L → Notice → L → Type 0)
    (before : L) (notices : List Notice) (after : L) : Type 0 where
  pub first : List Notice
  pub at : Notice
  pub others : List Notice
  pub are : notices ≡ first ++ at ∷ others
  pub middle : L
  pub saw_first : saw before first middle
  pub stopped : stops middle at after

-- It stopped among what the feed makes due.
pub record IsStopped {L : Type 0} (can_fail : Bool) (c : Config) (zone : Zone) (feed : Feed) (saw : L → List Notice → L → Type 0)
    (stops : L → Notice → L → Type 0) (before after : L) : Type 0 where
  pub given : List Answer
  pub are : AreGivenBy can_fail c.objects feed given
  pub among : StopsAmong saw stops before (due_of c zone (past_of given)) after
