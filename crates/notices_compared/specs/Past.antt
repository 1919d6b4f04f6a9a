-- The past of a feed, and how it ends: as a report of the feed has it.
use Rattle.std.specs.Prelude.{ℕ, Bool, false, ◌||◌, ◌==◌, List, [], ◌∷◌, length, Result, Ok, Err}
use Rattle.due_model.specs.declared.config.Config.{Config}
use Rattle.due_model.specs.declared.event.Event.{Event}
use Rattle.due_model.specs.claims.Limits.{max_events}
use Rattle.event_feed.specs.declared.fault.FeedFault.{FeedFault}
use Rattle.event_feed.specs.claims.Feed.{Answer, AreGiven, answers, ends_feed}
use Rattle.text_lines.specs.claims.Lines.{pieces}
use Rattle.decider.specs.declared.share.Share.{Share}

-- the share of a decider that decides alone: all objects
abbrev pub whole_share : Share
whole_share = record { decider = 0; deciders = 1 }

-- the past after a line of the feed, the newest event first
abbrev pub past_after : List Event → Result Event FeedFault → List Event
past_after past (Ok e) = e ∷ past
past_after past (Err fault) = past

-- an event after as many as can be numbered
abbrev pub is_ended : List Event → Result Event FeedFault → Bool
is_ended past (Ok e) = length past == max_events
is_ended past (Err fault) = false

-- whether a report of these answers ends before the input
abbrev pub ends_short : List Event → List Answer → Bool
ends_short past [] = false
ends_short past (answer ∷ answers) =
    is_ended past answer.given || ends_feed answer.given
    || ends_short (past_after past answer.given) answers

-- the answers are those of a feed from its first line on
abbrev pub AreOfFeed : (can_fail : Bool) → Config → List ℕ → List Answer → Type 0
AreOfFeed can_fail config feed given =
    AreGiven can_fail given (answers config.objects 0 0 (pieces feed)) 0 (pieces feed)
