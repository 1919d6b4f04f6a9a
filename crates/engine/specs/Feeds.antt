-- What a run takes of callers' feeds.
use Rattle.std.specs.Prelude.{◌≡◌, ◌≤◌, ◌⊎◌, Bool, false, true, All, List, length, Option, None, Some, ⊤}
use Rattle.due_model.specs.declared.config.Config.{Config}
use Rattle.due_model.specs.declared.event.Event.{Event}
use Rattle.due_model.specs.claims.Limits.{max_events}
use Rattle.due_model.specs.claims.Proper.{IsProper}
use Rattle.caller_feeds.specs.declared.end.FeedEnd.{FeedEnd}
use Rattle.caller_feeds.specs.Feeds.{NothingWaits}
use Rattle.caller_feeds.specs.Taken.{AreOver, GoesOn, SomeAwaits}
use Rattle.engine.specs.declared.feeds.Feeds.{Feeds}

-- The feeds were left before their ends: as many events were taken as can be numbered, and a proper one waits; or nothing is left in
-- any of them, but not each has sent its end.
abbrev pub AreCut : Config → (ends : List FeedEnd) → (events : List Event) → Type 0
AreCut c ends events =
    (SomeAwaits c ends × (length events ≡ max_events)) ⊎ (All NothingWaits ends × (¬ AreOver ends))

-- the feeds go on, or each one's end was received, or they were cut
abbrev pub AreLeft : Config → (over : Option Bool) → (ends : List FeedEnd) → (events : List Event)
    → Type 0
AreLeft c None ends events = ⊤
AreLeft c (Some false) ends events = AreOver ends
AreLeft c (Some true) ends events = AreCut c ends events

-- what was taken of feeds so far, which go on or are over
pub record AreTaken (c : Config) (s : Feeds) : Type 0 where
  pub most : s.intake.most ≡ max_events
  pub within : length s.intake.events ≤ max_events
  pub proper : All (IsProper c) s.intake.events
  pub left : AreLeft c s.over s.intake.ends s.intake.events

-- what feeds become as events are taken of them
pub record FeedsGo (c : Config) (old new : Feeds) : Type 0 where
  pub intake : GoesOn c old.intake new.intake
  pub taken : AreTaken c old → AreTaken c new
