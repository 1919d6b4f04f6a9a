-- What a run leaves.
use Rattle.std.specs.Prelude.{◌≡◌, ◌≢◌, ℕ, All, Bool, true, false, List, [], length, reverse, IfSome, Option}
use Rattle.due_model.specs.declared.config.Config.{Config}
use Rattle.due_model.specs.declared.event.Event.{Event}
use Rattle.due_model.specs.declared.notice.Suppression.{Suppression}
use Rattle.due_model.specs.declared.zone.Zone.{Zone}
use Rattle.due_model.specs.claims.Proper.{IsProper}
use Rattle.event_feed.specs.declared.fault.FeedFault.TheVariants as fault
use Rattle.event_feed.specs.declared.fault.RefusedLine.{RefusedLine}
use Rattle.engine.specs.claims.Due.{BeginsLogAfter, HaveCauses, IsLogAfter, LanesAreDue, LanesBeginDue, LanesKeepDue}
use Rattle.engine.specs.claims.Feed.{IsFrontRead, IsWhatWasRead, events_of}
use Rattle.engine.specs.claims.Lanes.{LaneParts}
use Rattle.engine.specs.claims.Lists.{IsFrontOf}

-- All that the engine promises of the lanes and the log of a run, of the events that it has taken, with channels for these lanes, where
-- of each object this was told before.
pub record IsRunAfter (c : Config) (zone : Zone) (given : ℕ → ℕ) (events : List Event) (memory : Bool)
    (lanes : List LaneParts) (told : (object : ℕ) → List Suppression) (lines : List Suppression) : Type 0 where
  -- of each lane and object all that was due, and of the log all that was suppressed
  pub due : memory ≡ false → LanesAreDue c zone (reverse events) lanes
  pub log : memory ≡ false → IsLogAfter c zone (reverse events) told lines
  -- where memory ran out, a front of that
  pub due_front : LanesBeginDue c zone (reverse events) lanes
  pub log_front : BeginsLogAfter c zone (reverse events) told lines
  -- a lane whose own memory sufficed has all that was decided
  pub others : LanesKeepDue c zone (reverse events) lanes
  -- where an event was accepted, every lane is there
  pub whole : events ≢ [] → length lanes ≡ length c.lanes
  -- a lane is closed for a cause
  pub causes : HaveCauses given memory lanes

-- The same, where nothing was told: the log is all that was suppressed.
abbrev pub IsRunOf : Config → Zone → (given : ℕ → ℕ) → (events : List Event) → (memory : Bool) → List LaneParts
    → (lines : List Suppression) → Type 0
IsRunOf c zone given events memory lanes lines = IsRunAfter c zone given events memory lanes (λ o. []) lines

-- All that it promises of what was read of a feed, of whose lines these are too far ahead, and whose bytes are known or not.
pub record IsReadOf (far : ℕ → Bool) (can_fail : Bool) (c : Config) (known : Option (List ℕ)) (memory : Bool)
    (events : List Event) (refused : List RefusedLine) (cut : Bool) : Type 0 where
  -- the events and the refused lines of the bytes
  pub read : IfSome known (λ bytes. memory ≡ false
      → IsWhatWasRead far can_fail c.objects bytes events refused cut)
  pub proper : All (IsProper c) events
  pub named : All (λ r. r.fault ≢ fault.NoMemory) refused
  -- where memory ran out, a front of that
  pub front : IfSome known (λ bytes. IsFrontOf events (events_of far c.objects bytes))
  pub read_front : IfSome known (λ bytes. memory ≡ true
      → IsFrontRead far c.objects bytes events refused)
  -- and the feed isn't said to be cut
  pub uncut : memory ≡ true → cut ≡ false
