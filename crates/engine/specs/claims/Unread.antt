-- What a run leaves that didn't begin.
use Rattle.std.specs.Prelude.{◌≡◌, List, [], length, Bool, false, true}
use Rattle.due_model.specs.declared.config.Config.{Config}
use Rattle.due_model.specs.declared.event.Event.{Event}
use Rattle.due_model.specs.declared.notice.Suppression.{Suppression}
use Rattle.event_feed.specs.declared.fault.RefusedLine.{RefusedLine}
use Rattle.engine.specs.claims.Lanes.{LaneParts}

-- nothing is there, for want of memory or of a thread
abbrev pub IsUnread : (events : List Event) → (refused : List RefusedLine) → (log : List Suppression) → (lanes : List LaneParts)
    → (memory : Bool) → Type 0
IsUnread events refused log lanes memory =
    (events ≡ []) × (refused ≡ []) × (log ≡ []) × (lanes ≡ []) × (memory ≡ true)

-- Where a run began every lane is there; where it didn't, nothing was read.
pub record HasStarted (c : Config) (started : Bool) (events : List Event) (refused : List RefusedLine) (log : List Suppression)
    (lanes : List LaneParts) (memory : Bool) : Type 0 where
  pub all : started ≡ true → length lanes ≡ length c.lanes
  pub unread : started ≡ false → IsUnread events refused log lanes memory
