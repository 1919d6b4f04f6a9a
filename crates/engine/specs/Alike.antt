-- What runs of the same events have in common.
use Rattle.std.specs.Prelude.{◌≡◌, ℕ, List, length, slice_get, Some}
use Rattle.due_model.specs.declared.config.Config.{Config}
use Rattle.due_model.specs.declared.event.Event.{Event}
use Rattle.due_model.specs.declared.notice.Suppression.{Suppression}
use Rattle.due_model.specs.declared.zone.Zone.{Zone}
use Rattle.due_model.specs.claims.Accepted.{IsAccepted}
use Rattle.steps.specs.claims.Lanes.{about}
use Rattle.engine.specs.claims.Due.{LanesAreDue}
use Rattle.engine.specs.Due.{IsLog}
use Rattle.engine.specs.claims.Lanes.{LaneParts, joined}

-- There are as many lanes, and of each object each lane has the same notices, in the same order, taken or given up.
pub record AreAlike (lanes others : List LaneParts) : Type 0 where
  pub count : length lanes ≡ length others
  pub each : (l : ℕ) (a b : LaneParts) → slice_get lanes l ≡ Some a → slice_get others l ≡ Some b
      → (o : ℕ) → about o (joined a) ≡ about o (joined b)

-- Two runs of the same events in which memory didn't run out leave lanes that are alike, and the same log: so neither the number of
-- deciders nor the schedule makes a difference there.
abbrev pub RunsAreAlike : Type 0
RunsAreAlike =
    (c : Config) (zone : Zone) (past : List Event) (lanes others : List LaneParts)
    (log other : List Suppression) → IsAccepted c
    → LanesAreDue c zone past lanes → LanesAreDue c zone past others
    → IsLog c zone past log → IsLog c zone past other
    → AreAlike lanes others × (log ≡ other)
