-- The lanes of a run: their channels, and how each ends.
use Rattle.std.specs.Prelude.{◌≡◌, ◌≢◌, ◌==◌, ℕ, List, [], ◌∷◌, ◌++◌, Some, if◌then◌else◌}
use Rattle.due_model.specs.declared.notice.Notice.{Notice}
use Rattle.delivery_worker.specs.declared.worker.Served.{Served}
use Rattle.undelivered.specs.Record.{Record}
use Rattle.undelivered.specs.declared.Why.TheVariants.{NoChannel}
use Rattle.engine.specs.claims.Lanes.{LaneParts, taken}

-- what each channel that served has taken, of so many: a lane that was given none has no record
abbrev pub records_of : (channels : ℕ) → Record → List (List Notice)
records_of channels held = if channels == 0 then [] else held.ended ++ held.taken ∷ []

-- Lane l ends as its worker says: what each of its channels has taken, what was given up, and why it was closed; a lane without a
-- channel for that, whatever came after.
pub record IsEndOf (l given : ℕ) (s : Served) (lane : LaneParts) : Type 0 where
  pub number : lane.lane.0 ≡ l
  pub channels : lane.channels ≡ given
  pub records : lane.records ≡ records_of given s.held
  pub undelivered : lane.undelivered ≡ s.held.undelivered
  pub unposted : s.held.why ≡ Some NoChannel → lane.why ≡ NoChannel
  pub why : s.held.why ≢ Some NoChannel → lane.why ≡ s.why
