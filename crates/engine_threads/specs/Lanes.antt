-- What a worker's thread gives back.
use Rattle.std.specs.Prelude.{◌≡◌, ◌≢◌, ◌↔◌, ℕ, ◌+◌, ◌<◌, List, [], length, Some, IsSome}
use mathlib.Core.List.{IsPrefix}
use Rattle.due_model.specs.Items.{notices}
use Rattle.channel_queue.specs.declared.LaneQueue.{LaneQueue}
use Rattle.channel_queue.specs.Passes.{IsWorker}
use Rattle.channel_queue.specs.Rule.{picked_of}
use Rattle.delivery_worker.specs.declared.worker.Served.{Served}
use Rattle.channel.specs.claims.Channels.{Account, Offer}
use Rattle.delivery_worker.specs.claims.Channels.{HaveServed}
use Rattle.delivery_worker.specs.Channels.{records_in}
use Rattle.delivery_worker.specs.Picked.{AllEnded, joined}
use Rattle.due_model.specs.declared.config.Config.{Config}
use Rattle.undelivered.specs.Record.{Record}
use Rattle.undelivered.specs.declared.Why.{Why}
use Rattle.undelivered.specs.declared.Why.TheVariants as why

-- A lane that had so many channels was closed for a cause, as this record and what the worker says of it tell. There is one record for
-- each channel that served, and a lane that failed had no channel left.
pub record HasCause (channels : ℕ) (held : Record) (told : Why) : Type 0 where
  pub closed : IsSome held.why
  pub cause : told ≢ why.NoMemory → held.why ≡ Some told
  pub over : held.why ≡ Some why.FeedOver → held.undelivered ≡ []
  pub failed : held.why ≡ Some why.Failed → held.undelivered ≢ []
  pub each_failed : held.why ≡ Some why.Failed → length held.ended + 1 ≡ channels
  pub no_channel : (held.why ≡ Some why.NoChannel) ↔ (channels ≡ 0)
  pub untaken : channels ≡ 0 → held.taken ≡ []
  pub records : channels ≢ 0 → length held.ended < channels
  pub no_records : channels ≡ 0 → held.ended ≡ []

-- A lane was served to its end, by so many channels at most.
pub record IsServed (q : LaneQueue) (channels : ℕ) (s : Served) : Type 0 where
  pub worker : IsWorker q (picked_of s.pass) [] s.pass
  pub ended : AllEnded q.deciders (picked_of s.pass)
  -- what was taken and then what was given up is what was picked, in order; where memory ran out, a first part of it
  pub order : s.why ≢ why.NoMemory → joined s.held ≡ notices (picked_of s.pass)
  pub front : IsPrefix (joined s.held) (notices (picked_of s.pass))
  pub cause : HasCause channels s.held s.why

-- The channels of a lane that was served, before and after: each has taken what its record says, and failed where it was replaced.
abbrev pub HaveTaken : {C : Type 0} → (account : C → Account) → (offered : C → List Offer → C → Type 0) → (tries : ℕ) → Config → Served
    → (old new : List C) → Type 0
HaveTaken account offered tries c s old new =
    HaveServed account offered tries c (records_in s.held) (joined s.held) (s.held.why ≡ Some why.Failed) old new
