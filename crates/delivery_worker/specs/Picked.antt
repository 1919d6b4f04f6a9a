-- What a worker has picked, beside what it keeps of it.
use Rattle.std.specs.Prelude.{◌≡◌, ℕ, ◌<◌, ◌⊎◌, Bool, true, false, List, [], ◌∷◌, ◌++◌, map, slice_index_or, None}
use Rattle.std.specs.Option.{option_to_list}
use Rattle.due_model.specs.declared.item.Item.{Item}
use Rattle.due_model.specs.declared.notice.Notice.{Notice}
use Rattle.channel.specs.claims.Channels.{receipt_of}
use Rattle.channel.specs.declared.Receipt.{Receipt}
use Rattle.channel_queue.specs.Rule.{ended}
use Rattle.undelivered.specs.Record.{Record}
use Rattle.undelivered.specs.declared.Why.{Why}
use Rattle.undelivered.specs.declared.Why.TheVariants.{NoMemory}
use Rattle.delivery_worker.specs.claims.Picked.{join_lists}

-- entry d says whether the end of decider d was picked
abbrev pub AreEnds : (picked : List Item) → (ends : List Bool) → Type 0
AreEnds picked ends = (d : ℕ) → d < 8 → slice_index_or ends d false ≡ ended d picked

-- the end of each decider was picked
abbrev pub AllEnded : (deciders : ℕ) → (picked : List Item) → Type 0
AllEnded deciders picked = (d : ℕ) → d < deciders → ended d picked ≡ true

-- what all its channels have taken
abbrev pub all_taken : Record → List Notice
all_taken lane = join_lists lane.ended ++ lane.taken

-- what its channels have taken, and then the notice in hand
abbrev pub held : Record → List Notice
held lane = all_taken lane ++ option_to_list lane.hand

-- what its channels have taken, and then what was given up
abbrev pub joined : Record → List Notice
joined lane = all_taken lane ++ lane.undelivered

-- a lane that serves: nothing was given up, and it is open
pub record IsServing (lane : Record) : Type 0 where
  pub nothing : lane.undelivered ≡ []
  pub serving : lane.why ≡ None

-- the record with which a channel begins: that of the channel before has ended, as it stands, unless this is the first
abbrev pub next_record : (first : Bool) → Record → Record
next_record true lane = lane
next_record false lane = record lane { ended = lane.ended ++ lane.taken ∷ []; taken = [] }

-- The channel had the next record, which is what it has taken after what it had before, and `made` says what it was offered; or memory
-- ran out before, and neither changed.
abbrev pub HasOwnRecord : (first : Bool) → Why → (old new : Record) → (before after : List Receipt) → (failed_old failed_new : ℕ)
    → (made unoffered : Type 0) → Type 0
HasOwnRecord first why old new before after failed_old failed_new made unoffered =
    ((new.ended ≡ (next_record first old).ended) × (after ≡ before ++ map receipt_of new.taken) × made)
    ⊎ ((why ≡ NoMemory) × (new ≡ old) × (after ≡ before) × (failed_new ≡ failed_old) × unoffered)
