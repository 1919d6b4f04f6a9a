-- What becomes of the channels of a lane: what each has taken is its record, and one is replaced only once a letter has failed.
use Rattle.std.specs.Prelude.{◌≡◌, ℕ, ◌+◌, ◌<◌, ◌≤◌, ◌⊎◌, true, List, [], ◌++◌, Option, Some, length, map, slice_get, slice_index_or, take}
use Rattle.due_model.specs.declared.config.Config.{Config}
use Rattle.due_model.specs.declared.notice.Notice.{Notice}
use Rattle.channel.specs.claims.Channels.{Account, Offer, receipt_of}
use Rattle.delivery_worker.specs.claims.Attempts.{HasFailed}
use Rattle.delivery_worker.specs.claims.Offers.{AreOffers}
use Rattle.delivery_worker.specs.claims.Picked.{join_lists}

-- the record of channel i; one that didn't serve has taken nothing
abbrev pub record_at : ℕ → List (List Notice) → List Notice
record_at i records = slice_index_or records i []

-- of all that a lane holds, what comes after the records up to that of channel i
abbrev pub next_after : ℕ → List (List Notice) → (all : List Notice) → Option Notice
next_after i records all = slice_get all (length (join_lists (take (i + 1) records)))

-- channel i has failed: it was replaced, or was the last that served, where the last has failed
abbrev pub HasBeenLeft : ℕ → List (List Notice) → (last_failed : Type 0) → Type 0
HasBeenLeft i records last_failed = (i + 1 < length records) ⊎ ((i + 1 ≡ length records) × last_failed)

-- Channel i of a lane, before and after: it is the same channel, it has taken what its record says and nothing else, it was left only
-- since the next letter had failed as often as it may be tried, and one that served is closed. One without a record wasn't tried. What it
-- was offered are the letters of its record, each until it was taken, and then the next as often as it was tried.
pub record HasServed (tries : ℕ) (c : Config) (records : List (List Notice)) (all : List Notice) (last_failed : Type 0) (i : ℕ)
    (offered : List Offer → Type 0) (old new : Account)
    : Type 0
  where
    pub number : new.number ≡ old.number
    pub limit : new.limit ≡ old.limit
    pub taken : new.taken ≡ old.taken ++ map receipt_of (record_at i records)
    pub failed : HasBeenLeft i records last_failed
        → HasFailed tries c old.limit old.failures new.failures (next_after i records all)
    pub untried : length records ≤ i → new.failures ≡ old.failures
    pub closed : i < length records → new.closed ≡ true
    pub letters : (offers : List Offer)
        × AreOffers tries c (record_at i records) (next_after i records all) (HasBeenLeft i records last_failed) offers
        × offered offers

-- all channels of a lane, each in its place
pub record HaveServed {C : Type 0} (account : C → Account) (offered : C → List Offer → C → Type 0) (tries : ℕ) (c : Config)
    (records : List (List Notice)) (all : List Notice) (last_failed : Type 0) (old new : List C)
    : Type 0
  where
    pub count : length new ≡ length old
    pub each : (i : ℕ) (a b : C) → slice_get old i ≡ Some a → slice_get new i ≡ Some b
        → HasServed tries c records all last_failed i (λ offers. offered a offers b) (account a) (account b)
