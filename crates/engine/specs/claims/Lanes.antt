-- The lanes of a run: their channels, and how each ends.
use Rattle.std.specs.Prelude.{◌≡◌, ◌≢◌, ◌==◌, ℕ, ◌≤◌, Bool, true, List, [], ◌++◌, filter, length, map, slice_get, Some}
use Rattle.due_model.specs.declared.config.LaneId.{LaneId}
use Rattle.due_model.specs.declared.notice.Notice.{Notice}
use Rattle.due_model.specs.declared.config.Config.{Config}
use Rattle.channel.specs.claims.Channels.{Account, Offer}
use Rattle.delivery_worker.specs.claims.Channels.{HaveServed}
use Rattle.delivery_worker.specs.claims.Picked.{join_lists}
use Rattle.undelivered.specs.declared.Why.{Why}
use Rattle.undelivered.specs.declared.Why.TheVariants.{FeedOver, Failed, NoMemory, NoChannel}

-- ---- their channels

-- the channels of lane l: those of its posts, in the order of the posts
abbrev pub channels_on : {P X : Type 0} → (lane : P → ℕ) → (channel : P → X) → (l : ℕ) → List P → List X
channels_on lane channel l posts = map channel (filter (λ post. lane post == l) posts)

-- how many there are
abbrev pub count_of : {P : Type 0} → (lane : P → ℕ) → List P → (l : ℕ) → ℕ
count_of lane posts l = length (filter (λ post. lane post == l) posts)

-- ---- how a lane ends

-- a lane at the end of a run: how many channels it was given, what each that served has taken, in order, what was given up, and why it
-- is closed
pub record LaneParts : Type 0 where
  pub lane : LaneId
  pub channels : ℕ
  pub records : List (List Notice)
  pub undelivered : List Notice
  pub why : Why

-- what its channels have taken, in order
abbrev pub taken : LaneParts → List Notice
taken lane = join_lists lane.records

-- all that is held for it, in order
abbrev pub joined : LaneParts → List Notice
joined lane = taken lane ++ lane.undelivered

-- A lane's close has its cause. So many channels were given, and each that served has a record. Where the feed is over nothing is
-- undelivered; a lane that failed gave something up, and each of its channels has served and failed; a lane has no channel, and then
-- no record, exactly where none was given; and memory ran out only where the run says so.
pub record IsCause (given : ℕ) (memory : Bool) (lane : LaneParts) : Type 0 where
  pub channels : lane.channels ≡ given
  pub some : given ≢ 0 → lane.records ≢ []
  pub most : length lane.records ≤ given
  pub over : lane.why ≡ FeedOver → lane.undelivered ≡ []
  pub failed : lane.why ≡ Failed → lane.undelivered ≢ []
  pub each_failed : lane.why ≡ Failed → length lane.records ≡ given
  pub unposted : lane.why ≡ NoChannel → given ≡ 0
  pub no_channel : given ≡ 0 → lane.why ≡ NoChannel
  pub ran_out : lane.why ≡ NoMemory → memory ≡ true

-- The channels of a lane at the end, each in its place: each is the one that was given, has taken what its record says and nothing
-- else, was offered those letters and the next as often as that was tried, and was replaced only since the next had failed as often as
-- it may be tried.
abbrev pub HaveTaken : {C : Type 0} → (account : C → Account) → (offered : C → List Offer → C → Type 0) → (tries : ℕ) → Config → LaneParts
    → (old new : List C) → Type 0
HaveTaken account offered tries c lane old new =
    HaveServed account offered tries c lane.records (joined lane) (lane.why ≡ Failed) old new

-- the same of each lane
abbrev pub AreTold : {C V : Type 0} → (account : C → Account) → (offered : C → List Offer → C → Type 0) → (items : V → List C) → (tries : ℕ)
    → Config → (given : ℕ → List C) → (channels : List V) → List LaneParts → Type 0
AreTold {C} {V} account offered items tries c given channels lanes =
    (l : ℕ) (lane : LaneParts) (cs : V) → slice_get lanes l ≡ Some lane → slice_get channels l ≡ Some cs
    → HaveTaken account offered tries c lane (given l) (items cs)
