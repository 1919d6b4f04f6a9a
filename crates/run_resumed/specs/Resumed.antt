-- What a run is that goes on.
use Rattle.std.specs.Prelude.{◌≡◌, ℕ, All, Bool, true, false, List, [], Option, length, map, slice_get, Some}
use Rattle.channel.specs.claims.Channels.{Account, Offer, receipt_of}
use Rattle.channel.specs.Channels.{WasOffered}
use Rattle.channel.specs.declared.Receipt.{Receipt}
use Rattle.channel_words.specs.Lanes.{channels_for}
use Rattle.command_output.specs.declared.outcome.Ending.{Ending}
use Rattle.due_feed.specs.Seen.{due_of, past_of}
use Rattle.due_model.specs.declared.config.Choices.{Choices}
use Rattle.due_model.specs.declared.config.Config.{Config}
use Rattle.due_model.specs.declared.config.LaneId.{LaneId}
use Rattle.due_model.specs.declared.notice.Notice.{Notice}
use Rattle.due_model.specs.declared.notice.Suppression.{Suppression}
use Rattle.due_model.specs.declared.zone.Zone.{Zone}
use Rattle.engine.specs.declared.post.Post.{Post}
use Rattle.engine.specs.declared.run_end.RunEnd.{RunEnd}
use Rattle.engine.specs.claims.Feed.{NoneIsAhead, ahead_in}
use Rattle.engine.specs.claims.Lanes.{AreTold, LaneParts, channels_on}
use Rattle.engine.specs.claims.Run.{IsReadOf, IsRunAfter}
use Rattle.event_feed.specs.claims.Feed.{Answer}
use Rattle.journaled.specs.Claims.{IsHeld, new_of, settled_of}
use Rattle.journaled.specs.Wrapped.{Wrapped}
use Rattle.journal_file.specs.Text.{Text}
use Rattle.run_command.specs.claims.Report.{WritesReport, ending_of}
use Rattle.run_command.specs.Report.{ends_text}
use Rattle.run_devices.specs.Channels.{Opened}
use Rattle.run_devices.specs.Done.{AreOpened}
use Rattle.written.specs.claims.Written.{Writes}
use Rattle.earlier_runs.specs.Compared.{IsSame}
use Rattle.earlier_runs.specs.declared.left.LaneState.{LaneState}
use Rattle.earlier_runs.specs.FromNow.{GivesUpAll}
use Rattle.earlier_runs.specs.State.{AreLeft, past_in}
use Rattle.journal_folder.specs.declared.lane_past.LanePast.{LanePast}
use Rattle.journal_text.specs.declared.entry.Entry.{Entry}
use Rattle.run_resumed.specs.JournalLines.{HasLines}

-- ---- its channels

-- The channel of a post goes by what earlier runs left of its lane, writes to a journal of that lane, which is whole, and has taken
-- nothing yet.
pub record IsResumed {C W : Type 0} (c : Config) (states : List LaneState) (lane : LaneId) (channel : Wrapped C (Text W)) : Type 0 where
  pub state : LaneState
  pub at : slice_get states lane.0 ≡ Some state
  pub past : channel.past ≡ past_in state
  pub lane_is : channel.journal.lane ≡ lane
  pub config : channel.journal.config ≡ c
  pub whole : channel.journal.is_broken ≡ false
  pub taken : channel.kept.taken ≡ []
  pub failures : channel.kept.failures ≡ 0

abbrev pub IsResumedPost : {C W : Type 0} → Config → List LaneState → Post (Wrapped C (Text W)) → Type 0
IsResumedPost c states post = IsResumed c states post.lane post.channel

-- A channel of lane l as it was given: it goes by what earlier runs left of the lane, and neither it nor the one below has taken anything.
pub record IsFresh {C J : Type 0} (account : C → Account) (states : List LaneState) (l : ℕ) (channel : Wrapped C J) : Type 0 where
  pub state : LaneState
  pub at : slice_get states l ≡ Some state
  pub past : channel.past ≡ past_in state
  pub taken : channel.kept.taken ≡ []
  pub inner : (account channel.inner).taken ≡ []

abbrev pub AreFresh : {C J : Type 0} → (account : C → Account) → List LaneState → List (Post (Wrapped C J)) → Type 0
AreFresh account states posts = All (λ post. IsFresh account states post.lane.0 post.channel) posts

-- what is offered to a channel is told by it
abbrev pub TellsOffers : {C : Type 0} → (account : C → Account) → (offered : C → List Offer → C → Type 0) → Type 0
TellsOffers {C} account offered = (a : C) (offers : List Offer) (b : C) → offered a offers b → WasOffered (account a) offers (account b)

-- ---- what they took

abbrev pub notices_of : List Receipt → List Notice
notices_of receipts = map (λ receipt. receipt.notice) receipts

-- Of what a channel has taken its inner channel has taken just what no earlier run settled, in the same order; all else is held.
pub record HasHandedOn {C J : Type 0} (account : C → Account) (channel : Wrapped C J) : Type 0 where
  pub new : (account channel.inner).taken ≡ map receipt_of (new_of channel.past (notices_of channel.kept.taken))
  pub held : All (IsHeld channel.past) (settled_of channel.past (notices_of channel.kept.taken))

-- Each lane's channels went by what earlier runs left of it, and have handed on just what is new by that.
abbrev pub HaveHandedOn : {C J V : Type 0} → (account : C → Account) → (items : V → List (Wrapped C J)) → List LaneState → (given_back : List V)
    → List LaneParts → Type 0
HaveHandedOn {C} {J} {V} account items states given_back lanes =
    (l : ℕ) (lane : LaneParts) (cs : V) → slice_get lanes l ≡ Some lane → slice_get given_back l ≡ Some cs
    → All (HasHandedOn account) (items cs)
    × All (λ channel. (state : LaneState) × (slice_get states l ≡ Some state) × (channel.past ≡ past_in state)) (items cs)

-- ---- the run

-- The report of a run of the feed was written, with these channels, as of any run; and lane by lane, of what it tells as taken the inner
-- channels have taken just what no earlier run settled.
abbrev pub WritesResumedRun : {C J V : Type 0} → (inner : C → Account) → (account : Wrapped C J → Account)
    → (offered : Wrapped C J → List Offer → Wrapped C J → Type 0) → (items : V → List (Wrapped C J)) → (can_fail is_open : Bool) → Config → Zone
    → (tries : ℕ) → List LaneState → (posts : List (Post (Wrapped C J))) → (given_back : List V) → (known : Option (List ℕ)) → Ending
    → (before after : Option (List ℕ)) → Type 0
WritesResumedRun inner account offered items can_fail is_open c zone tries states posts given_back known ending before after =
    WritesReport can_fail is_open c zone (channels_for (map (λ post. post.lane) posts))
    (λ lanes. AreTold account offered items tries c (λ l. channels_on (λ post. post.lane.0) (λ post. post.channel) l posts) given_back lanes
    × HaveHandedOn inner items states given_back lanes)
    known ending before after

-- The ends of the lanes of a run with a log were written, with these channels, as of any run with a log; and lane by lane, of what the lanes
-- took the inner channels have taken just what no earlier run settled.
abbrev pub WritesResumedEnds : {C J V : Type 0} → (inner : C → Account) → (account : Wrapped C J → Account)
    → (offered : Wrapped C J → List Offer → Wrapped C J → Type 0) → (items : V → List (Wrapped C J)) → (can_fail is_open : Bool) → Config → Zone
    → (tries : ℕ) → List LaneState → (posts : List (Post (Wrapped C J))) → (given_back : List V) → (known : Option (List ℕ)) → Ending
    → (before after : Option (List ℕ)) → Type 0
WritesResumedEnds inner account offered items can_fail is_open c zone tries states posts given_back known ending before after =
    (end : RunEnd) × (told : (object : ℕ) → List Suppression)
    × IsRunAfter c zone (channels_for (map (λ post. post.lane) posts)) end.events.items end.memory end.lanes.items told end.log.items
    × IsReadOf (ahead_in end.refused.items) can_fail c known end.memory end.events.items end.refused.items end.cut
    × (is_open ≡ true → NoneIsAhead end.refused.items)
    × AreTold account offered items tries c (λ l. channels_on (λ post. post.lane.0) (λ post. post.channel) l posts) given_back end.lanes.items
    × HaveHandedOn inner items states given_back end.lanes.items
    × (end.memory ≡ false) × (ending ≡ ending_of end)
    × Writes before after (ends_text c end.lanes.items)

-- After what a run has written the line of each lane's journals was written.
pub record AddsLines {C J V : Type 0} (items : V → List (Wrapped C J)) (c : Config) (states : List LaneState) (given_back : List V)
    (middle after : Option (List ℕ)) : Type 0 where
  pub journals : List ℕ
  pub lines : HasLines c states (map items given_back) 256 journals
  pub wrote : Writes middle after journals

-- the report of such a run, and the lines of its journals after it
pub record WritesRunAndLines {C J V : Type 0} (inner : C → Account) (account : Wrapped C J → Account)
    (offered : Wrapped C J → List Offer → Wrapped C J → Type 0) (items : V → List (Wrapped C J)) (can_fail is_open : Bool) (c : Config) (zone : Zone)
    (tries : ℕ) (states : List LaneState) (posts : List (Post (Wrapped C J))) (given_back : List V) (known : Option (List ℕ)) (ending : Ending)
    (before after : Option (List ℕ)) : Type 0 where
  pub middle : Option (List ℕ)
  pub report : WritesResumedRun inner account offered items can_fail is_open c zone tries states posts given_back known ending before middle
  pub lines : AddsLines items c states given_back middle after

-- the same of a run with a log
pub record WritesEndsAndLines {C J V : Type 0} (inner : C → Account) (account : Wrapped C J → Account)
    (offered : Wrapped C J → List Offer → Wrapped C J → Type 0) (items : V → List (Wrapped C J)) (can_fail is_open : Bool) (c : Config) (zone : Zone)
    (tries : ℕ) (states : List LaneState) (posts : List (Post (Wrapped C J))) (given_back : List V) (known : Option (List ℕ)) (ending : Ending)
    (before after : Option (List ℕ)) : Type 0 where
  pub middle : Option (List ℕ)
  pub ends : WritesResumedEnds inner account offered items can_fail is_open c zone tries states posts given_back known ending before middle
  pub lines : AddsLines items c states given_back middle after

-- These channels, in the order of their lanes, each over its journal.
pub record ArePosted {C D W : Type 0} (channel_of : C → D) (c : Config) (states : List LaneState) (lanes : List LaneId) (channels : List D)
    (posts : List (Post (Wrapped C (Text W)))) : Type 0 where
  pub posted : map (λ post. post.lane) posts ≡ lanes
  pub channels_are : map (λ post. channel_of post.channel.inner) posts ≡ channels
  pub each : All (IsResumedPost c states) posts

-- a run with such channels, and the lines of its journals after it
abbrev pub ResumesWith : {C D W V : Type 0} → (inner : C → Account) → (account : Wrapped C (Text W) → Account)
    → (offered : Wrapped C (Text W) → List Offer → Wrapped C (Text W) → Type 0) → (items : V → List (Wrapped C (Text W))) → (channel_of : C → D)
    → (can_fail is_open : Bool) → Config → Zone → (tries : ℕ) → List LaneState → List LaneId → (channels : List D)
    → (given_back : List V) → (known : Option (List ℕ)) → Ending → (before after : Option (List ℕ)) → Type 0
ResumesWith {C} {D} {W} inner account offered items channel_of can_fail is_open c zone tries states lanes channels given_back known ending before after =
    (posts : List (Post (Wrapped C (Text W)))) × ArePosted channel_of c states lanes channels posts
    × WritesRunAndLines inner account offered items can_fail is_open c zone tries states posts given_back known ending before after

-- the same of a run with a log
abbrev pub LogsWith : {C D W V : Type 0} → (inner : C → Account) → (account : Wrapped C (Text W) → Account)
    → (offered : Wrapped C (Text W) → List Offer → Wrapped C (Text W) → Type 0) → (items : V → List (Wrapped C (Text W))) → (channel_of : C → D)
    → (can_fail is_open : Bool) → Config → Zone → (tries : ℕ) → List LaneState → List LaneId → (channels : List D)
    → (given_back : List V) → (known : Option (List ℕ)) → Ending → (before after : Option (List ℕ)) → Type 0
LogsWith {C} {D} {W} inner account offered items channel_of can_fail is_open c zone tries states lanes channels given_back known ending before after =
    (posts : List (Post (Wrapped C (Text W)))) × ArePosted channel_of c states lanes channels posts
    × WritesEndsAndLines inner account offered items can_fail is_open c zone tries states posts given_back known ending before after

-- What the feed made due by the events that were counted was given up in the journals of the lanes, as far as it wasn't sent.
pub record IsGivenUpSoFar {F J : Type 0} (knows : F → Config → LaneId → LanePast → Type 0) (begins : F → Config → LaneId → ℕ → J → Type 0)
    (replaced : F → Config → LaneId → Type 0) (wrote : J → List Entry → J → Type 0) (journals : F) (c : Config) (zone : Zone) : Type 0 where
  pub counted : List Answer
  pub due : List Answer
  pub all : GivesUpAll knows begins replaced wrote journals c (length (past_of counted)) (due_of c zone (past_of due))

-- These states are what the journals say of the lanes, one of each; where a run goes on from now, once all was given up that was due so far.
pub record AreKept {F J : Type 0} (says : F → Config → LaneId → LanePast → Type 0) (goes_on : F → Config → LaneId → J → Type 0)
    (knows : F → Config → LaneId → LanePast → Type 0) (begins : F → Config → LaneId → ℕ → J → Type 0) (replaced : F → Config → LaneId → Type 0)
    (wrote : J → List Entry → J → Type 0) (drops from_now : Bool) (c : Config) (zone : Zone) (states : List LaneState) : Type 0 where
  pub journals : F
  pub left : AreLeft says goes_on wrote journals c drops states
  pub given_up : from_now ≡ true → IsGivenUpSoFar knows begins replaced wrote journals c zone

-- All checks of the words of these texts went well, by an accepted configuration of these choices; each channel is one that was opened as its word asks,
-- over a journal of its lane; the states are what the journals say; and what the feed's file made due when it was read is what was sent.
pub record AreReady {C W : Type 0} (opened : C → Opened) (are_kept : Config → List LaneState → Type 0) (choices : Choices) (texts : List (List ℕ)) (zone : Zone)
    (config : Config) (states : List LaneState) (posts : List (Post (Wrapped C (Text W)))) : Type 0 where
  pub lanes : List LaneId
  pub posted : map (λ post. post.lane) posts ≡ lanes
  pub right : AreOpened choices texts config lanes (map (λ post. opened post.channel.inner) posts)
  pub each : All (IsResumedPost config states) posts
  pub kept : are_kept config states
  pub due : List Answer
  pub same : IsSame states (length (past_of due)) (due_of config zone (past_of due))

-- All that was so before the feed was read; the report of the run was written, and after it the line of each lane's journals.
pub record IsGoneOn {C W V : Type 0} (inner : C → Account) (account : Wrapped C (Text W) → Account)
    (offered : Wrapped C (Text W) → List Offer → Wrapped C (Text W) → Type 0) (items : V → List (Wrapped C (Text W))) (opened : C → Opened)
    (are_kept : Config → List LaneState → Type 0) (choices : Choices) (texts : List (List ℕ)) (can_fail is_open : Bool) (zone : Zone) (tries : ℕ) (given_back : List V) (known : Option (List ℕ))
    (ending : Ending) (before after : Option (List ℕ)) : Type 0 where
  pub config : Config
  pub states : List LaneState
  pub posts : List (Post (Wrapped C (Text W)))
  pub ready : AreReady opened are_kept choices texts zone config states posts
  pub middle : Option (List ℕ)
  pub report : WritesResumedRun inner account offered items can_fail is_open config zone tries states posts given_back known ending before middle
  pub lines : AddsLines items config states given_back middle after

-- the same of a run with a log
pub record IsLoggedOn {C W V : Type 0} (inner : C → Account) (account : Wrapped C (Text W) → Account)
    (offered : Wrapped C (Text W) → List Offer → Wrapped C (Text W) → Type 0) (items : V → List (Wrapped C (Text W))) (opened : C → Opened)
    (are_kept : Config → List LaneState → Type 0) (choices : Choices) (texts : List (List ℕ)) (can_fail is_open : Bool) (zone : Zone) (tries : ℕ) (given_back : List V) (known : Option (List ℕ))
    (ending : Ending) (before after : Option (List ℕ)) : Type 0 where
  pub config : Config
  pub states : List LaneState
  pub posts : List (Post (Wrapped C (Text W)))
  pub ready : AreReady opened are_kept choices texts zone config states posts
  pub middle : Option (List ℕ)
  pub ends : WritesResumedEnds inner account offered items can_fail is_open config zone tries states posts given_back known ending before middle
  pub lines : AddsLines items config states given_back middle after
