-- What a run is that was done.
use Rattle.std.specs.Prelude.{◌≡◌, ℕ, Bool, true, false, List, map, Option}
use Rattle.channel.specs.claims.Channels.{Account, Offer}
use Rattle.channel_words.specs.Lanes.{channels_for}
use Rattle.command_output.specs.declared.outcome.Ending.{Ending}
use Rattle.due_model.specs.declared.config.Choices.{Choices}
use Rattle.due_model.specs.declared.config.Config.{Config}
use Rattle.due_model.specs.declared.config.LaneId.{LaneId}
use Rattle.due_model.specs.declared.zone.Zone.{Zone}
use Rattle.engine.specs.declared.post.Post.{Post}
use Rattle.engine.specs.claims.Lanes.{AreTold, channels_on}
use Rattle.engine.specs.declared.run_end.RunEnd.{RunEnd}
use Rattle.engine.specs.claims.Feed.{NoneIsAhead, ahead_in}
use Rattle.engine.specs.claims.Run.{IsReadOf, IsRunAfter}
use Rattle.due_model.specs.declared.notice.Suppression.{Suppression}
use Rattle.run_command.specs.claims.Report.{WritesReport, ending_of}
use Rattle.run_command.specs.Report.{ends_text}
use Rattle.written.specs.claims.Written.{Writes}
use Rattle.run_devices.specs.Channels.{Opened, asked_from}
use Rattle.run_devices.specs.Fault.{AreRight}

-- The report of a run of the feed was written, with these channels, each on its lane; and lane by lane, what it tells is what the
-- channels that came back have taken.
abbrev pub WritesRun : {C V : Type 0} → (account : C → Account) → (offered : C → List Offer → C → Type 0) → (items : V → List C)
    → (can_fail is_open : Bool) → Config → Zone → (tries : ℕ) → (posts : List (Post C)) → (given_back : List V) → (known : Option (List ℕ))
    → Ending → (before after : Option (List ℕ)) → Type 0
WritesRun account offered items can_fail is_open c zone tries posts given_back known ending before after =
    WritesReport can_fail is_open c zone (channels_for (map (λ post. post.lane) posts))
    (AreTold account offered items tries c (λ l. channels_on (λ post. post.lane.0) (λ post. post.channel) l posts) given_back)
    known ending before after

-- The same of these channels, in the order of their lanes.
abbrev pub RunsWith : {C D V : Type 0} → (account : C → Account) → (offered : C → List Offer → C → Type 0) → (items : V → List C)
    → (channel_of : C → D) → (can_fail is_open : Bool) → Config → Zone → (tries : ℕ) → (lanes : List LaneId) → (channels : List D)
    → (given_back : List V) → (known : Option (List ℕ)) → Ending → (before after : Option (List ℕ)) → Type 0
RunsWith {C} account offered items channel_of can_fail is_open c zone tries lanes channels given_back known ending before after =
    (posts : List (Post C))
    × (map (λ post. post.lane) posts ≡ lanes)
    × (map (λ post. channel_of post.channel) posts ≡ channels)
    × WritesRun account offered items can_fail is_open c zone tries posts given_back known ending before after

-- All checks of the words of these texts went well: they name these lanes by an accepted configuration of these choices, and the channels are opened as
-- they ask for them, in their order.
pub record AreOpened (choices : Choices) (texts : List (List ℕ)) (config : Config) (lanes : List LaneId) (channels : List Opened) : Type 0 where
  pub right : AreRight choices texts config lanes
  pub each : channels ≡ asked_from 0 right.words

-- All checks of the words of these texts went well, their channels were opened, and the report of a run of the feed was written: by an
-- accepted configuration, each channel on the lane that its word names.
pub record IsDone {C V : Type 0} (account : C → Account) (offered : C → List Offer → C → Type 0) (items : V → List C)
    (opened : C → Opened) (choices : Choices) (texts : List (List ℕ)) (can_fail is_open : Bool) (zone : Zone) (tries : ℕ) (given_back : List V)
    (known : Option (List ℕ)) (ending : Ending) (before after : Option (List ℕ)) : Type 0 where
  pub config : Config
  pub lanes : List LaneId
  pub posts : List (Post C)
  pub posted : map (λ post. post.lane) posts ≡ lanes
  pub right : AreOpened choices texts config lanes (map (λ post. opened post.channel) posts)
  pub report : WritesRun account offered items can_fail is_open config zone tries posts given_back known ending before after

-- The ends of the lanes of a run of the feed were written, with these channels, and nothing else; and lane by lane, what the lanes took is what
-- the channels that came back have taken. Of each object the deciders told their logs what comes before the run's own log.
abbrev pub WritesLogged : {C V : Type 0} → (account : C → Account) → (offered : C → List Offer → C → Type 0) → (items : V → List C)
    → (can_fail is_open : Bool) → Config → Zone → (tries : ℕ) → (posts : List (Post C)) → (given_back : List V) → (known : Option (List ℕ))
    → Ending → (before after : Option (List ℕ)) → Type 0
WritesLogged account offered items can_fail is_open c zone tries posts given_back known ending before after =
    (end : RunEnd) × (told : (object : ℕ) → List Suppression)
    × IsRunAfter c zone (channels_for (map (λ post. post.lane) posts)) end.events.items end.memory end.lanes.items told end.log.items
    × IsReadOf (ahead_in end.refused.items) can_fail c known end.memory end.events.items end.refused.items end.cut
    × (is_open ≡ true → NoneIsAhead end.refused.items)
    × AreTold account offered items tries c (λ l. channels_on (λ post. post.lane.0) (λ post. post.channel) l posts) given_back end.lanes.items
    × (end.memory ≡ false) × (ending ≡ ending_of end)
    × Writes before after (ends_text c end.lanes.items)

-- The same of these channels, in the order of their lanes.
abbrev pub RunsLogged : {C D V : Type 0} → (account : C → Account) → (offered : C → List Offer → C → Type 0) → (items : V → List C)
    → (channel_of : C → D) → (can_fail is_open : Bool) → Config → Zone → (tries : ℕ) → (lanes : List LaneId) → (channels : List D)
    → (given_back : List V) → (known : Option (List ℕ)) → Ending → (before after : Option (List ℕ)) → Type 0
RunsLogged {C} account offered items channel_of can_fail is_open c zone tries lanes channels given_back known ending before after =
    (posts : List (Post C))
    × (map (λ post. post.lane) posts ≡ lanes)
    × (map (λ post. channel_of post.channel) posts ≡ channels)
    × WritesLogged account offered items can_fail is_open c zone tries posts given_back known ending before after

-- All checks of the words of these texts went well, their channels were opened, and a run of the feed was done: by an accepted configuration,
-- each channel on the lane that its word names.
pub record IsLogged {C V : Type 0} (account : C → Account) (offered : C → List Offer → C → Type 0) (items : V → List C)
    (opened : C → Opened) (choices : Choices) (texts : List (List ℕ)) (can_fail is_open : Bool) (zone : Zone) (tries : ℕ) (given_back : List V)
    (known : Option (List ℕ)) (ending : Ending) (before after : Option (List ℕ)) : Type 0 where
  pub config : Config
  pub lanes : List LaneId
  pub posts : List (Post C)
  pub posted : map (λ post. post.lane) posts ≡ lanes
  pub right : AreOpened choices texts config lanes (map (λ post. opened post.channel) posts)
  pub report : WritesLogged account offered items can_fail is_open config zone tries posts given_back known ending before after
