-- Of a run that goes on: lane by lane, what its channels have handed on.
use Rattle.std.proofs.Common.{◌≡◌, ◌==◌, ◌<◌, ◌+◌, ℕ, Bool, true, List, [], ◌∷◌, filter, get_or, length, map, Option, Some, refl, sym, ◌∙◌, subst, arith}
use Rattle.std.specs.Prelude.{All, slice_get}
use Rattle.std.proofs.lemmas.List.Elements.{All-cons, All-filter, All-head, All-map, All-nil, All-tail, filter_passes}
use Rattle.std.proofs.lemmas.Option.{slice_get-get_or}
use Rattle.channel.specs.claims.Channels.{Account, Offer}
use Rattle.channel_kinds.specs.declared.device.AnyDevice.{AnyDevice}
use Rattle.channel_kinds.specs.DeviceChannel.{Held}
use Rattle.channel_words.specs.declared.word.ChannelWord.{ChannelWord}
use Rattle.command_output.specs.declared.outcome.Ending.{Ending}
use Rattle.due_model.specs.declared.config.Config.{Config}
use Rattle.due_model.specs.declared.zone.Zone.{Zone}
use Rattle.engine.specs.declared.post.Post.{Post}
use Rattle.engine.specs.claims.Lanes.{AreTold, HaveTaken, LaneParts, channels_on}
use Rattle.journaled.specs.Wrapped.{Wrapped}
use Rattle.run_devices.specs.Channels.{Opened, asked, numbered_from, opened}
use Rattle.run_devices.specs.Done.{WritesLogged, WritesRun}
use Rattle.earlier_runs.specs.declared.left.LaneState.{LaneState}
use Rattle.earlier_runs.specs.State.{past_in}
use Rattle.journal_file.specs.Text.{Text}
use Rattle.written.specs.claims.Written.{Writes}
use Rattle.run_resumed.specs.JournalLines.{HasLines}
use Rattle.run_resumed.specs.Resumed.{AddsLines, HasHandedOn, HaveHandedOn, IsFresh, IsResumedPost, WritesResumedEnds, WritesResumedRun}

-- ---- what was opened has taken nothing

All-from_map : {X Y : Type 0} (P : Y → Type 0) (f : X → Y) (xs : List X) → All P (map f xs) → All (λ x. P (f x)) xs
All-from_map P f [] h = All-nil (λ x. P (f x))
All-from_map P f (x ∷ xs) h = All-cons (λ y. P (f y)) x xs (All-head P (f x) (map f xs) h) (All-from_map P f xs (All-tail P (f x) (map f xs) h))

each_asked : (words : List ChannelWord) → All (λ (o : Opened). o.taken ≡ []) (map (asked 0) words)
each_asked [] = All-nil (λ (o : Opened). o.taken ≡ [])
each_asked (word ∷ words) = All-cons (λ (o : Opened). o.taken ≡ []) (asked 0 word) (map (asked 0) words) refl (each_asked words)

pub opened_unused : {W S D R : Type 0} (channels : List (Held (AnyDevice W S D R))) (words : List ChannelWord) → map opened channels ≡ map (asked 0) words
    → All (λ channel. channel.kept.taken ≡ []) channels
opened_unused channels words is =
    All-from_map (λ (o : Opened). o.taken ≡ []) opened channels (subst (λ (os : List Opened). All (λ (o : Opened). o.taken ≡ []) os) (sym is) (each_asked words))

numbered_unused : {D : Type 0} (number : ℕ) (channels : List (Held D)) → All (λ channel. channel.kept.taken ≡ []) channels
    → All (λ channel. channel.kept.taken ≡ []) (numbered_from number channels)
numbered_unused {D} number [] h = All-nil (λ (channel : Held D). channel.kept.taken ≡ [])
numbered_unused {D} number (channel ∷ channels) h =
    All-cons (λ (x : Held D). x.kept.taken ≡ []) (record channel { number = number }) (numbered_from (number + 1) channels)
    (All-head (λ (x : Held D). x.kept.taken ≡ []) channel channels h)
    (numbered_unused (number + 1) channels (All-tail (λ (x : Held D). x.kept.taken ≡ []) channel channels h))

-- the same of what is over it
pub posts_unused : {P D : Type 0} (of : P → Held D) (posts : List P) (channels : List (Held D)) → map of posts ≡ numbered_from 0 channels
    → All (λ channel. channel.kept.taken ≡ []) channels → All (λ post. (of post).kept.taken ≡ []) posts
posts_unused {P} {D} of posts channels is h =
    All-from_map (λ (x : Held D). x.kept.taken ≡ []) of posts
    (subst (λ (xs : List (Held D)). All (λ (x : Held D). x.kept.taken ≡ []) xs) (sym is) (numbered_unused 0 channels h))

-- each post's channel, of posts that are over their journals, and whose channels below have taken nothing
pub all_fresh : {C W : Type 0} (account : C → Account) (c : Config) (states : List LaneState) (posts : List (Post (Wrapped C (Text W)))) → All (IsResumedPost c states) posts
    → All (λ post. (account post.channel.inner).taken ≡ []) posts → All (λ post. IsFresh account states post.lane.0 post.channel) posts
all_fresh account c states posts each unused = λ k d within.
    let is = each k d within in
    record { state = is.state; at = is.at; past = is.past; taken = is.taken; inner = unused k d within }

-- the lines of the journals, under other names
pub adds_lines : {C J V : Type 0} (items : V → List (Wrapped C J)) (c c' : Config) (states states' : List LaneState) (back back' : List V) (middle after : Option (List ℕ)) → c' ≡ c
    → states' ≡ states → back' ≡ back → ((text : List ℕ) × HasLines c' states' (map items back') 256 text × Writes middle after text) → AddsLines items c states back middle after
adds_lines {C} {J} {V} items c c' states states' back back' middle after e f g h = record {
  journals = h.0;
  lines = subst (λ (x : Config). HasLines x states (map items back) 256 h.0) e
      (subst (λ (x : List LaneState). HasLines c' x (map items back) 256 h.0) f
      (subst (λ (x : List V). HasLines c' states' (map items x) 256 h.0) g h.1));
  wrote = h.2;
}

-- ---- lane by lane

module _ {C J V : Type 0} (inner : C → Account) (account : Wrapped C J → Account) (offered : Wrapped C J → List Offer → Wrapped C J → Type 0)
    (items : V → List (Wrapped C J)) (states : List LaneState) where
  same_lane : (lane l : ℕ) → (lane == l) ≡ true → lane ≡ l
  same_lane lane l h = grind (arith, h)

  fresh_on : (l : ℕ) (posts : List (Post (Wrapped C J))) → All (λ post. IsFresh inner states post.lane.0 post.channel) posts
      → All (IsFresh inner states l) (channels_on (λ post. post.lane.0) (λ post. post.channel) l posts)
  fresh_on l posts each =
      let on : List (Post (Wrapped C J)) = filter (λ post. post.lane.0 == l) posts in
      let fresh : All (λ (post : Post (Wrapped C J)). IsFresh inner states post.lane.0 post.channel) on =
      All-filter (λ (post : Post (Wrapped C J)). post.lane.0 == l) (λ post. IsFresh inner states post.lane.0 post.channel) posts each in
      All-map (IsFresh inner states l) (λ (post : Post (Wrapped C J)). post.channel) on
      (λ k d within. subst (λ (n : ℕ). IsFresh inner states n (get_or on k d).channel)
      (same_lane (get_or on k d).lane.0 l (filter_passes (λ (post : Post (Wrapped C J)). post.lane.0 == l) posts k d within))
      (fresh k d within))

  module _ (handed : (a b : Wrapped C J) (offers : List Offer) → offered a offers b → a.kept.taken ≡ [] → (inner a.inner).taken ≡ []
      → HasHandedOn inner b × (b.past ≡ a.past)) where
    one_handed : (tries : ℕ) (c : Config) (l : ℕ) (lane : LaneParts) (old new : List (Wrapped C J)) → HaveTaken account offered tries c lane old new
        → All (IsFresh inner states l) old → (k : ℕ) (d : Wrapped C J) → k < length new
        → HasHandedOn inner (get_or new k d) × ((state : LaneState) × (slice_get states l ≡ Some state) × ((get_or new k d).past ≡ past_in state))
    one_handed tries c l lane old new served fresh k d within =
        let count : length new ≡ length old = served.count in
        let before : k < length old = omega (arith, within, count) in
        let f : IsFresh inner states l (get_or old k d) = fresh k d before in
        let one = served.each k (get_or old k d) (get_or new k d) (slice_get-get_or old k d before) (slice_get-get_or new k d within) in
        let h = handed (get_or old k d) (get_or new k d) one.letters.0 one.letters.2 f.taken f.inner in
        (h.0, (f.state, f.at, h.1 ∙ f.past))

    pub have_handed_on : (tries : ℕ) (c : Config) (posts : List (Post (Wrapped C J))) (given_back : List V) (lanes : List LaneParts)
        → All (λ post. IsFresh inner states post.lane.0 post.channel) posts
        → AreTold account offered items tries c (λ l. channels_on (λ post. post.lane.0) (λ post. post.channel) l posts) given_back lanes
        → HaveHandedOn inner items states given_back lanes
    have_handed_on tries c posts given_back lanes fresh told = λ l lane cs at back.
        let each = one_handed tries c l lane (channels_on (λ post. post.lane.0) (λ post. post.channel) l posts) (items cs) (told l lane cs at back) (fresh_on l posts fresh) in
        (λ k d within. (each k d within).0, λ k d within. (each k d within).1)

    -- what is so of a run with such channels
    pub resumed_run : (can_fail is_open : Bool) (c : Config) (zone : Zone) (tries : ℕ) (posts : List (Post (Wrapped C J))) (given_back : List V) (known before after : Option (List ℕ)) (ending : Ending)
        → All (λ post. IsFresh inner states post.lane.0 post.channel) posts
        → WritesRun account offered items can_fail is_open c zone tries posts given_back known ending before after
        → WritesResumedRun inner account offered items can_fail is_open c zone tries states posts given_back known ending before after
    resumed_run can_fail is_open c zone tries posts given_back known before after ending fresh (end, (run, read, near, tied), memory, ended, wrote) =
        (end, (run, read, near, (tied, have_handed_on tries c posts given_back end.lanes.items fresh tied)), memory, ended, wrote)

    -- the same where the configuration has another name
    pub resumed_run_by : (can_fail is_open : Bool) (c c' : Config) (zone : Zone) (tries : ℕ) (posts : List (Post (Wrapped C J))) (given_back : List V) (known before after : Option (List ℕ)) (ending : Ending)
        → c' ≡ c → All (λ post. IsFresh inner states post.lane.0 post.channel) posts
        → WritesRun account offered items can_fail is_open c' zone tries posts given_back known ending before after
        → WritesResumedRun inner account offered items can_fail is_open c zone tries states posts given_back known ending before after
    resumed_run_by can_fail is_open c c' zone tries posts given_back known before after ending same fresh run =
        resumed_run can_fail is_open c zone tries posts given_back known before after ending fresh
        (subst (λ (x : Config). WritesRun account offered items can_fail is_open x zone tries posts given_back known ending before after) same run)

    -- and of one with a log
    pub resumed_ends : (can_fail is_open : Bool) (c : Config) (zone : Zone) (tries : ℕ) (posts : List (Post (Wrapped C J))) (given_back : List V) (known before after : Option (List ℕ)) (ending : Ending)
        → All (λ post. IsFresh inner states post.lane.0 post.channel) posts
        → WritesLogged account offered items can_fail is_open c zone tries posts given_back known ending before after
        → WritesResumedEnds inner account offered items can_fail is_open c zone tries states posts given_back known ending before after
    resumed_ends can_fail is_open c zone tries posts given_back known before after ending fresh (end, told, run, read, near, tied, memory, ended, wrote) =
        (end, told, run, read, near, tied, have_handed_on tries c posts given_back end.lanes.items fresh tied, memory, ended, wrote)
