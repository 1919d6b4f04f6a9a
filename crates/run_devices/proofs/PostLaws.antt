-- The posts of channels, one on each lane in order.
use Rattle.command_output.specs.declared.outcome.CommandFault.TheVariants as memory
use Rattle.std.proofs.Common.{◌≡◌, ◌==◌, ◌<◌, ◌+◌, ℕ, suc, Bool, true, false, cond, ⊎_elim, filter, Option, List, [], ◌∷◌, ◌++◌, length, get_or, map, drop, take, refl, subst, ap, ap₂, sym, ◌∙◌, append_assoc, length-append, arith}
use Rattle.std.proofs.lemmas.List.{length-map, map-append, take_all, take_more}
use Rattle.std.proofs.lemmas.Bool.{cases_Bool}
use Rattle.channel_words.specs.Lanes.{channels_for}
use Rattle.command_output.specs.declared.outcome.Ending.{Ending}
use Rattle.due_model.specs.declared.config.Choices.{Choices}
use Rattle.due_model.specs.declared.config.Config.{Config}
use Rattle.due_model.specs.declared.config.LaneId.{LaneId}
use Rattle.due_model.specs.declared.zone.Zone.{Zone}
use Rattle.engine.specs.declared.run_end.RunEnd.{RunEnd}
use Rattle.engine.specs.claims.Lanes.{IsCause, LaneParts, count_of}
use Rattle.run_command.specs.claims.Report.{IsRun, WritesReport}
use Rattle.run_devices.specs.declared.fault.RunFault.{RunFault}
use Rattle.run_devices.specs.declared.fault.RunFault.TheVariants as faults
use Rattle.channel_words.specs.declared.word.ChannelWord.{ChannelWord}
use Rattle.channel_kinds.specs.declared.device.AnyDevice.{AnyDevice}
use Rattle.channel_kinds.specs.DeviceChannel.{Held}
use Rattle.run_devices.specs.Channels.{Opened, asked, asked_from, numbered_from, opened}
use Rattle.run_devices.specs.Done.{AreOpened}
use Rattle.run_devices.specs.Fault.{AreRight, IsCommandFault, RunFails}

module _ {X L : Type 0} (before rest whole : List X) (lanes : List L) (all : before ++ rest ≡ whole) (count : length whole ≡ length lanes) where
  parts : length before + length rest ≡ length lanes
  parts = sym (length-append before rest) ∙ ap length all ∙ count

  module _ (x : X) (after : List X) (is : rest ≡ x ∷ after) where
    -- the next channel has its lane
    pub within : length before < length lanes
    within =
        let one : length rest ≡ suc (length after) = ap length is in
        omega (arith, parts, one)

    -- what comes after it is the rest
    pub next_rest : (before ++ x ∷ []) ++ after ≡ whole
    next_rest = append_assoc before (x ∷ []) after ∙ ap (λ (r : List X). before ++ r) (sym is) ∙ all

    -- and it is posted on that
    pub posted_on : {P : Type 0} (lane_of : P → L) (posts new : List P) (p : P) (d : L) → new ≡ posts ++ p ∷ [] → lane_of p ≡ get_or lanes (length before) d
        → map lane_of posts ≡ take (length before) lanes → map lane_of new ≡ take (length (before ++ x ∷ [])) lanes
    posted_on lane_of posts new p d grown its so_far =
        ap (map lane_of) grown ∙ map-append lane_of posts (p ∷ []) ∙ ap₂ (λ (xs : List L) (y : L). xs ++ y ∷ []) so_far its
        ∙ sym (take_more lanes (length before) d within) ∙ ap (λ n. take n lanes) (sym (length-append before (x ∷ [])))

    pub longer : {P : Type 0} (posts new : List P) (p : P) → new ≡ posts ++ p ∷ [] → length posts ≡ length before → length new ≡ length (before ++ x ∷ [])
    longer posts new p grown same = ap length grown ∙ length-append posts (p ∷ []) ∙ ap (λ n. n + 1) same ∙ sym (length-append before (x ∷ []))

  -- where no channel is left each lane has one
  pub all_posted : {P : Type 0} (lane_of : P → L) (posts : List P) → rest ≡ [] → map lane_of posts ≡ take (length before) lanes → map lane_of posts ≡ lanes
  all_posted lane_of posts none so_far =
      let zero_left : length rest ≡ 0 = ap length none in
      so_far ∙ take_all (length before) lanes (omega (arith, parts, zero_left))

-- ---- the lanes that have one

-- a lane has as many posts as of these are on it
pub same_posted : {P : Type 0} (lane_of : P → LaneId) (posts : List P) (lanes : List LaneId) → map lane_of posts ≡ lanes → (l : ℕ) → count_of (λ post. (lane_of post).0) posts l ≡ channels_for lanes l
same_posted {P} lane_of posts lanes is l = by_post posts ∙ ap (λ (ls : List LaneId). channels_for ls l) is
  where
    by_post : (posts : List P) → count_of (λ post. (lane_of post).0) posts l ≡ channels_for (map lane_of posts) l
    by_post [] = refl
    by_post (post ∷ more) = ⊎_elim
        (λ (here : ((lane_of post).0 == l) ≡ true).
        ap (λ (b : Bool). length (cond b (post ∷ filter (λ p. (lane_of p).0 == l) more) (filter (λ p. (lane_of p).0 == l) more))) here
        ∙ ap (λ n. suc n) (by_post more)
        ∙ sym (ap (λ (b : Bool). length (cond b (lane_of post ∷ filter (λ lane. lane.0 == l) (map lane_of more)) (filter (λ lane. lane.0 == l) (map lane_of more)))) here))
        (λ (other : ((lane_of post).0 == l) ≡ false).
        ap (λ (b : Bool). length (cond b (post ∷ filter (λ p. (lane_of p).0 == l) more) (filter (λ p. (lane_of p).0 == l) more))) other
        ∙ by_post more
        ∙ sym (ap (λ (b : Bool). length (cond b (lane_of post ∷ filter (λ lane. lane.0 == l) (map lane_of more)) (filter (λ lane. lane.0 == l) (map lane_of more)))) other))
        (cases_Bool ((lane_of post).0 == l))

-- what is so of a run with so many channels for each lane is so of one with as many
run_posted : (can_fail is_open : Bool) (c : Config) (zone : Zone) (given same : ℕ → ℕ) (tie : List LaneParts → Type 0) (known : Option (List ℕ)) (end : RunEnd) → ((l : ℕ) → given l ≡ same l)
    → IsRun can_fail is_open c zone given tie known end → IsRun can_fail is_open c zone same tie known end
run_posted can_fail is_open c zone given same tie known end is (run, read, near, tied) = (
  record {
    due = run.due;
    log = run.log;
    due_front = run.due_front;
    log_front = run.log_front;
    others = run.others;
    whole = run.whole;
    causes = λ l lane at. subst (λ (n : ℕ). IsCause n end.memory lane) (is l) (run.causes l lane at);
  },
  read,
  near,
  tied,
)

pub report_posted : (can_fail is_open : Bool) (c : Config) (zone : Zone) (given same : ℕ → ℕ) (tie : List LaneParts → Type 0) (known before after : Option (List ℕ)) (ending : Ending) → ((l : ℕ) → given l ≡ same l)
    → WritesReport can_fail is_open c zone given tie known ending before after → WritesReport can_fail is_open c zone same tie known ending before after
report_posted can_fail is_open c zone given same tie known before after ending is wrote = (wrote.0, run_posted can_fail is_open c zone given same tie known wrote.0 is wrote.1, wrote.2, wrote.3, wrote.4)

-- ---- the words

-- the heads of lists, and what comes after them
same_head : {X : Type 0} {x y : X} {xs ys : List X} → x ∷ xs ≡ y ∷ ys → x ≡ y
same_head {X} {x} {y} {xs} {ys} e = ap (λ (l : List X). get_or l 0 x) e

same_tail : {X : Type 0} {x y : X} {xs ys : List X} → x ∷ xs ≡ y ∷ ys → xs ≡ ys
same_tail {X} e = ap (λ (l : List X). drop 1 l) e

-- channels that are opened as words ask for them, and then numbered
pub numbered_asked : {W S D R : Type 0} (number : ℕ) (channels : List (Held (AnyDevice W S D R))) (words : List ChannelWord) → map opened channels ≡ map (asked 0) words
    → map opened (numbered_from number channels) ≡ asked_from number words
numbered_asked number [] [] is = refl
numbered_asked number [] (w ∷ words) is = absurd (let n = ap length is in omega (arith, n))
numbered_asked number (h ∷ channels) [] is = absurd (let n = ap length is in omega (arith, n))
numbered_asked {W} {S} {D} {R} number (h ∷ channels) (w ∷ words) is =
    ap₂ (λ (o : Opened) (os : List Opened). record o { number = number } ∷ os) (same_head is) (numbered_asked (number + 1) channels words (same_tail is))

-- one more is numbered by its place
pub numbered_more : {D : Type 0} (number : ℕ) (channels : List (Held D)) (channel : Held D)
    → numbered_from number (channels ++ channel ∷ []) ≡ numbered_from number channels ++ record channel { number = number + length channels } ∷ []
numbered_more number [] channel = ap (λ (n : ℕ). record channel { number = n } ∷ []) (let e : number ≡ number + 0 = omega arith in e)
numbered_more {D} number (h ∷ channels) channel =
    ap (λ (more : List (Held D)). record h { number = number } ∷ more) (numbered_more (number + 1) channels channel
    ∙ ap (λ (n : ℕ). numbered_from (number + 1) channels ++ record channel { number = n } ∷ []) (let e : number + 1 + length channels ≡ number + suc (length channels) = omega arith in e))

-- the channels so far are numbered, and one more
pub numbers_more : {P D : Type 0} (channel_of : P → Held D) (posts new : List P) (p : P) (before : List (Held D)) (x : Held D) → new ≡ posts ++ p ∷ []
    → channel_of p ≡ record x { number = length before } → map channel_of posts ≡ numbered_from 0 before
    → map channel_of new ≡ numbered_from 0 (before ++ x ∷ [])
numbers_more {P} {D} channel_of posts new p before x grown its so_far =
    ap (map channel_of) grown ∙ map-append channel_of posts (p ∷ []) ∙ ap₂ (λ (xs : List (Held D)) (y : Held D). xs ++ y ∷ []) so_far (its ∙ ap (λ (n : ℕ). record x { number = n }) (let e : length before ≡ 0 + length before = omega arith in e))
    ∙ sym (numbered_more 0 before x)

-- what was opened is the same where it is told otherwise
pub opened_same : {choices : Choices} {texts : List (List ℕ)} {config : Config} {lanes : List LaneId} {xs ys : List Opened} → AreOpened choices texts config lanes xs → xs ≡ ys → AreOpened choices texts config lanes ys
opened_same {choices} {texts} {config} {lanes} right same = subst (λ (os : List Opened). AreOpened choices texts config lanes os) same right

-- lists that give the same are of one length
pub same_length : {X Y Z : Type 0} (f : X → Z) (g : Y → Z) (xs : List X) (ys : List Y) → map f xs ≡ map g ys → length xs ≡ length ys
same_length f g xs ys e = sym (length-map xs f) ∙ ap length e ∙ length-map ys g

-- each lane has a channel, where each word has one, and each name a lane
pub each_opened : {X Y Z L N K : Type 0} (kind : X → Z) (word_kind : Y → Z) (name : Y → N) (named : N → K) (lane_of : L → K) (channels : List X) (words : List Y) (lanes : List L)
    → map kind channels ≡ map word_kind words → map named (map name words) ≡ map lane_of lanes → length channels ≡ length lanes
each_opened kind word_kind name named lane_of channels words lanes kinds names =
    same_length kind word_kind channels words kinds ∙ sym (length-map words name) ∙ same_length named lane_of (map name words) lanes names

-- a fault of none of its channels, after all checks
pub fails_without_memory : (choices : Choices) (texts : List (List ℕ)) (config : Config) (lanes : List LaneId) → AreRight choices texts config lanes → RunFails texts (faults.Command memory.NoMemory)
fails_without_memory choices texts config lanes right = (right.words, right.read)

pub command_fails : (choices : Choices) (texts : List (List ℕ)) (fault : RunFault) (config : Config) (lanes : List LaneId) → AreRight choices texts config lanes → IsCommandFault fault → RunFails texts fault
command_fails choices texts (faults.Channel fault) config lanes right is = absurd is
command_fails choices texts (faults.Command fault) config lanes right is = (right.words, right.read)
