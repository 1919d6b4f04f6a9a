-- What a run that goes on fails with, and what it begins with.
use Rattle.std.proofs.Common.{◌≡◌, ◌∙◌, ℕ, ◌+◌, List, [], ◌∷◌, length, get_or, map, drop, refl, sym, ap, ap₂, subst, arith}
use Rattle.std.proofs.lemmas.List.{length-map}
use Rattle.due_model.specs.declared.config.Choices.{Choices}
use Rattle.due_model.specs.declared.config.Config.{Config}
use Rattle.due_model.specs.declared.config.LaneId.{LaneId}
use Rattle.channel_words.specs.declared.word.ChannelWord.{ChannelWord}
use Rattle.channel_words.specs.Lanes.{AreLanesOf, names_of}
use Rattle.channel_words.specs.Words.{AreRead}
use Rattle.command_output.specs.declared.outcome.CommandFault.{CommandFault}
use Rattle.due_model.specs.claims.Accepted.{IsAccepted}
use Rattle.channel_kinds.specs.declared.device.AnyDevice.{AnyDevice}
use Rattle.channel_kinds.specs.DeviceChannel.{Held}
use Rattle.run_devices.specs.Channels.{Opened, asked, asked_from, numbered_from, opened}
use Rattle.run_devices.specs.Done.{AreOpened}
use Rattle.run_devices.specs.Fault.{AreRight}
use Rattle.run_devices.specs.declared.fault.RunFault.TheVariants as faults
use Rattle.run_resumed.specs.declared.fault.ResumeFault.{ResumeFault}
use Rattle.run_resumed.specs.declared.fault.ResumeFault.TheVariants as resumes
use Rattle.run_resumed.specs.Fault.{IsNoChannelFault, ResumeFails}

-- ---- its faults

-- a fault of none of its channels, after all checks of the words
pub right_fails : (choices : Choices) (texts : List (List ℕ)) (fault : ResumeFault) (config : Config) (lanes : List LaneId) → AreRight choices texts config lanes → IsNoChannelFault fault → ResumeFails texts fault
right_fails choices texts (resumes.Run (faults.Channel fault)) config lanes right is = absurd is
right_fails choices texts (resumes.Run (faults.Command fault)) config lanes right is = (right.words, right.read)
right_fails choices texts resumes.State config lanes right is = (choices, config, lanes, right)

-- a fault of any command, after them
pub command_fails : (choices : Choices) (texts : List (List ℕ)) (fault : CommandFault) (config : Config) (lanes : List LaneId) → AreRight choices texts config lanes
    → ResumeFails texts (resumes.Run (faults.Command fault))
command_fails choices texts fault config lanes right = (right.words, right.read)

-- what was right, by what was found one after another
pub are_right : (choices : Choices) (texts : List (List ℕ)) (words words' : List ChannelWord) (config : Config) (lanes : List LaneId) → AreRead texts words → IsAccepted config
    → config.choices ≡ choices → words' ≡ words → AreLanesOf config (names_of words') lanes → AreRight choices texts config lanes
are_right choices texts words words' config lanes read accepted by same lanes_are = record {
  words = words;
  read = read;
  accepted = accepted;
  by = by;
  lanes_are = subst (λ (ws : List ChannelWord). AreLanesOf config (names_of ws) lanes) same lanes_are;
}

-- and its channels were opened, as these words ask for them
pub are_opened : (choices : Choices) (texts : List (List ℕ)) (words words' : List ChannelWord) (config : Config) (lanes : List LaneId) (channels : List Opened) → AreRead texts words → IsAccepted config
    → config.choices ≡ choices → words' ≡ words → AreLanesOf config (names_of words') lanes → channels ≡ asked_from 0 words → AreOpened choices texts config lanes channels
are_opened choices texts words words' config lanes channels read accepted by same lanes_are is = record {
  right = record {
    words = words;
    read = read;
    accepted = accepted;
    by = by;
    lanes_are = subst (λ (ws : List ChannelWord). AreLanesOf config (names_of ws) lanes) same lanes_are;
  };
  each = is;
}

-- ---- its channels

-- the heads of lists, and what comes after them
same_head : {X : Type 0} {x y : X} {xs ys : List X} → x ∷ xs ≡ y ∷ ys → x ≡ y
same_head {X} {x} {y} {xs} {ys} e = ap (λ (l : List X). get_or l 0 x) e

same_tail : {X : Type 0} {x y : X} {xs ys : List X} → x ∷ xs ≡ y ∷ ys → xs ≡ ys
same_tail {X} e = ap (λ (l : List X). drop 1 l) e

-- channels that are opened as words ask for them, and then numbered
pub numbered_asked : {W S D R : Type 0} (number : ℕ) (channels : List (Held (AnyDevice W S D R))) (words : List ChannelWord) → map opened channels ≡ map (asked 0) words
    → map opened (numbered_from number channels) ≡ asked_from number words
numbered_asked number [] [] is = refl
numbered_asked number [] (w ∷ words) is = absurd (let n = ap length is in omega (arith, n))
numbered_asked number (h ∷ channels) [] is = absurd (let n = ap length is in omega (arith, n))
numbered_asked {W} {S} {D} {R} number (h ∷ channels) (w ∷ words) is =
    ap₂ (λ (o : Opened) (os : List Opened). record o { number = number } ∷ os) (same_head is) (numbered_asked (number + 1) channels words (same_tail is))

-- what was opened is the same where it is told otherwise
pub opened_same : {choices : Choices} {texts : List (List ℕ)} {config : Config} {lanes : List LaneId} {xs ys : List Opened} → AreOpened choices texts config lanes xs → xs ≡ ys → AreOpened choices texts config lanes ys
opened_same {choices} {texts} {config} {lanes} right same = subst (λ (os : List Opened). AreOpened choices texts config lanes os) same right

-- and by a configuration that is the same
pub opened_by : {choices : Choices} {texts : List (List ℕ)} {config config' : Config} {lanes : List LaneId} {xs : List Opened} → AreOpened choices texts config lanes xs → config' ≡ config
    → AreOpened choices texts config' lanes xs
opened_by {choices} {texts} {config} {config'} {lanes} {xs} right same = subst (λ (c : Config). AreOpened choices texts c lanes xs) (sym same) right

-- lists that give the same are of one length
same_length : {X Y Z : Type 0} (f : X → Z) (g : Y → Z) (xs : List X) (ys : List Y) → map f xs ≡ map g ys → length xs ≡ length ys
same_length f g xs ys e = sym (length-map xs f) ∙ ap length e ∙ length-map ys g

-- each lane has a channel, where each word has one, and each name a lane
pub each_opened : {X Y Z L N K : Type 0} (kind : X → Z) (word_kind : Y → Z) (name : Y → N) (named : N → K) (lane_of : L → K) (channels : List X) (words : List Y) (lanes : List L)
    → map kind channels ≡ map word_kind words → map named (map name words) ≡ map lane_of lanes → length channels ≡ length lanes
each_opened kind word_kind name named lane_of channels words lanes kinds names =
    same_length kind word_kind channels words kinds ∙ sym (length-map words name) ∙ same_length named lane_of (map name words) lanes names
