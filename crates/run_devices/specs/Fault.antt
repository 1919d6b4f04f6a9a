-- What a run is given up for, and how the program then ends.
use Rattle.std.specs.Prelude.{◌≡◌, ℕ, ◌⊎◌, Bool, List, Option, Result, Ok, Err}
use Rattle.channel_words.specs.declared.fault.ChannelFault.{ChannelFault}
use Rattle.channel_words.specs.declared.word.ChannelWord.{ChannelWord}
use Rattle.channel_words.specs.Fault.{fault_status as channel_status}
use Rattle.channel_words.specs.Lanes.{AreLanesOf, NamesFail, names_of}
use Rattle.channel_words.specs.Words.{AreRead, ShapeFails}
use Rattle.command_input.specs.Objects.{FileFails, IsFileOf}
use Rattle.command_output.specs.declared.outcome.Ending.{Ending}
use Rattle.command_output.specs.Outcome.{ending_status, fault_status}
use Rattle.due_model.specs.declared.config.Choices.{Choices}
use Rattle.due_model.specs.declared.config.Config.{Config}
use Rattle.due_model.specs.declared.config.LaneId.{LaneId}
use Rattle.due_model.specs.claims.Accepted.{IsAccepted}
use Rattle.run_devices.specs.declared.fault.RunFault.{RunFault}
use Rattle.run_devices.specs.declared.fault.RunFault.TheVariants.{Channel, Command}
use Rattle.run_devices.specs.Channels.{IsOpeningFault}

-- ---- what it is given up for

-- it is none of its channels
abbrev pub IsCommandFault : RunFault → Type 0
IsCommandFault (Channel fault) = ⊥
IsCommandFault (Command fault) = Unit {0}

-- Where the shape of all words is right: the names of the words, by an accepted configuration, or, where these are right too,
-- a channel that isn't opened.
abbrev pub NamesOrOpeningFail : (words : List ChannelWord) → ChannelFault → Type 0
NamesOrOpeningFail words fault =
    (config : Config) × IsAccepted config
    × (NamesFail config (names_of words) fault
    ⊎ ((lanes : List LaneId) × AreLanesOf config (names_of words) lanes
    × IsOpeningFault (names_of words) fault))

-- What is wrong with the object text, or by it with the names of words, where its bytes are known.
abbrev pub ChecksFail : Choices → (can_fail : Bool) → (known : Option (List ℕ)) → (names : List (List ℕ))
    → RunFault → Type 0
ChecksFail choices can_fail known names (Channel fault) =
    (config : Config) × IsAccepted config × IsFileOf choices config known × NamesFail config names fault
ChecksFail choices can_fail known names (Command fault) = FileFails choices can_fail fault known

-- the configuration of the text, where its bytes are known, and the lanes of the names
pub record AreChecked (choices : Choices) (known : Option (List ℕ)) (names : List (List ℕ)) (config : Config)
    (lanes : List LaneId) : Type 0 where
  pub accepted : IsAccepted config
  pub by : config.choices ≡ choices
  pub text : IsFileOf choices config known
  pub lanes_are : AreLanesOf config names lanes

-- What was right before the channels were opened: the shape of the texts of all words and, by this accepted configuration,
-- which has these choices, their names, which are of these lanes.
pub record AreRight (choices : Choices) (texts : List (List ℕ)) (config : Config) (lanes : List LaneId) : Type 0 where
  pub words : List ChannelWord
  pub read : AreRead texts words
  pub accepted : IsAccepted config
  pub by : config.choices ≡ choices
  pub lanes_are : AreLanesOf config (names_of words) lanes

-- First the shape of the texts of all words; the rest is only looked at where that is right.
abbrev pub RunFails : (texts : List (List ℕ)) → RunFault → Type 0
RunFails texts (Channel fault) =
    ShapeFails texts fault
    ⊎ ((words : List ChannelWord) × AreRead texts words × NamesOrOpeningFail words fault)
RunFails texts (Command fault) = (words : List ChannelWord) × AreRead texts words

-- ---- the exit status

-- that of the fault that it was
abbrev pub run_fault_status : RunFault → ℕ
run_fault_status (Channel fault) = channel_status fault
run_fault_status (Command fault) = fault_status fault

-- that of a run
abbrev pub run_status : Result Ending RunFault → ℕ
run_status (Ok ending) = ending_status ending
run_status (Err fault) = run_fault_status fault
