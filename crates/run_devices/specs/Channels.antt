-- The channels that the words of a command line ask for.
use Rattle.std.specs.Prelude.{ℕ, ◌+◌, Bool, true, List, [], ◌∷◌, Contains, Option, None, Some, is_some, ⊤}
use Rattle.channel.specs.declared.Kind.{Kind}
use Rattle.channel.specs.declared.Kind.TheVariants as kinds
use Rattle.channel_kinds.specs.declared.device.AnyDevice.{AnyDevice}
use Rattle.channel_kinds.specs.declared.device.AnyDevice.TheVariants as device
use Rattle.channel_kinds.specs.DeviceChannel.{Held}
use Rattle.channel_words.specs.declared.fault.ChannelFault.{ChannelFault}
use Rattle.channel_words.specs.declared.fault.ChannelFault.TheVariants as fault
use Rattle.channel_words.specs.declared.word.ChannelWord.{ChannelWord}
use Rattle.channel_words.specs.declared.word.Device.{Device}
use Rattle.channel_words.specs.declared.word.Device.TheVariants.{Mailbox, Pager, Command}
use Rattle.channel_words.specs.Words.{words_in}
use Rattle.channel.specs.declared.Receipt.{Receipt}

-- the kind of channel that a device is
abbrev pub device_kind : Device → Kind
device_kind (Mailbox path) = kinds.Mailbox
device_kind (Pager address) = kinds.Pager
device_kind (Command line) = kinds.Spawned

-- the program that a device is to start, and its arguments; none where it is of another kind
abbrev pub asked_words : Device → List (List ℕ)
asked_words (Mailbox path) = []
asked_words (Pager address) = []
asked_words (Command line) = words_in line.now

-- the program that an opened device starts, and its arguments
abbrev pub program_words : {W S D R : Type 0} → AnyDevice W S D R → List (List ℕ)
program_words (device.Mailbox mailbox) = []
program_words (device.Pager pager) = []
program_words (device.Spawned started) = started.program ∷ started.arguments

-- the same where there may be no device
abbrev pub opened_words : {W S D R : Type 0} → Option (AnyDevice W S D R) → List (List ℕ)
opened_words None = []
opened_words (Some device) = program_words device

-- a channel as it was opened: its number, whether it has a device, the kind of that, its program's words, what it has taken, and how
-- often it failed
pub record Opened : Type 0 where
  pub number : ℕ
  pub is_open : Bool
  pub kind : Kind
  pub words : List (List ℕ)
  pub taken : List Receipt
  pub failures : ℕ

abbrev pub opened : {W S D R : Type 0} → Held (AnyDevice W S D R) → Opened
opened channel = record {
  number = channel.number;
  is_open = is_some channel.device;
  kind = channel.kind;
  words = opened_words channel.device;
  taken = channel.kept.taken;
  failures = channel.kept.failures;
}

-- as a device is asked for, with this number: it has taken nothing, and didn't fail
abbrev pub asked_of : (number : ℕ) → Device → Opened
asked_of number device = record {
  number = number;
  is_open = true;
  kind = device_kind device;
  words = asked_words device;
  taken = [];
  failures = 0;
}

-- as a word asks for it
abbrev pub asked : (number : ℕ) → ChannelWord → Opened
asked number word = asked_of number word.device

-- as words ask for them, numbered by their places from this one
abbrev pub asked_from : (number : ℕ) → List ChannelWord → List Opened
asked_from number [] = []
asked_from number (word ∷ words) = asked number word ∷ asked_from (number + 1) words

-- these channels, numbered by their places from this one
abbrev pub numbered_from : {D : Type 0} → (number : ℕ) → List (Held D) → List (Held D)
numbered_from number [] = []
numbered_from number (channel ∷ channels) = record channel { number = number } ∷ numbered_from (number + 1) channels

-- one of these channels isn't opened, or memory ran out
abbrev pub IsOpeningFault : (names : List (List ℕ)) → ChannelFault → Type 0
IsOpeningFault names (fault.BadChannel word) = ⊥
IsOpeningFault names (fault.NoCommand name) = ⊥
IsOpeningFault names (fault.Doubled name) = ⊥
IsOpeningFault names (fault.NotOpened name) = Contains names name.now
IsOpeningFault names fault.NoMemory = ⊤
