-- What a program says of a fault of the channels on standard error, and its exit status.
use Rattle.std.specs.Prelude.{ℕ, List, ◌++◌, codes}
use Rattle.channel_words.specs.declared.fault.ChannelFault.{ChannelFault}
use Rattle.channel_words.specs.declared.fault.ChannelFault.TheVariants.{BadChannel, NoCommand, Doubled, NotOpened, NoMemory}

abbrev pub fault_text : ChannelFault → List ℕ
fault_text (BadChannel word) = codes "usage: bad channel " ++ word.now
fault_text (NoCommand name) = codes "usage: no command " ++ name.now
fault_text (Doubled name) = codes "usage: doubled channel " ++ name.now
fault_text (NotOpened name) = codes "channel: " ++ name.now ++ codes ": not opened"
fault_text NoMemory = codes "memory"

abbrev pub fault_status : ChannelFault → ℕ
fault_status (BadChannel word) = 2
fault_status (NoCommand name) = 2
fault_status (Doubled name) = 2
fault_status (NotOpened name) = 1
fault_status NoMemory = 4
