use Rattle.std.proofs.Common.{◌≡◌, map, take}
use Rattle.run_devices.specs.Channels.{asked, opened}
use Rattle.run_devices.proofs.channels.open_channels.Given as goal

-- the channels so far are as the first words ask for them
abbrev pub invariant-loop-word : goal.invariant-loop-word
invariant-loop-word l =
    map opened l.channels.items ≡ map (asked 0) (take l.word-index l.words)
