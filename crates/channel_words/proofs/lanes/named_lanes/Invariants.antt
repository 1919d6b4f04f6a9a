use Rattle.std.proofs.Common.{map, take}
use Rattle.channel_words.proofs.LaneLaws.{NamedSoFar, name_of}
use Rattle.channel_words.proofs.lanes.named_lanes.Given as goal

abbrev pub invariant-loop-word : goal.invariant-loop-word
invariant-loop-word l = NamedSoFar l.config (map name_of (take l.word-index l.words)) l.lanes.items
