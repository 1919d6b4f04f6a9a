use Rattle.std.proofs.Common.{map, take}
use Rattle.channel_words.specs.Words.{AreRead}
use Rattle.channel_words.proofs.words.read_words.Given as goal

-- what was read are the words of the first texts
abbrev pub invariant-loop-text : goal.invariant-loop-text
invariant-loop-text l = AreRead (map (λ text. text.now) (take l.text-index l.texts)) l.words.items
