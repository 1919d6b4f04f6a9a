use denote.Shadow.{shadow}
use denote.Text.{Utf8}
use Rattle.std.proofs.Common.{◌≡◌, ◌++◌, length, map}
use Rattle.channel_words.specs.Words.{words_in}
use Rattle.channel_words.proofs.word.words_in.Given as goal

-- the words so far, and those of what is left, are all
abbrev pub invariant-loop-word : goal.invariant-loop-word
invariant-loop-word l = record {
  text : shadow (Utf8 l.rest);
  words : map (λ word. word.now) l.words.items ++ words_in l.rest ≡ words_in l.line;
}

abbrev pub decreases-loop-word : goal.decreases-loop-word
decreases-loop-word l = length l.rest
