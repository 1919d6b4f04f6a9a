use Rattle.std.proofs.Common.{◌≡◌, drop, map}
use Rattle.choice_words.specs.Words.{chosen}
use Rattle.choice_words.proofs.words.chosen.Given as goal

-- What the words that are left make of the choices so far is what all make.
abbrev pub invariant-loop-word : goal.invariant-loop-word
invariant-loop-word l = chosen l.so_far (map (λ word. word.now) (drop l.word-index l.words)) ≡ chosen l.fn.choices (map (λ word. word.now) l.words)
