use Rattle.std.proofs.Common.{◌++◌, ◌∷◌, ap, arith, Bor, length, length-append, List, map, rules, Some, ℕ}
use Rattle.std.proofs.lemmas.Str.Pattern.{split_once_first}
use Rattle.channel_words.specs.Words.{words_in}
use Rattle.channel_words.proofs.ListLaws.{words_last, words_more}
use Rattle.channel_words.proofs.Parts.{first_parts, lacks_all}
use Rattle.channel_words.proofs.word.words_in.Goals as goal

pub loop-word-init : goal.loop-word-init
loop-word-init c = record {
  text = search rules;
  words = ap (λ (xs : List (Bor (List ℕ))). map (λ (word : Bor (List ℕ)). word.now) xs ++ words_in c.args.line.now) c.new-words.ensures.items;
}

pub loop-word-smaller : goal.loop-word-smaller
loop-word-smaller c =
    let parts = first_parts 32 c.loop-word.rest.now c.in-Some.word.now c.in-Some.after.now c.in-Some.ensures.cases (omega arith) in
    omega (arith, ap length parts.0, length-append c.in-Some.word.now (32 ∷ c.in-Some.after.now))

pub loop-word-preserved : goal.loop-word-preserved
loop-word-preserved c = record {
  text = search rules;
  words = words_more c.args.line.now c.loop-word.rest.now c.in-Some.word.now c.in-Some.after.now _ _
      (split_once_first 32 c.loop-word.rest.now (Some (c.in-Some.word, c.in-Some.after)) c.in-Some.ensures.cases (omega arith))
      c.in_ok-push_word.ensures c.loop-word.invariant.words;
}

pub returns : goal.returns
returns c =
    words_last c.args.line.now c.loop-word.rest.now _ _ (lacks_all 32 c.loop-word.rest.now c.in_default.ensures.cases (omega arith))
    c.in_ok-push_word-2.ensures c.loop-word.invariant.words
