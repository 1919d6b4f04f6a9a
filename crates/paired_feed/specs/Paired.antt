-- A feed that is read once for two configurations.
use Rattle.std.specs.Prelude.{◌≡◌, ℕ, ◌<◌, Bool, true, false, List, [], ◌∷◌, Option, None, Some, IfSome, Result, Err, is_some}
use Rattle.due_model.specs.declared.config.Config.{Config}
use Rattle.due_model.specs.declared.config.Object.{Object}
use Rattle.due_model.specs.declared.event.Event.{Event}
use Rattle.event_feed.specs.declared.fault.FeedFault.{FeedFault}
use Rattle.event_feed.specs.declared.fault.FeedFault.TheVariants.{LineTooLong}
use Rattle.event_feed.specs.declared.fault.RefusedLine.{RefusedLine}
use Rattle.event_feed.specs.claims.Feed.{Answer, AreGivenBy, Feed, ends_feed, refusal, text_reading}
use Rattle.event_feed.specs.Feed.{AnswersNext, PassesLines}
use Rattle.text_lines.specs.declared.line_reader.Stop.{Stop}
use Rattle.text_lines.specs.declared.line_reader.Stop.TheVariants.{InputEnded}
use Rattle.paired_feed.specs.declared.paired.PairedLine.{PairedLine}

-- the feed, for a configuration whose last moment is another
abbrev pub since : Feed → (last : ℕ) → Feed
since feed last = record feed { last = last }

-- whether a line was refused for its length
abbrev pub is_too_long : Result Event FeedFault → Bool
is_too_long (Err LineTooLong) = true
is_too_long given = false

-- what the second gives of a line of this text, where the first gives this: a line that is too long is that for each
abbrev pub other_reading : List Object → (last : ℕ) → (text : List ℕ) → Result Event FeedFault
    → Result Event FeedFault
other_reading objects last text (Err LineTooLong) = Err LineTooLong
other_reading objects last text given = text_reading objects last text

-- the answer of the line by the first, and by the second
abbrev pub first_answer : PairedLine → Answer
first_answer pair = record { line = pair.line; given = pair.first }

abbrev pub second_answer : PairedLine → Answer
second_answer pair = record { line = pair.line; given = pair.second }

-- By each configuration this is the next answer of the feed, and the feed goes on after it.
pub record GivesPair (a b : Config) (old : Feed) (last : ℕ) (pair : PairedLine) (new : Feed)
    (last' : ℕ) : Type 0 where
  pub first : AnswersNext a.objects old (first_answer pair) new
  pub second : AnswersNext b.objects (since old last) (second_answer pair) (since new last')
  pub later : old.line < new.line
  pub number : pair.line ≡ new.line
  pub lines : PassesLines old new
  pub read_on_first : ends_feed pair.first ≡ false
  pub read_on_second : ends_feed pair.second ≡ false
  pub goes_on : new.stop ≡ None

-- whether a feed ended before its input
abbrev pub is_cut : Option Stop → Bool
is_cut (Some InputEnded) = false
is_cut stop = true

-- the answer of a line at which a feed ends, if there is one
abbrev pub last_answers : Option RefusedLine → List Answer
last_answers None = []
last_answers (Some refused) = refusal refused ∷ []

-- By each configuration the feed gives nothing more, or the refusal of the line at which it ends before its input.
pub record EndsPair (can_fail : Bool) (a b : List Object) (old : Feed) (last : ℕ)
    (stop : Option Stop) : Type 0 where
  pub refused : Option RefusedLine
  pub first : AreGivenBy can_fail a old (last_answers refused)
  pub second : AreGivenBy can_fail b (since old last) (last_answers refused)
  pub ends : IfSome refused (λ r. ends_feed (Err r.fault) ≡ true)
  pub cut : is_some refused ≡ is_cut stop
