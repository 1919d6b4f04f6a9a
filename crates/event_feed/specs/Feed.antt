-- A feed: its lines in order, numbered from 1, and what each answers.
use Rattle.std.specs.Prelude.{◌≡◌, ℕ, ◌+◌, Bool, true, false, nat_lt, List, ◌++◌, length, Option, Some, None, Result, Ok, Err}
use Rattle.due_model.specs.declared.config.Object.{Object}
use Rattle.due_model.specs.declared.event.Event.{Event}
use Rattle.event_feed.specs.declared.fault.FeedFault.{FeedFault}
use Rattle.event_feed.specs.declared.fault.RefusedLine.{RefusedLine}
use Rattle.text_lines.specs.LineReader.{Reading, to_come}
use Rattle.text_lines.specs.claims.Lines.{Known, pieces}
use Rattle.text_lines.specs.declared.line_reader.Stop.{Stop}
use Rattle.event_feed.specs.claims.Feed.{Answer, no_line, Feed, answers_from_within, AnswersNextWithin, AnswersNoneWithin, FaultComesToWithin, FaultAnswersWithin}

-- whether the stamp of an event is past the latest moment that it may have, where there is one
abbrev pub is_past : (latest : Option ℕ) → Result Event FeedFault → Bool
is_past None reading = false
is_past (Some latest) (Ok event) = nat_lt latest event.moment
is_past (Some latest) (Err fault) = false

-- of what may be said of the latest moment, something was by which a line is too far ahead
abbrev pub IsFar : (says : Option ℕ → Type 0) → Result Event FeedFault → Type 0
IsFar says reading = (latest : Option ℕ) × says latest × (is_past latest reading ≡ true)

-- or isn't
abbrev pub IsNear : (says : Option ℕ → Type 0) → Result Event FeedFault → Type 0
IsNear says reading = (latest : Option ℕ) × says latest × (is_past latest reading ≡ false)

-- a feed whose lines are read so
abbrev pub feed_of : Reading → (line last : ℕ) → Option Stop → Feed
feed_of reading line last stop = record {
  bytes = to_come reading;
  held = reading.held;
  text = reading.line;
  calls = reading.calls;
  line = line;
  last = last;
  stop = stop;
}

-- ---- for those who read a feed

-- the bytes left are the lines after those that were read
abbrev pub PassesLines : Feed → Feed → Type 0
PassesLines old new = Known old.bytes new.bytes (λ bytes rest. (before : List (List ℕ))
    × (pieces bytes ≡ before ++ pieces rest) × (new.line ≡ old.line + length before))

-- ---- of a feed of which no line is too far ahead

abbrev pub answers_from : List Object → Feed → List ℕ → List Answer
answers_from objects feed bytes = answers_from_within no_line objects feed bytes

abbrev pub AnswersNext : List Object → Feed → Answer → Feed → Type 0
AnswersNext objects old answer new = AnswersNextWithin no_line objects old answer new

abbrev pub AnswersNone : List Object → Feed → Feed → Type 0
AnswersNone objects old new = AnswersNoneWithin no_line objects old new

abbrev pub FaultComesTo : List Object → Feed → RefusedLine → Option Stop → Feed → Type 0
FaultComesTo objects old fault stop new =
    FaultComesToWithin no_line objects old fault stop new

abbrev pub FaultAnswers : List Object → Feed → RefusedLine → Option Stop → Feed → Type 0
FaultAnswers objects old fault stop new =
    FaultAnswersWithin no_line objects old fault stop new
