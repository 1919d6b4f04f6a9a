-- The feed of a trace, up to its mark: the events that are kept, and the lines of its refusals.
use Rattle.std.specs.Prelude.{◌≡◌, ◌≢◌, ℕ, ◌+◌, ◌≤◌, ◌==◌, ◌⊎◌, All, Bool, true, false, List, [], ◌∷◌, ◌++◌, length, codes, if◌then◌else◌, Result, Ok, Err}
use Rattle.due_model.specs.claims.Limits.{max_events}
use Rattle.due_model.specs.declared.config.Object.{Object}
use Rattle.due_model.specs.declared.event.Event.{Event}
use Rattle.event_feed.specs.declared.fault.FeedFault.{FeedFault}
use Rattle.event_feed.specs.declared.fault.FeedFault.TheVariants.{BadStamp, Ended, Read}
use Rattle.event_feed.specs.declared.fault.FeedFault.TheVariants as fault
use Rattle.event_feed.specs.claims.Feed.{Answer, AreGiven, Feed, ends_feed}
use Rattle.event_feed.specs.Feed.{answers_from}
use Rattle.text_lines.specs.claims.Lines.{pieces}
use Rattle.text_lines.specs.declared.line_reader.Stop.{Stop}
use Rattle.text_lines.specs.declared.line_reader.Stop.TheVariants.{InputEnded, CutLine, ReaderFailed, TooManyCalls, TooManyBytes, TooManyLines}
use Rattle.command_output.specs.claims.ReportLine.{refused_line}
use Rattle.trace.specs.declared.feed.AfterFeed.{AfterFeed}
use Rattle.trace.specs.declared.feed.AfterFeed.TheVariants.{Steps, Nothing, Cut, Unread}

-- the line that ends a feed: it is no line of a feed
abbrev pub mark : List ℕ
mark = codes "%steps"

pub record IsMark (fault : FeedFault) (text : List ℕ) : Type 0 where
  pub refused : fault ≡ BadStamp
  pub says : text ≡ mark

-- ---- what is kept and written of a line of the feed

-- what is kept of a feed so far: its events, whether there are more than can be numbered, and the text that is written
pub record FeedState : Type 0 where
  pub events : List Event
  pub over : Bool
  pub text : List ℕ

-- the text of what a line gives: its refusal, and that of an event that can't be numbered. After that nothing is written.
abbrev pub added : List Event → (over : Bool) → (line : ℕ) → Result Event FeedFault → List ℕ
added events true line given = []
added events false line (Ok e) = if length events == max_events then refused_line line Ended else []
added events false line (Err fault) = refused_line line fault

abbrev pub events_after : List Event → (over : Bool) → Result Event FeedFault → List Event
events_after events true given = events
events_after events false (Ok e) = if length events == max_events then events else events ++ e ∷ []
events_after events false (Err fault) = events

abbrev pub is_over_after : List Event → (over : Bool) → Result Event FeedFault → Bool
is_over_after events true given = true
is_over_after events false (Ok e) = length events == max_events
is_over_after events false (Err fault) = false

abbrev pub after_answer : FeedState → Answer → FeedState
after_answer f answer = record {
  events = events_after f.events f.over answer.given;
  over = is_over_after f.events f.over answer.given;
  text = f.text ++ added f.events f.over answer.line answer.given;
}

-- after all of these answers of a feed, in order
abbrev pub after_answers : FeedState → List Answer → FeedState
after_answers f [] = f
after_answers f (answer ∷ answers) = after_answers (after_answer f answer) answers

-- ---- how a feed ends

-- these lines come before the others of the bytes, and none of them is the mark
pub record ComesAfter (bytes : List ℕ) (before others : List (List ℕ)) : Type 0 where
  pub lines : pieces bytes ≡ before ++ others
  pub unmarked : All (λ line. line ≢ mark) before

-- Of all the answers of a feed, after so many lines, those that are given, and what follows them: the first line that is
-- the mark, which the feed answers as no line of it, and the bytes after it; or nothing, all lines being whole and read; or
-- nothing after a line that the end of the input cut; or a line that can't be read. No line before these is the mark.
abbrev pub FeedEnds : (can_fail : Bool) → (all : List Answer) → (from : ℕ) → (bytes : List ℕ)
    → AfterFeed
    → (given : List Answer) → (rest : List ℕ) → Type 0
FeedEnds can_fail all from bytes Steps given rest =
    (before : List (List ℕ)) × (line : ℕ) × (others : List Answer)
    × ComesAfter bytes before (mark ∷ pieces rest) × (line ≡ from + length before + 1)
    × (all ≡ given ++ record { line = line; given = Err BadStamp } ∷ others)
FeedEnds can_fail all from bytes Nothing given rest =
    (before : List (List ℕ)) × ComesAfter bytes before ([] ∷ []) × (all ≡ given)
    × All (λ answer. ends_feed answer.given ≡ false) given
FeedEnds can_fail all from bytes Cut given rest =
    (before : List (List ℕ)) × (last : List ℕ) × (front : List Answer) × (line : ℕ)
    × ComesAfter bytes before (last ∷ []) × (all ≡ given)
    × (given ≡ front ++ record { line = line; given = Err fault.Cut } ∷ [])
FeedEnds can_fail all from bytes Unread given rest =
    (before : List (List ℕ)) × (text : List ℕ) × (others : List (List ℕ))
    × (front : List Answer) × (line : ℕ)
    × ComesAfter bytes before (text ∷ others) × (line ≡ from + length before + 1)
    × AreGiven can_fail given all from (pieces bytes)
    × (given ≡ front ++ record { line = line; given = Err Read } ∷ [])

-- the first answers of a feed, after so many lines: those of lines of which none is the mark
pub record FirstAnswers (all : List Answer) (from : ℕ) (bytes : List ℕ)
    (given : List Answer) : Type 0 where
  pub before : List (List ℕ)
  pub others : List (List ℕ)
  pub more : List Answer
  pub lines : ComesAfter bytes before others
  pub answers : all ≡ given ++ more
  pub earlier : All (λ answer. answer.line ≤ from + length before) given

-- the first of them, or all that are given
abbrev pub FeedBegins : (can_fail : Bool) → (all : List Answer) → (from : ℕ) → (bytes : List ℕ)
    → (given : List Answer) → Type 0
FeedBegins can_fail all from bytes given =
    FirstAnswers all from bytes given
    ⊎ ((end : AfterFeed) × (rest : List ℕ) × FeedEnds can_fail all from bytes end given rest)

-- what comes after a feed that stopped at a line
abbrev pub after_stop : Stop → AfterFeed
after_stop InputEnded = Unread
after_stop CutLine = Cut
after_stop ReaderFailed = Unread
after_stop TooManyCalls = Unread
after_stop TooManyBytes = Unread
after_stop TooManyLines = Unread

-- one line of the feed was read
pub record FeedGoesOn (objects : List Object) (old : Feed) (bytes : List ℕ) (new : Feed)
    (rest : List ℕ) (answer : Answer) : Type 0 where
  pub before : List (List ℕ)
  pub lines : ComesAfter bytes before (pieces rest)
  pub number : new.line ≡ old.line + length before
  pub answers : answers_from objects old bytes ≡ answer ∷ answers_from objects new rest
  pub line : answer.line ≡ new.line
  pub read_on : ends_feed answer.given ≡ false

-- so many lines of the feed were read
pub record FeedSoFar (objects : List Object) (old : Feed) (bytes : List ℕ) (new : Feed)
    (rest : List ℕ) (given : List Answer) : Type 0 where
  pub before : List (List ℕ)
  pub lines : ComesAfter bytes before (pieces rest)
  pub number : new.line ≡ old.line + length before
  pub answers : answers_from objects old bytes ≡ given ++ answers_from objects new rest
  pub earlier : All (λ answer. answer.line ≤ new.line) given
  pub read_on : All (λ answer. ends_feed answer.given ≡ false) given
