-- A feed: its lines in order, numbered from 1, and what each answers.
use Rattle.std.specs.Prelude.{◌≡◌, ◌≢◌, ℕ, ◌+◌, ◌<◌, ◌≤◌, ◌^◌, max, Bool, true, false, not, All, ◌⊎◌, IfSome, ◌||◌, ◌==◌, if◌then◌else◌, nat_lt, nat_le, List, [], ◌∷◌, ◌++◌, length, replicate, take_while, IsTrue, IsSome, is_some, Option, Some, None, Result, Ok, Err}
use Rattle.due_model.specs.claims.Proper.{IsProper}
use Rattle.due_model.specs.declared.config.Config.{Config}
use Rattle.due_model.specs.declared.config.Object.{Object}
use Rattle.due_model.specs.declared.event.Event.{Event}
use Rattle.event_feed.specs.declared.fault.FeedFault.{FeedFault}
use Rattle.event_feed.specs.declared.fault.FeedFault.TheVariants.{Ahead, Cut, LineTooLong, Read}
use Rattle.event_feed.specs.declared.fault.RefusedLine.{RefusedLine}
use Rattle.event_feed.specs.claims.Fault.{is_line_fault, stop_fault}
use Rattle.event_feed.specs.claims.Line.{line_reading}
use Rattle.text_lines.specs.claims.LineReader.{byte_limit, call_limit, cut_text}
use Rattle.text_lines.specs.LineReader.{line_limit}
use Rattle.text_lines.specs.claims.Lines.{Known, pieces}
use Rattle.text_lines.specs.declared.line_reader.NextLine.{NextLine}
use Rattle.text_lines.specs.declared.line_reader.NextLine.TheVariants.{Line, Long, Over}
use Rattle.text_lines.specs.declared.line_reader.Stop.{Stop}
use Rattle.text_lines.specs.declared.line_reader.Stop.TheVariants.{InputEnded, CutLine, ReaderFailed, TooManyCalls, TooManyBytes, TooManyLines}

-- what one line answers: its number, and an event or a fault
pub record Answer : Type 0 where
  pub line : ℕ
  pub given : Result Event FeedFault

-- the most lines of a feed
abbrev pub feed_limit : ℕ
feed_limit = 2 ^ 33

-- a stamp below the last moment is raised to it
abbrev pub raised : ℕ → Result Event FeedFault → Result Event FeedFault
raised last (Ok event) = Ok (record event { moment = max last event.moment })
raised last (Err fault) = Err fault

-- the last moment after a reading whose stamp was raised
abbrev pub moment_after : ℕ → Result Event FeedFault → ℕ
moment_after last (Ok event) = event.moment
moment_after last (Err fault) = last

-- no line is too far ahead
abbrev pub no_line : ℕ → Bool
no_line line = false

-- a line that is too far ahead gives no event
abbrev pub held_back : (far : Bool) → Result Event FeedFault → Result Event FeedFault
held_back false reading = reading
held_back true (Ok event) = Err Ahead
held_back true (Err fault) = Err fault

-- what a whole line that isn't empty gives, which is too far ahead or isn't, its stamp raised
abbrev pub text_reading_within : (far : Bool) → List Object → ℕ → List ℕ → Result Event FeedFault
text_reading_within far objects last text =
    raised last (held_back far (line_reading objects text))

-- what it says
abbrev pub text_reading : List Object → ℕ → List ℕ → Result Event FeedFault
text_reading objects last text = text_reading_within false objects last text

-- the reading stops at a line: as many lines were read as a feed may have, or the line is too long to be
-- read over
abbrev pub is_stopped : ℕ → List ℕ → Bool
is_stopped from text = nat_le feed_limit from || nat_lt byte_limit (length text)

-- What a feed answers of which these lines, by number, are too far ahead, given the lines read so far, the last moment and the
-- pieces of the bytes to come: each line that isn't empty answers its event or its fault, in order; no newline follows the last
-- piece, and if it isn't empty the feed was cut.
abbrev pub answers_within : (far : ℕ → Bool) → List Object → ℕ → ℕ → List (List ℕ) → List Answer
answers_within far objects from last [] = []
answers_within far objects from last (text ∷ []) =
    if is_stopped from text then record { line = from + 1; given = Err Read } ∷ []
    else if length text == 0 then []
    else record { line = from + 1; given = Err Cut } ∷ []
answers_within far objects from last (text ∷ next ∷ more) =
    if is_stopped from text then record { line = from + 1; given = Err Read } ∷ []
    else if length text == 0 then answers_within far objects (from + 1) last (next ∷ more)
    else record { line = from + 1; given = text_reading_within (far (from + 1)) objects last text }
    ∷ answers_within far objects (from + 1)
    (moment_after last (text_reading_within (far (from + 1)) objects last text)) (next ∷ more)

-- what it answers where no line is
abbrev pub answers : List Object → ℕ → ℕ → List (List ℕ) → List Answer
answers objects from last texts = answers_within no_line objects from last texts

-- A feed that is being read: the bytes to come, where they are known; those of them that are held, so that no call of
-- the reader is needed for them; the text and the number of the last line read; the calls of the reader; the last
-- moment; why the feed is over, if it is.
pub record Feed : Type 0 where
  pub bytes : Option (List ℕ)
  pub held : List ℕ
  pub text : List ℕ
  pub calls : ℕ
  pub line : ℕ
  pub last : ℕ
  pub stop : Option Stop

-- what the feed answers from here on, given the bytes to come
abbrev pub answers_from_within : (far : ℕ → Bool) → List Object → Feed → List ℕ → List Answer
answers_from_within far objects feed bytes =
    if is_some feed.stop then []
    else answers_within far objects feed.line feed.last (pieces bytes)

-- where the bytes are known, the answer is the next, and the feed goes on after it
abbrev pub AnswersNextWithin : (far : ℕ → Bool) → List Object → Feed → Answer → Feed → Type 0
AnswersNextWithin far objects old answer new =
    Known old.bytes new.bytes (λ bytes rest. answers_from_within far objects old bytes
    ≡ answer ∷ answers_from_within far objects new rest)

-- where the bytes are known, there is no answer to come
abbrev pub AnswersNoneWithin : (far : ℕ → Bool) → List Object → Feed → Feed → Type 0
AnswersNoneWithin far objects old new =
    Known old.bytes new.bytes (λ bytes rest. answers_from_within far objects old bytes ≡ [])

-- no answer is of a line before this one
abbrev pub AreFromLine : ℕ → List Answer → Type 0
AreFromLine line given = take_while (λ answer. nat_lt answer.line line) given ≡ []

-- where the bytes are known, no answer to come is of a line before this one
abbrev pub AnswersLaterWithin : (far : ℕ → Bool) → List Object → Feed → ℕ → Feed → Type 0
AnswersLaterWithin far objects old line new =
    Known old.bytes new.bytes
    (λ bytes rest. AreFromLine line (answers_from_within far objects old bytes))

-- `from` lines come before these pieces. The first of them are empty lines, then comes the line of this number, with
-- this text, and then the others.
pub record ComesNext (from : ℕ) (texts : List (List ℕ)) (line : ℕ) (text : List ℕ)
    (others : List (List ℕ)) : Type 0 where
  pub empty : ℕ
  pub number : line ≡ from + empty + 1
  pub are : texts ≡ replicate empty [] ++ text ∷ others

-- the line of this number comes next, and its text has so many bytes
abbrev pub ComesLong : ℕ → List (List ℕ) → ℕ → (count : ℕ) → Type 0
ComesLong from texts line count =
    (text : List ℕ) × (others : List (List ℕ)) × ComesNext from texts line text others
    × (count ≤ length text)

-- the line of this number comes next, and the reading broke off in it: what is left of it comes first of these pieces
abbrev pub ComesWithin : ℕ → List (List ℕ) → ℕ → List (List ℕ) → Type 0
ComesWithin from texts line left =
    (front : List ℕ) × (text : List ℕ) × (others : List (List ℕ))
    × ComesNext from texts line (front ++ text) others × (left ≡ text ∷ others)

-- The line that a reading came to: its number, its text where it is there, and the bytes after it. At the end of the
-- input the number is that of the last line, which an empty piece follows.
abbrev pub ComesTo : NextLine → (from : ℕ) → List ℕ → ℕ → List ℕ → List ℕ → Type 0
ComesTo Line from bytes line text rest =
    ComesNext from (pieces bytes) line text (pieces rest) × (0 < length text)
ComesTo Long from bytes line text rest =
    (long : List ℕ) × ComesNext from (pieces bytes) line long (pieces rest)
    × (line_limit < length long)
ComesTo (Over InputEnded) from bytes line text rest =
    ComesNext from (pieces bytes) (line + 1) [] [] × (rest ≡ [])
ComesTo (Over CutLine) from bytes line text rest =
    (cut : List ℕ) × ComesNext from (pieces bytes) line cut [] × (0 < length cut)
    × (text ≡ cut_text (length cut) cut)
ComesTo (Over ReaderFailed) from bytes line text rest =
    ComesWithin from (pieces bytes) line (pieces rest)
ComesTo (Over TooManyCalls) from bytes line text rest =
    ComesLong from (pieces bytes) line call_limit
ComesTo (Over TooManyBytes) from bytes line text rest =
    ComesLong from (pieces bytes) line (byte_limit + 1)
ComesTo (Over TooManyLines) from bytes line text rest =
    ComesLong from (pieces bytes) line 0 × (line ≡ feed_limit + 1)

-- the same of a feed whose bytes are known
abbrev pub FeedComesTo : NextLine → Feed → Feed → Type 0
FeedComesTo how old new =
    Known old.bytes new.bytes (λ bytes rest. ComesTo how old.line bytes new.line new.text rest)

-- the next line that isn't empty is refused by what it says, or since it is too far ahead, and its text stays unless it is too
-- long
pub record RefusesLineWithin (far : ℕ → Bool) (objects : List Object) (from : ℕ) (bytes : List ℕ)
    (fault : RefusedLine) (kept rest : List ℕ) : Type 0 where
  pub text : List ℕ
  pub next : ComesNext from (pieces bytes) fault.line text (pieces rest)
  pub some : 0 < length text
  pub reading : held_back (far fault.line) (line_reading objects text) ≡ Err fault.fault
  pub stays : fault.fault ≢ LineTooLong → kept ≡ text

-- where the line of a fault stands in the bytes, where they are known
abbrev pub FaultComesToWithin : (far : ℕ → Bool) → List Object → Feed → RefusedLine → Option Stop
    → Feed → Type 0
FaultComesToWithin far objects old fault None new = Known old.bytes new.bytes
    (λ bytes rest. RefusesLineWithin far objects old.line bytes fault new.text rest)
FaultComesToWithin far objects old fault (Some stop) new = FeedComesTo (Over stop) old new

-- What a fault says of a feed whose bytes are known. A line that is read over, a cut and a limit on bytes or
-- lines are the next answer of the feed. Where the reader failed or took too many calls, which the bytes
-- don't tell, the feed ends before the answers of that line.
abbrev pub FaultAnswersWithin : (far : ℕ → Bool) → List Object → Feed → RefusedLine → Option Stop
    → Feed → Type 0
FaultAnswersWithin far objects old fault None new =
    AnswersNextWithin far objects old (record { line = fault.line; given = Err fault.fault }) new
FaultAnswersWithin far objects old fault (Some InputEnded) new = ⊥
FaultAnswersWithin far objects old fault (Some CutLine) new =
    AnswersNextWithin far objects old (record { line = fault.line; given = Err fault.fault }) new
FaultAnswersWithin far objects old fault (Some ReaderFailed) new =
    AnswersLaterWithin far objects old fault.line new
FaultAnswersWithin far objects old fault (Some TooManyCalls) new =
    AnswersLaterWithin far objects old fault.line new
FaultAnswersWithin far objects old fault (Some TooManyBytes) new =
    AnswersNextWithin far objects old (record { line = fault.line; given = Err fault.fault }) new
FaultAnswersWithin far objects old fault (Some TooManyLines) new =
    AnswersNextWithin far objects old (record { line = fault.line; given = Err fault.fault }) new

-- ---- what is given of a feed, where its reader may fail

-- The least length of the line at which a feed ends by Read though no answer tells it: any, where the calls of the reader
-- can fail; else so many bytes that it may take too many calls.
abbrev pub least_at_read : (can_fail : Bool) → ℕ
least_at_read true = 0
least_at_read false = call_limit

-- `from` lines come before these pieces. The line of this number is one of them, and its text has so many bytes.
pub record HasLong (from : ℕ) (texts : List (List ℕ)) (line count : ℕ) : Type 0 where
  pub before : List (List ℕ)
  pub text : List ℕ
  pub others : List (List ℕ)
  pub are : texts ≡ before ++ text ∷ others
  pub number : line ≡ from + length before + 1
  pub long : count ≤ length text

-- whether a fault ends the feed before its input ends: Cut, Read or Ended
abbrev pub ends_feed : Result Event FeedFault → Bool
ends_feed (Ok e) = false
ends_feed (Err fault) = not (is_line_fault fault)

-- The reading broke off at a line of the feed: the first of its answers were given, of which none ends the feed, and then
-- the refusal of that line. It is after the lines of those answers, and not after the line of the next. Where the reader
-- can't fail, the line is long.
pub record BreaksOff (can_fail : Bool) (given all : List Answer) (from : ℕ)
    (texts : List (List ℕ)) : Type 0 where
  pub front : List Answer
  pub line : ℕ
  pub others : List Answer
  pub begins : all ≡ front ++ others
  pub place : HasLong from texts line (least_at_read can_fail)
  pub earlier : All (λ answer. answer.line < line) front
  pub read_on : All (λ answer. ends_feed answer.given ≡ false) front
  pub later : AreFromLine line others
  pub whole : given ≡ front ++ record { line = line; given = Err Read } ∷ []

-- all the answers of a feed were given, or the reading broke off
abbrev pub AreGiven : (can_fail : Bool) → (given all : List Answer) → (from : ℕ)
    → (texts : List (List ℕ)) → Type 0
AreGiven can_fail given all from texts = (given ≡ all) ⊎ BreaksOff can_fail given all from texts

-- the same of a feed whose bytes are known
abbrev pub AreGivenByWithin : (far : ℕ → Bool) → (can_fail : Bool) → List Object → Feed
    → List Answer → Type 0
AreGivenByWithin far can_fail objects feed given = IfSome feed.bytes (λ bytes.
    AreGiven can_fail given (answers_from_within far objects feed bytes) feed.line (pieces bytes))

-- the answer of a refused line
abbrev pub refusal : RefusedLine → Answer
refusal fault = record { line = fault.line; given = Err fault.fault }

-- which faults come with which stop: Cut and Read with theirs, the faults of a line with none, and want of
-- memory and the end of the numbers never
abbrev pub FaultFits : FeedFault → Option Stop → Type 0
FaultFits fault None = IsTrue (is_line_fault fault)
FaultFits fault (Some stop) = stop_fault stop ≡ Some fault

-- the feed gives an event: proper, its moment no earlier than the last; it is what the text of the last line read says,
-- and that is the next line that isn't empty
pub record GivesEventWithin (far : ℕ → Bool) (c : Config) (old : Feed) (event : Event)
    (new : Feed) : Type 0 where
  pub answers : AnswersNextWithin far c.objects old
      (record { line = new.line; given = Ok event }) new
  pub place : FeedComesTo Line old new
  pub said : text_reading c.objects old.last new.text ≡ Ok event
  pub proper : IsProper c event
  pub later : old.last ≤ event.moment
  pub last : new.last ≡ event.moment
  pub line : old.line < new.line
  pub goes_on : new.stop ≡ None

-- the feed is over
pub record GivesNoneWithin (far : ℕ → Bool) (objects : List Object) (old new : Feed) : Type 0 where
  pub answers : AnswersNoneWithin far objects old new
  pub last : new.last ≡ old.last
  pub line : old.line ≤ new.line
  pub over : IsSome new.stop

-- the input ended after whole lines, all of them empty, and they are counted
pub record ComesToEnd (old new : Feed) : Type 0 where
  pub stop : new.stop ≡ Some InputEnded
  pub place : FeedComesTo (Over InputEnded) old new

-- a line, the last one read, gives no event
pub record GivesFaultWithin (far : ℕ → Bool) (objects : List Object) (old : Feed)
    (fault : RefusedLine) (new : Feed) : Type 0 where
  pub answers : FaultAnswersWithin far objects old fault new.stop new
  pub place : FaultComesToWithin far objects old fault new.stop new
  pub fits : FaultFits fault.fault new.stop
  -- a line that isn't too long is refused by what it says, or since it is too far ahead
  pub said : new.stop ≡ None → fault.fault ≢ LineTooLong
      → held_back (far fault.line) (line_reading objects new.text) ≡ Err fault.fault
  pub number : fault.line ≡ new.line
  pub last : new.last ≡ old.last
  pub line : old.line < new.line

-- How many lines the reader of lines was asked for where so many were passed: one more where it found the end of the
-- input.
abbrev pub lines_asked : Option Stop → ℕ → ℕ
lines_asked (Some InputEnded) passed = passed + 1
lines_asked stop passed = passed

abbrev pub AreGivenBy : (can_fail : Bool) → List Object → Feed → List Answer → Type 0
AreGivenBy can_fail objects feed given = AreGivenByWithin no_line can_fail objects feed given

abbrev pub GivesEvent : Config → Feed → Event → Feed → Type 0
GivesEvent c old event new = GivesEventWithin no_line c old event new

abbrev pub GivesNone : List Object → Feed → Feed → Type 0
GivesNone objects old new = GivesNoneWithin no_line objects old new

abbrev pub GivesFault : List Object → Feed → RefusedLine → Feed → Type 0
GivesFault objects old fault new = GivesFaultWithin no_line objects old fault new
