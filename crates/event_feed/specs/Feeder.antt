-- How a feeder goes from line to line: what one line that was read makes of the answers to come.
use Rattle.std.specs.Prelude.{◌≡◌, Bool, ℕ, ◌+◌, ◌<◌, ◌≤◌, List, [], ◌∷◌, Err, Option, None, Some}
use Rattle.due_model.specs.declared.config.Object.{Object}
use Rattle.event_feed.specs.declared.fault.FeedFault.TheVariants.{LineTooLong, Cut, Read}
use Rattle.event_feed.specs.claims.Feed.{Answer, AreFromLine, ComesTo, answers_within, feed_limit, moment_after, text_reading_within}
use Rattle.text_lines.specs.LineReader.{Reading, to_come}
use Rattle.text_lines.specs.claims.Lines.{Known, pieces}
use Rattle.text_lines.specs.declared.line_reader.NextLine.{NextLine}
use Rattle.text_lines.specs.declared.line_reader.NextLine.TheVariants.{Line, Long, Over}
use Rattle.text_lines.specs.declared.line_reader.Stop.{Stop}
use Rattle.text_lines.specs.declared.line_reader.Stop.TheVariants.{InputEnded, CutLine, ReaderFailed, TooManyCalls, TooManyBytes, TooManyLines}

-- given how it was read, the text and the number of the line, and the bytes after it
abbrev pub LineAnswers : (far : ℕ → Bool) → List Object → ℕ → NextLine → List ℕ → ℕ → List ℕ → List Answer → Type 0
LineAnswers far objects last Line text line rest all =
    all ≡ record { line = line; given = text_reading_within (far line) objects last text }
    ∷ answers_within far objects line (moment_after last (text_reading_within (far line) objects last text)) (pieces rest)
LineAnswers far objects last Long text line rest all =
    all ≡ record { line = line; given = Err LineTooLong } ∷ answers_within far objects line last (pieces rest)
LineAnswers far objects last (Over InputEnded) text line rest all = all ≡ []
LineAnswers far objects last (Over CutLine) text line rest all =
    all ≡ record { line = line; given = Err Cut } ∷ []
LineAnswers far objects last (Over ReaderFailed) text line rest all = AreFromLine line all
LineAnswers far objects last (Over TooManyCalls) text line rest all = AreFromLine line all
LineAnswers far objects last (Over TooManyBytes) text line rest all =
    all ≡ record { line = line; given = Err Read } ∷ []
LineAnswers far objects last (Over TooManyLines) text line rest all =
    all ≡ record { line = line; given = Err Read } ∷ []

-- going to the next line that isn't empty
abbrev pub GoesToLine : Reading → ℕ → NextLine → Reading → ℕ → Type 0
GoesToLine old from how new line =
    Known (to_come old) (to_come new) (λ bytes rest.
    ((far : ℕ → Bool) (objects : List Object) (last : ℕ) →
    LineAnswers far objects last how new.line line rest (answers_within far objects from last (pieces bytes)))
    × ComesTo how from bytes line new.line rest)

-- why the reading is over, if it is
abbrev pub stop_of : NextLine → Option Stop
stop_of Line = None
stop_of Long = None
stop_of (Over stop) = Some stop

-- how many lines are begun where the reading is over: none where the input ended after a whole line
abbrev pub begun_lines : Stop → ℕ
begun_lines InputEnded = 0
begun_lines CutLine = 1
begun_lines ReaderFailed = 1
begun_lines TooManyCalls = 1
begun_lines TooManyBytes = 1
begun_lines TooManyLines = 1

-- how the line's number grows
abbrev pub CountsLine : ℕ → NextLine → ℕ → Type 0
CountsLine from (Over InputEnded) line = (from ≤ line) × (line ≤ feed_limit)
CountsLine from (Over stop) line = (from < line) × (line ≤ feed_limit + 1)
CountsLine from Line line = (from < line) × (line ≤ feed_limit)
CountsLine from Long line = (from < line) × (line ≤ feed_limit)
