-- What a reader of lines stands for, and what the reading of a line says of the bytes.
use Rattle.std.specs.Prelude.{◌≡◌, ℕ, ◌+◌, ◌<◌, ◌≤◌, List, [], ◌++◌, length, nat_lt, if◌then◌else◌, ⊤, Option}
use Rattle.std.specs.Io.KnownBytes.{Consumes, IsAtEnd, Keeps, prepend_known}
pub use Rattle.due_model.specs.claims.Limits.{line_limit}
use Rattle.text_lines.specs.claims.CountedReader.{calls_after}
use Rattle.text_lines.specs.claims.Lines.{Known}
use Rattle.text_lines.specs.Lines.{BeginsWithLine, IsUnbroken}
use Rattle.text_lines.specs.declared.line_reader.Filled.{Filled}
use Rattle.text_lines.specs.declared.line_reader.Filled.TheVariants.{More, Empty, Failed}
use Rattle.text_lines.specs.declared.line_reader.NextLine.{NextLine}
use Rattle.text_lines.specs.declared.line_reader.NextLine.TheVariants.{Line, Long, Over}
use Rattle.text_lines.specs.declared.line_reader.Stop.TheVariants.{InputEnded, CutLine, ReaderFailed, TooManyCalls, TooManyBytes, TooManyLines}
use Rattle.text_lines.specs.claims.LineReader.{byte_limit, call_limit, cut_text}

-- the line that was read last, the bytes that are held but belong to no line yet, those that the reader still has, where
-- they are known, and the calls that were made of it
pub record Reading : Type 0 where
  pub line : List ℕ
  pub held : List ℕ
  pub unread : Option (List ℕ)
  pub calls : ℕ

-- the bytes to come, where they are known
abbrev pub to_come : Reading → Option (List ℕ)
to_come reading = prepend_known reading.held reading.unread

-- the bytes begin with so many that have no newline among them
abbrev pub BeginsUnbroken : List ℕ → ℕ → Type 0
BeginsUnbroken bytes count =
    (text : List ℕ) × (more : List ℕ) × IsUnbroken text × (bytes ≡ text ++ more)
    × (count ≤ length text)

-- what reading a line says of the bytes before it, its text, and the bytes after it
abbrev pub ReadsFrom : List ℕ → NextLine → List ℕ → List ℕ → Type 0
ReadsFrom bytes Line line rest = BeginsWithLine bytes line rest × (length line ≤ line_limit)
ReadsFrom bytes Long line rest =
    (text : List ℕ) × BeginsWithLine bytes text rest × (line_limit < length text)
    × (length text ≤ byte_limit)
ReadsFrom bytes (Over CutLine) line rest =
    IsUnbroken bytes × (0 < length bytes) × (length bytes ≤ byte_limit)
    × (line ≡ cut_text (length bytes) bytes)
ReadsFrom bytes (Over InputEnded) line rest = (bytes ≡ []) × (rest ≡ [])
ReadsFrom bytes (Over ReaderFailed) line rest =
    (front : List ℕ) × IsUnbroken front × (bytes ≡ front ++ rest)
ReadsFrom bytes (Over TooManyCalls) line rest = BeginsUnbroken bytes call_limit
ReadsFrom bytes (Over TooManyBytes) line rest = BeginsUnbroken bytes (byte_limit + 1)
ReadsFrom bytes (Over TooManyLines) line rest = ⊥

-- the same of the bytes to come, where they are known
abbrev pub ReadsLine : Reading → NextLine → Reading → Type 0
ReadsLine old how new =
    Known (to_come old) (to_come new) (λ bytes rest. ReadsFrom bytes how new.line rest)

-- too many calls come after as many as a line may take
abbrev pub CallsFit : ℕ → NextLine → ℕ → Type 0
CallsFit old (Over TooManyCalls) new = new ≡ calls_after old call_limit
CallsFit old how new = ⊤

-- the calls of a line: no more than it may take, and none is taken back
pub record SpendsCalls (old : Reading) (how : NextLine) (new : Reading) : Type 0 where
  pub few : new.calls ≤ old.calls + call_limit
  pub least : calls_after old.calls 0 ≤ new.calls
  pub many : CallsFit old.calls how new.calls

-- the text of a line that is there
abbrev pub TextFits : NextLine → List ℕ → List ℕ → Type 0
TextFits Line line text = line ≡ text
TextFits how line text = ⊤

-- the line was held: the reader was not called
pub record ReadsHeld (old : Reading) (how : NextLine) (new : Reading) : Type 0 where
  pub text : List ℕ
  pub begins : BeginsWithLine old.held text new.held
  pub fits : TextFits how new.line text
  pub calls : new.calls ≡ old.calls

-- how a line of so many bytes with its newline is read
abbrev pub ending : ℕ → NextLine
ending count =
    if nat_lt byte_limit count then Over TooManyBytes
    else if nat_lt line_limit count then Long
    else Line

-- what a call adds: some bytes that the reader had, or none at its end, or none where it failed
abbrev pub Fills : Reading → Filled → Reading → Type 0
Fills old More new =
    (piece : List ℕ) × (0 < length piece) × (new.held ≡ old.held ++ piece)
    × Consumes old.unread new.unread piece
Fills old Empty new = (new.held ≡ old.held) × Keeps old.unread new.unread × IsAtEnd old.unread
Fills old Failed new = (new.held ≡ old.held) × Keeps old.unread new.unread

-- what is held was skipped where it is longer than a line may be
pub record MakesRoom (now new : Reading) (skipped skipped' : ℕ) : Type 0 where
  pub held : new.held ≡ (if nat_lt line_limit (length now.held) then [] else now.held)
  pub unread : new.unread ≡ now.unread
  pub calls : new.calls ≡ now.calls
  pub counted : skipped'
      ≡ (if nat_lt line_limit (length now.held) then skipped + length now.held else skipped)
