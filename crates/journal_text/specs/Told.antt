-- What a journal tells.
use Rattle.std.specs.Prelude.{◌≡◌, ℕ, ◌+◌, ◌^◌, ◌<◌, ◌≤◌, ◌⊎◌, Bool, true, false, List, ◌++◌, filter_map, length, Option, None, Some, Result, Ok, Err, ⊤}
use Rattle.due_model.specs.declared.config.Config.{Config}
use Rattle.due_model.specs.declared.config.LaneId.{LaneId}
use Rattle.due_model.specs.declared.notice.Notice.{Notice}
use Rattle.text_lines.specs.claims.LineReader.{call_limit}
use Rattle.text_lines.specs.LineReader.{BeginsUnbroken, line_limit}
use Rattle.text_lines.specs.claims.Lines.{pieces}
use Rattle.text_lines.specs.Lines.{BeginsWithLine, IsUnbroken}
use Rattle.journal_text.specs.declared.entry.Entry.{Entry}
use Rattle.journal_text.specs.declared.entry.Entry.TheVariants.{Begun, GivenUp, Taken}
use Rattle.journal_text.specs.declared.journal.JournalFault.{JournalFault}
use Rattle.journal_text.specs.declared.journal.JournalFault.TheVariants.{Line, NoMemory, Unreadable}
use Rattle.journal_text.specs.declared.journal.ReadJournal.{ReadJournal}
use Rattle.journal_text.specs.Entries.{entry_said, first_said}
use Rattle.journal_text.specs.Lines.{Told, put, read_from, told_by, whole_length, within}

-- ---- by entries

-- what is no longer due: it was taken or given up
abbrev pub settled_by : Entry → Option Notice
settled_by (Begun n) = None
settled_by (Taken n) = Some n
settled_by (GivenUp n) = Some n

abbrev pub settled_in : List Entry → List Notice
settled_in entries = filter_map settled_by entries

-- what was about to be handed over
abbrev pub begun_by : Entry → Option Notice
begun_by (Begun n) = Some n
begun_by (Taken n) = None
begun_by (GivenUp n) = None

abbrev pub begun_in : List Entry → List Notice
begun_in entries = filter_map begun_by entries

-- ---- by bytes

-- what a line says that isn't longer than a line may be
abbrev pub line_said : Config → LaneId → List ℕ → Option Entry
line_said c lane = within (entry_said c lane)

-- what the bytes of a lane's journal tell, or the number of the first whole line that says nothing
abbrev pub journal_said : Config → LaneId → List ℕ → Result Told ℕ
journal_said c lane bytes = told_by (within (first_said c lane)) (line_said c lane) (pieces bytes)

-- these bytes tell what was read, and so many of them are of whole lines
pub record IsRead (c : Config) (lane : LaneId) (bytes : List ℕ) (read : ReadJournal) : Type 0 where
  pub entries : List Entry
  pub said : journal_said c lane bytes ≡ Ok (record { from = read.from; entries = entries })
  pub settled : read.settled.items ≡ settled_in entries
  pub begun : read.begun.items ≡ begun_in entries
  pub whole : read.whole ≡ whole_length (pieces bytes)

-- a part of the bytes has so many without a newline
abbrev pub HasUnbroken : ℕ → List ℕ → Type 0
HasUnbroken count bytes =
    (before : List ℕ) × (text : List ℕ) × (more : List ℕ) × (bytes ≡ before ++ text ++ more) × IsUnbroken text × (count ≤ length text)

-- so many lines a journal may have, and one less
abbrev pub line_count : ℕ
line_count = 4_294_967_296

-- What isn't read, after so many lines that have so many bytes: as many bytes without a newline as a line may take calls, or more lines,
-- or bytes in them, than may be.
abbrev pub IsTooMuch : (lines whole : ℕ) → List ℕ → Type 0
IsTooMuch lines whole bytes =
    HasUnbroken call_limit bytes ⊎ (line_count < lines + length (pieces bytes)) ⊎ (2 ^ 64 ≤ whole + whole_length (pieces bytes))

-- ---- while it is read

-- what the next line is: one that isn't too long; or what no newline ends; or one that is too long
abbrev pub Steps : (can_fail : Bool) → List ℕ → Result Bool JournalFault → (line rest : List ℕ) → Type 0
Steps can_fail bytes (Ok true) line rest = BeginsWithLine bytes line rest × (length line ≤ line_limit)
Steps can_fail bytes (Ok false) line rest = IsUnbroken bytes
Steps can_fail bytes (Err (Line n)) line rest = (text : List ℕ) × BeginsWithLine bytes text rest × (line_limit < length text)
Steps can_fail bytes (Err Unreadable) line rest = (can_fail ≡ true) ⊎ BeginsUnbroken bytes call_limit
Steps can_fail bytes (Err NoMemory) line rest = ⊥

-- The next line says this; or no newline ends what comes; or it is the line of this number that says nothing.
abbrev pub Reads : {X : Type 0} → (can_fail : Bool) → (said : List ℕ → Option X) → (number : ℕ) → List ℕ → Result (Option X) JournalFault
    → (line rest : List ℕ) → Type 0
Reads can_fail said number bytes (Ok (Some x)) line rest = BeginsWithLine bytes line rest × (within said line ≡ Some x)
Reads can_fail said number bytes (Ok None) line rest = IsUnbroken bytes
Reads can_fail said number bytes (Err (Line n)) line rest =
    (n ≡ number) × (text : List ℕ) × BeginsWithLine bytes text rest × (within said text ≡ None)
Reads can_fail said number bytes (Err Unreadable) line rest = (can_fail ≡ true) ⊎ BeginsUnbroken bytes call_limit
Reads can_fail said number bytes (Err NoMemory) line rest = ⊥

-- the entries were added to what was read before
pub record Gains (old new : ReadJournal) (entries : List Entry) : Type 0 where
  pub from : new.from ≡ old.from
  pub settled : new.settled.items ≡ old.settled.items ++ settled_in entries
  pub begun : new.begun.items ≡ old.begun.items ++ begun_in entries

-- Of a journal's bytes, after the first line, these are left, from the line of this number on; what the lines before it say was added.
pub record Comes (c : Config) (lane : LaneId) (bytes rest : List ℕ) (number : ℕ) (old new : ReadJournal) : Type 0 where
  pub entries : List Entry
  pub said : put entries (read_from (line_said c lane) number (pieces rest)) ≡ read_from (line_said c lane) 2 (pieces bytes)
  pub gains : Gains old new entries
  pub whole : new.whole + whole_length (pieces rest) ≡ old.whole + whole_length (pieces bytes)
  pub gone : List ℕ
  pub gone_is : bytes ≡ gone ++ rest
  pub lines : number + length (pieces rest) ≡ 2 + length (pieces bytes)

-- the lines of bytes from number 2 on were read so
abbrev pub ReadsEntries : (can_fail : Bool) → Config → LaneId → (old new : ReadJournal) → (bytes : List ℕ) → Result (Unit {0}) JournalFault
    → Type 0
ReadsEntries can_fail c lane old new bytes (Ok done) =
    (entries : List Entry) × (read_from (line_said c lane) 2 (pieces bytes) ≡ Ok entries) × Gains old new entries
    × (new.whole ≡ old.whole + whole_length (pieces bytes))
ReadsEntries can_fail c lane old new bytes (Err (Line n)) = read_from (line_said c lane) 2 (pieces bytes) ≡ Err n
ReadsEntries can_fail c lane old new bytes (Err Unreadable) = (can_fail ≡ true) ⊎ IsTooMuch 1 old.whole bytes
ReadsEntries can_fail c lane old new bytes (Err NoMemory) = ⊤
