-- What is read of a journal that a kill has cut.
use Rattle.std.specs.Prelude.{◌≡◌, ℕ, ◌<◌, ◌≤◌, ◌^◌, ◌==◌, ◌⊎◌, false, List, length, take, Option, None, Some, Ok, All}
use Rattle.due_model.specs.declared.config.Config.{Config}
use Rattle.due_model.specs.declared.config.LaneId.{LaneId}
use Rattle.due_model.specs.declared.notice.Notice.{Notice}
use Rattle.due_model.specs.claims.Objects.{object_named}
use Rattle.due_model.specs.claims.Limits.{line_limit}
use Rattle.notice_text.specs.claims.Texts.{contact_text, lane_text}
use Rattle.text_lines.specs.Lines.{IsUnbroken}
use Rattle.journal_text.specs.Entries.{body, first_line, first_said, notice_of}
use Rattle.journal_text.specs.Names.{contact_said, host_word, service_said, service_word}
use Rattle.std.specs.List.{AllByRecursion}
use mathlib.Core.List.{IsPrefix}
use Rattle.journal_text.specs.declared.entry.Entry.{Entry}
use Rattle.journal_text.specs.Lines.{told_by, read_from, text, whole_text, within}
use Rattle.journal_text.specs.Told.{journal_said, line_said}

-- a line is read as what it says
pub record IsReadBack {X : Type 0} (line : List ℕ) (said : List ℕ → Option X) (x : X) : Type 0 where
  pub unbroken : IsUnbroken line
  pub again : said line ≡ Some x

-- the line of an entry is read as the entry
abbrev pub IsEntryBack : Config → LaneId → Entry → Type 0
IsEntryBack c lane e = IsReadBack (body c e) (line_said c lane) e

-- the text of a lane's journal
abbrev pub journal_text : Config → LaneId → (from : ℕ) → List Entry → List ℕ
journal_text c lane from entries = whole_text (first_line c lane from) (body c) entries

-- Of a front of a journal's text some first entries are read: at least all those whose lines are whole in it, and nothing is refused.
-- Where not even the first line is whole, nothing is told.
pub record CutIsRead (c : Config) (lane : LaneId) (from : ℕ) (entries : List Entry) (cut : List ℕ) : Type 0 where
  pub count : ℕ
  pub most : count ≤ length entries
  pub first : Option ℕ
  pub first_is : (first ≡ Some from) ⊎ ((first ≡ None) × (count ≡ 0))
  pub read : journal_said c lane cut ≡ Ok (record { from = first; entries = take count entries })
  pub whole : (n : ℕ) → n ≤ length entries → IsPrefix (journal_text c lane from (take n entries)) cut
      → (first ≡ Some from) × (n ≤ count)

-- each of its lines is read as what it says
pub record IsWritten (c : Config) (lane : LaneId) (from : ℕ) (entries : List Entry) : Type 0 where
  pub first : IsReadBack (first_line c lane from) (within (first_said c lane)) from
  pub each : AllByRecursion (IsEntryBack c lane) entries

abbrev pub EachCutIsRead : Type 0
EachCutIsRead = (c : Config) (lane : LaneId) (from : ℕ) (entries : List Entry) (cut : List ℕ)
    → IsWritten c lane from entries → IsPrefix cut (journal_text c lane from entries) → CutIsRead c lane from entries cut

-- What was written whole is read whole.
abbrev pub WholeIsRead : Type 0
WholeIsRead = (c : Config) (lane : LaneId) (from : ℕ) (entries : List Entry) → IsWritten c lane from entries
    → journal_said c lane (journal_text c lane from entries) ≡ Ok (record { from = Some from; entries = entries })

-- a word that a field can hold
abbrev pub IsWord : List ℕ → Type 0
IsWord word = All (λ byte. (byte == 59) ≡ false) word × All (λ byte. (byte == 10) ≡ false) word

-- the notice's numbers fit, its names can be written, and are found again
pub record IsSpoken (c : Config) (n : Notice) : Type 0 where
  pub event : n.event < 2 ^ 64
  pub moment : n.moment < 2 ^ 64
  pub number : n.number < 2 ^ 64
  pub host : IsWord (host_word c n.object.0)
  pub service : IsWord (service_word c n.object.0)
  pub contact : IsWord (contact_text c n.contact.0)
  pub object_again : object_named c.objects (host_word c n.object.0) (service_said (service_word c n.object.0)) ≡ Some n.object
  pub contact_again : contact_said c (contact_text c n.contact.0) ≡ Some n.contact

-- The line of each entry of a lane whose names are spoken so is read as that entry, where it isn't too long.
abbrev pub EachIsReadBack : Type 0
EachIsReadBack = (c : Config) (lane : LaneId) (e : Entry) → IsSpoken c (notice_of e) → (notice_of e).lane ≡ lane
    → length (body c e) ≤ line_limit → IsEntryBack c lane e

-- So is the first line, where the lane's name can be written.
abbrev pub FirstIsReadBack : Type 0
FirstIsReadBack = (c : Config) (lane : LaneId) (from : ℕ) → from < 2 ^ 64 → IsWord (lane_text c lane.0)
    → length (first_line c lane from) ≤ line_limit → IsReadBack (first_line c lane from) (within (first_said c lane)) from
