-- What is read of a journal that was written to, however far a kill let it come.
use Rattle.std.specs.Prelude.{◌≡◌, ℕ, List, ◌++◌, Option, Some, IfSome}
use mathlib.Core.List.{IsPrefix}
use Rattle.journal_text.specs.declared.entry.Entry.{Entry}
use Rattle.journal_text.specs.Cuts.{CutIsRead, IsWritten, journal_text}
use Rattle.journal_file.specs.Text.{Text, Wrote}

-- Of a writer that held a whole journal, each front of what it holds is read as a front of those entries, those that were written, and
-- the one whose line a break has cut. (What a writer holds stands here for the writer.)
abbrev pub EachKillIsRead : Type 0
EachKillIsRead =
    (a b : Text (Option (List ℕ))) (from : ℕ) (before entries : List Entry)
    → IsWritten a.config a.lane from before
    → a.writer ≡ Some (journal_text a.config a.lane from before)
    → Wrote (λ held. held) a entries b
    → IfSome b.writer (λ bytes. (cut : List ℕ) → IsPrefix cut bytes
    → (last : List Entry) × CutIsRead a.config a.lane from (before ++ entries ++ last) cut)
