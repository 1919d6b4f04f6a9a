-- The room of a log.
use Rattle.std.specs.Prelude.{◌≤◌, List, length, filter}
use Rattle.suppression_log.specs.Log.{Lines}
use Rattle.messages.specs.declared.entries.Entry.{Entry}
use Rattle.messages.specs.Entries.{is_withheld}

-- there is room for the suppressions among these entries
abbrev pub HasRoomFor : Lines → List Entry → Type 0
HasRoomFor log entries = length (filter is_withheld entries) ≤ log.room
