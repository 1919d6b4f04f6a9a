-- The faults of a feed.
use Rattle.std.specs.Prelude.{ℕ, Bool, true, false, List, codes, Option, None, Some}
use Rattle.event_feed.specs.declared.fault.FeedFault.{FeedFault}
use Rattle.text_lines.specs.declared.line_reader.Stop.{Stop}
use Rattle.text_lines.specs.declared.line_reader.Stop.TheVariants.{InputEnded, CutLine, ReaderFailed, TooManyCalls, TooManyBytes, TooManyLines}
use Rattle.event_feed.specs.declared.fault.FeedFault.TheVariants.{BadStamp, UnknownKind, UnknownObject, BadState, LineTooLong, NotUtf8, Ahead, Cut, Read, NoMemory, Ended}

-- the name, as reports print it
abbrev pub fault_name : FeedFault → List ℕ
fault_name BadStamp = codes "BadStamp"
fault_name UnknownKind = codes "UnknownKind"
fault_name UnknownObject = codes "UnknownObject"
fault_name BadState = codes "BadState"
fault_name LineTooLong = codes "LineTooLong"
fault_name NotUtf8 = codes "NotUtf8"
fault_name Ahead = codes "Ahead"
fault_name Cut = codes "Cut"
fault_name Read = codes "Read"
fault_name NoMemory = codes "NoMemory"
fault_name Ended = codes "Ended"

-- the faults of a line that is read over: the feed goes on after it
abbrev pub is_line_fault : FeedFault → Bool
is_line_fault BadStamp = true
is_line_fault UnknownKind = true
is_line_fault UnknownObject = true
is_line_fault BadState = true
is_line_fault LineTooLong = true
is_line_fault NotUtf8 = true
is_line_fault Ahead = true
is_line_fault Cut = false
is_line_fault Read = false
is_line_fault NoMemory = false
is_line_fault Ended = false

-- the fault of a line whose stamp is too far ahead
abbrev pub is_ahead : FeedFault → Bool
is_ahead BadStamp = false
is_ahead UnknownKind = false
is_ahead UnknownObject = false
is_ahead BadState = false
is_ahead LineTooLong = false
is_ahead NotUtf8 = false
is_ahead Ahead = true
is_ahead Cut = false
is_ahead Read = false
is_ahead NoMemory = false
is_ahead Ended = false

-- the fault that a stop is reported as
abbrev pub stop_fault : Stop → Option FeedFault
stop_fault InputEnded = None
stop_fault CutLine = Some Cut
stop_fault ReaderFailed = Some Read
stop_fault TooManyCalls = Some Read
stop_fault TooManyBytes = Some Read
stop_fault TooManyLines = Some Read
