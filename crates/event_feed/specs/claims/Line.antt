-- A line of the feed, in the shape of chapter "External Commands": `[stamp] NAME;argument;argument`.
use Rattle.std.specs.Prelude.{ℕ, ◌-◌, Bool, true, false, not, ◌&&◌, if◌then◌else◌, nat_lt, nat_le, List, [], ◌∷◌, length, map, take, take_while, drop, codes, Option, None, Some, Result, Ok, Err, ◌==◌}
use Rattle.std.specs.Char.{is_ascii_digit}
use Rattle.std.specs.Int.Digits.{number_from_digits}
use Rattle.std.specs.List.{slice_split}
use Rattle.std.specs.Option.{ok_or}
use Rattle.std.specs.Str.{bytes_eq, is_utf8}
use Rattle.due_model.specs.claims.Limits.{last_moment}
use Rattle.due_model.specs.claims.Objects.{object_named}
use Rattle.due_model.specs.declared.config.Object.{Object}
use Rattle.due_model.specs.declared.config.ObjectId.{ObjectId}
use Rattle.due_model.specs.declared.event.DowntimeChange.TheVariants.{Start, End, Cancelled}
use Rattle.due_model.specs.declared.event.Event.{Event}
use Rattle.due_model.specs.declared.event.EventKind.{EventKind}
use Rattle.due_model.specs.declared.event.EventKind.TheVariants.{Clock, Program, Hard, Downtime, Flapping, Ack, AckRemoved, OwnSwitch}
use Rattle.due_model.specs.declared.state.State.TheVariants.{Up, Down, Unreachable, Fine, Warning, Unknown, Critical}
use Rattle.text_lines.specs.LineReader.{line_limit}
use Rattle.event_feed.specs.declared.fault.FeedFault.{FeedFault}
use Rattle.event_feed.specs.declared.fault.FeedFault.TheVariants.{BadStamp, UnknownKind, UnknownObject, BadState, LineTooLong, NotUtf8}
use Rattle.event_feed.specs.declared.line.Command.{Command}
use Rattle.event_feed.specs.declared.line.Command.TheVariants.{TellTime, Switch, Tell}
use Rattle.event_feed.specs.declared.line.Subject.{Subject}
use Rattle.event_feed.specs.declared.line.Subject.TheVariants.{Host, Service}
use Rattle.event_feed.specs.declared.line.Words.{Words}
use Rattle.event_feed.specs.declared.line.Words.TheVariants.{States, Downtimes, Flaps, Acks, Switches}

abbrev pub begins_with : List ℕ → List ℕ → Bool
begins_with bytes front = bytes_eq (take (length front) bytes) front

-- ---- the stamp: `[`, decimal digits, `]` and a blank

-- the digits that follow the first byte
abbrev pub stamp_digits : List ℕ → List ℕ
stamp_digits line = take_while is_ascii_digit (drop 1 line)

-- what follows those digits
abbrev pub after_digits : List ℕ → List ℕ
after_digits line = drop (length (stamp_digits line)) (drop 1 line)

abbrev pub is_stamp_shaped : List ℕ → Bool
is_stamp_shaped line =
    begins_with line (codes "[") && begins_with (after_digits line) (codes "] ")
    && nat_lt 0 (length (stamp_digits line))

-- the number that the digits write; leading zeros are allowed
abbrev pub digits_number : List ℕ → ℕ
digits_number digits = number_from_digits 10 (map (λ digit. digit - 48) digits)

-- the stamp, in seconds since the epoch, where the line begins with one that is in range
abbrev pub stamp_of : List ℕ → Option ℕ
stamp_of line =
    if is_stamp_shaped line && nat_le (digits_number (stamp_digits line)) last_moment
    then Some (digits_number (stamp_digits line)) else None

-- ---- the command: a name, and its arguments, each after a `;`

abbrev pub command_of : List ℕ → List ℕ
command_of line = drop 2 (after_digits line)

-- the parts between the `;`: the name, then the arguments
abbrev pub fields : List ℕ → List (List ℕ)
fields command = slice_split (λ byte. byte == 59) command

-- the commands, one after another: the name, what it says, and of which sort of object
abbrev pub command_named : List ℕ → Option Command
command_named name =
    if bytes_eq name (codes "CLOCK") then Some TellTime
    else if bytes_eq name (codes "ENABLE_NOTIFICATIONS") then Some (Switch true)
    else if bytes_eq name (codes "DISABLE_NOTIFICATIONS") then Some (Switch false)
    else if bytes_eq name (codes "HOST_STATE") then Some (Tell States Host)
    else if bytes_eq name (codes "SERVICE_STATE") then Some (Tell States Service)
    else if bytes_eq name (codes "HOST_DOWNTIME") then Some (Tell Downtimes Host)
    else if bytes_eq name (codes "SERVICE_DOWNTIME") then Some (Tell Downtimes Service)
    else if bytes_eq name (codes "HOST_FLAPPING") then Some (Tell Flaps Host)
    else if bytes_eq name (codes "SERVICE_FLAPPING") then Some (Tell Flaps Service)
    else if bytes_eq name (codes "HOST_ACK") then Some (Tell Acks Host)
    else if bytes_eq name (codes "SERVICE_ACK") then Some (Tell Acks Service)
    else if bytes_eq name (codes "HOST_NOTIFICATIONS") then Some (Tell Switches Host)
    else if bytes_eq name (codes "SERVICE_NOTIFICATIONS") then Some (Tell Switches Service)
    else None

-- ---- the words

-- the hard states of a host (chapter "State Types")
abbrev pub host_state_said : ObjectId → List ℕ → Option EventKind
host_state_said object word =
    if bytes_eq word (codes "UP") then Some (Hard object Up)
    else if bytes_eq word (codes "DOWN") then Some (Hard object Down)
    else if bytes_eq word (codes "UNREACHABLE") then Some (Hard object Unreachable)
    else None

-- those of a service
abbrev pub service_state_said : ObjectId → List ℕ → Option EventKind
service_state_said object word =
    if bytes_eq word (codes "OK") then Some (Hard object Fine)
    else if bytes_eq word (codes "WARNING") then Some (Hard object Warning)
    else if bytes_eq word (codes "UNKNOWN") then Some (Hard object Unknown)
    else if bytes_eq word (codes "CRITICAL") then Some (Hard object Critical)
    else None

-- what happens to a downtime (chapter "Scheduled Downtime")
abbrev pub downtime_said : ObjectId → List ℕ → Option EventKind
downtime_said object word =
    if bytes_eq word (codes "START") then Some (Downtime object Start)
    else if bytes_eq word (codes "END") then Some (Downtime object End)
    else if bytes_eq word (codes "CANCELLED") then Some (Downtime object Cancelled)
    else None

-- that flapping starts or stops (chapter "State Flapping")
abbrev pub flapping_said : ObjectId → List ℕ → Option EventKind
flapping_said object word =
    if bytes_eq word (codes "START") then Some (Flapping object true)
    else if bytes_eq word (codes "STOP") then Some (Flapping object false)
    else None

-- that the problem is acknowledged, and how long that lasts, where contacts are to be notified of it or not (chapter
-- "External Commands")
abbrev pub ack_given : ObjectId → (notify : Bool) → List ℕ → Option EventKind
ack_given object notify word =
    if bytes_eq word (codes "STICKY") then Some (Ack object (record { sticky = true; notify = notify }))
    else if bytes_eq word (codes "NORMAL") then Some (Ack object (record { sticky = false; notify = notify }))
    else None

-- that it is acknowledged, or isn't any more
abbrev pub ack_said : ObjectId → List ℕ → Option EventKind
ack_said object word =
    if bytes_eq word (codes "NONE") then Some (AckRemoved object) else ack_given object false word

-- that it is acknowledged, and that contacts are to be notified of that
abbrev pub told_ack_said : ObjectId → (word more : List ℕ) → Option EventKind
told_ack_said object word more =
    if bytes_eq more (codes "NOTIFY") then ack_given object true word else None

-- that the object's notifications are switched on or off (chapter "External Commands")
abbrev pub own_switch_said : ObjectId → List ℕ → Option EventKind
own_switch_said object word =
    if bytes_eq word (codes "ON") then Some (OwnSwitch object true)
    else if bytes_eq word (codes "OFF") then Some (OwnSwitch object false)
    else None

-- what a word says of such an object
abbrev pub said : Words → Subject → ObjectId → List ℕ → Option EventKind
said States Host object word = host_state_said object word
said States Service object word = service_state_said object word
said Downtimes subject object word = downtime_said object word
said Flaps subject object word = flapping_said object word
said Acks subject object word = ack_said object word
said Switches subject object word = own_switch_said object word

-- what another word says behind it
abbrev pub said_more : Words → ObjectId → (word more : List ℕ) → Option EventKind
said_more States object word more = None
said_more Downtimes object word more = None
said_more Flaps object word more = None
said_more Acks object word more = told_ack_said object word more
said_more Switches object word more = None

-- whether this word may stand there: behind an acknowledgement's alone
abbrev pub takes_more : Words → (more : List ℕ) → Bool
takes_more States more = false
takes_more Downtimes more = false
takes_more Flaps more = false
takes_more Acks more = bytes_eq more (codes "NOTIFY")
takes_more Switches more = false

-- what all words say of such an object
abbrev pub all_said : Words → Subject → ObjectId → List (List ℕ) → Option EventKind
all_said words subject object [] = None
all_said words subject object (word ∷ []) = said words subject object word
all_said words subject object (word ∷ more ∷ []) = said_more words object word more
all_said words subject object (word ∷ more ∷ another ∷ others) = None

-- ---- the arguments

-- words about an object: first the object must be known, then the words
abbrev pub said_reading : Words → Subject → Option ObjectId → List (List ℕ) → Result EventKind FeedFault
said_reading words subject None arguments = Err UnknownObject
said_reading words subject (Some object) arguments = ok_or (all_said words subject object arguments) BadState

-- whether so many words may follow the name of an object: one, and `NOTIFY` behind that of an acknowledgement
abbrev pub are_so_many : Words → List (List ℕ) → Bool
are_so_many words [] = false
are_so_many words (word ∷ []) = true
are_so_many words (word ∷ more ∷ []) = takes_more words more
are_so_many words (word ∷ more ∷ another ∷ others) = false

-- what follows the name of an object: words, and nothing more
abbrev pub last_reading : List Object → Words → Subject → (host : List ℕ)
    → (service : Option (List ℕ)) → List (List ℕ) → Result EventKind FeedFault
last_reading objects words subject host service arguments =
    if are_so_many words arguments
    then said_reading words subject (object_named objects host service) arguments
    else Err BadState

-- what follows the name of a service's host: the service's description, and then a word
abbrev pub service_reading : List Object → Words → (host : List ℕ) → List (List ℕ)
    → Result EventKind FeedFault
service_reading objects words host [] = Err BadState
service_reading objects words host (service ∷ arguments) =
    last_reading objects words Service host (Some service) arguments

-- the arguments of a command about an object: the name of a host, and what follows it
abbrev pub object_reading : List Object → Words → Subject → List (List ℕ)
    → Result EventKind FeedFault
object_reading objects words subject [] = Err BadState
object_reading objects words Host (host ∷ arguments) =
    last_reading objects words Host host None arguments
object_reading objects words Service (host ∷ arguments) =
    service_reading objects words host arguments

-- a command that takes no arguments
abbrev pub bare_reading : EventKind → List (List ℕ) → Result EventKind FeedFault
bare_reading kind [] = Ok kind
bare_reading kind (argument ∷ arguments) = Err BadState

-- what a command says with these arguments
abbrev pub arguments_reading : List Object → Option Command → List (List ℕ)
    → Result EventKind FeedFault
arguments_reading objects None arguments = Err UnknownKind
arguments_reading objects (Some TellTime) arguments = bare_reading Clock arguments
arguments_reading objects (Some (Switch on)) arguments = bare_reading (Program on) arguments
arguments_reading objects (Some (Tell words subject)) arguments =
    object_reading objects words subject arguments

abbrev pub command_reading : List Object → List (List ℕ) → Result EventKind FeedFault
command_reading objects [] = Err UnknownKind
command_reading objects (name ∷ arguments) =
    arguments_reading objects (command_named name) arguments

-- ---- the line

abbrev pub stamped : ℕ → Result EventKind FeedFault → Result Event FeedFault
stamped moment (Ok kind) = Ok (record { moment = moment; kind = kind })
stamped moment (Err fault) = Err fault

abbrev pub stamp_reading : List Object → Option ℕ → List ℕ → Result Event FeedFault
stamp_reading objects None command = Err BadStamp
stamp_reading objects (Some moment) command =
    stamped moment (command_reading objects (fields command))

-- the event that a line says, or the first reason why it says none
abbrev pub line_reading : List Object → List ℕ → Result Event FeedFault
line_reading objects line =
    if nat_lt line_limit (length line) then Err LineTooLong
    else if not (is_utf8 line) then Err NotUtf8
    else stamp_reading objects (stamp_of line) (command_of line)
