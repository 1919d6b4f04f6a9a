-- The faults of a line that is read: none of them ends the feed, and a line is too long for each configuration or for none.
use Rattle.std.proofs.Common.{◌≡◌, ℕ, true, false, not, cond, codes, ltb, List, [], ◌∷◌, length, Option, None, Some, Bool, Result, Ok, Err, refl, sym, ap, subst}
use Rattle.std.specs.Option.{ok_or}
use Rattle.std.specs.Str.{bytes_eq, is_utf8}
use Rattle.std.proofs.lemmas.Bool.{cond_both, true≢false}
use Rattle.due_model.specs.claims.Objects.{object_named}
use Rattle.due_model.specs.declared.config.Object.{Object}
use Rattle.due_model.specs.declared.config.ObjectId.{ObjectId}
use Rattle.due_model.specs.declared.event.Event.{Event}
use Rattle.due_model.specs.declared.event.EventKind.{EventKind}
use Rattle.due_model.specs.declared.event.EventKind.TheVariants.{Clock, Program}
use Rattle.event_feed.specs.declared.fault.FeedFault.{FeedFault}
use Rattle.event_feed.specs.declared.fault.FeedFault.TheVariants.{BadStamp, UnknownKind, UnknownObject, BadState, LineTooLong, NotUtf8, Ahead, Cut, Read, NoMemory, Ended}
use Rattle.event_feed.specs.claims.Feed.{ends_feed, raised, text_reading}
use Rattle.event_feed.specs.claims.Line.{arguments_reading, bare_reading, command_named, command_of, command_reading, fields, last_reading, line_reading, all_said, are_so_many, said_reading, stamp_of, stamp_reading, stamped}
use Rattle.text_lines.specs.LineReader.{line_limit}

-- whether a fault is of what a line says
abbrev says : FeedFault → Bool
says BadStamp = true
says UnknownKind = true
says UnknownObject = true
says BadState = true
says LineTooLong = false
says NotUtf8 = true
says Ahead = false
says Cut = false
says Read = false
says NoMemory = false
says Ended = false

-- a fault, if it is one, is of what a line says
abbrev Says : {A : Type 0} → Result A FeedFault → Type 0
Says (Ok x) = Unit {0}
Says (Err fault) = says fault ≡ true

ok_or-says : (kind : Option EventKind) → Says (ok_or kind BadState)
ok_or-says None = refl
ok_or-says (Some kind) = tt

-- The words, the subjects and the commands of a feed have no names here: their types are those of what readings take.
abbrev First : {A B : Type 0} → (A → B) → Type 0
First {A} f = A

abbrev Second : {A B C : Type 0} → (A → B → C) → Type 0
Second {A} {B} f = B

said-says : (words : First said_reading) (subject : Second said_reading) (object : Option ObjectId) (parts : List (List ℕ)) → Says (said_reading words subject object parts)
said-says words subject None parts = refl
said-says words subject (Some id) parts = ok_or-says (all_said words subject id parts)

last-says : (objects : List Object) (words : First said_reading) (subject : Second said_reading) (host : List ℕ) (service : Option (List ℕ)) (arguments : List (List ℕ)) → Says (last_reading objects words subject host service arguments)
last-says objects words subject host service arguments =
    cond_both (are_so_many words arguments) (said_reading words subject (object_named objects host service) arguments) (Err BadState) Says
    (λ _. said-says words subject (object_named objects host service) arguments) (λ _. refl)

-- what is read of arguments, by their first
by_first : (f : List (List ℕ) → Result EventKind FeedFault) → Says (f []) → ((argument : List ℕ) (more : List (List ℕ)) → Says (f (argument ∷ more))) → (arguments : List (List ℕ)) → Says (f arguments)
by_first f none some [] = none
by_first f none some (argument ∷ more) = some argument more

-- what the command of this name reads of its arguments, and after the host
host-says : (objects : List Object) (name : List ℕ) → Says (arguments_reading objects (command_named name) [])
    → ((host : List ℕ) (more : List (List ℕ)) → Says (arguments_reading objects (command_named name) (host ∷ more))) → (arguments : List (List ℕ)) → Says (arguments_reading objects (command_named name) arguments)
host-says objects name none some arguments = by_first (λ more. arguments_reading objects (command_named name) more) none some arguments

service-says : (objects : List Object) (name host : List ℕ) → Says (arguments_reading objects (command_named name) (host ∷ []))
    → ((service : List ℕ) (more : List (List ℕ)) → Says (arguments_reading objects (command_named name) (host ∷ service ∷ more)))
    → (arguments : List (List ℕ)) → Says (arguments_reading objects (command_named name) (host ∷ arguments))
service-says objects name host none some arguments = by_first (λ more. arguments_reading objects (command_named name) (host ∷ more)) none some arguments

bare-says : (kind : EventKind) (arguments : List (List ℕ)) → Says (bare_reading kind arguments)
bare-says kind [] = tt
bare-says kind (argument ∷ arguments) = refl

-- one of two commands
either_says : (objects : List Object) (arguments : List (List ℕ)) (b : Bool) (x y : Second arguments_reading) → Says (arguments_reading objects x arguments) → Says (arguments_reading objects y arguments)
    → Says (arguments_reading objects (cond b x y) arguments)
either_says objects arguments true x y h k = h
either_says objects arguments false x y h k = k

arguments-says : (objects : List Object) (name : List ℕ) (arguments : List (List ℕ)) → Says (arguments_reading objects (command_named name) arguments)
arguments-says objects name arguments =
    either_says objects arguments (bytes_eq name (codes "CLOCK")) _ _ (bare-says Clock arguments)
    (either_says objects arguments (bytes_eq name (codes "ENABLE_NOTIFICATIONS")) _ _ (bare-says (Program true) arguments)
    (either_says objects arguments (bytes_eq name (codes "DISABLE_NOTIFICATIONS")) _ _ (bare-says (Program false) arguments)
    (either_says objects arguments (bytes_eq name (codes "HOST_STATE")) _ _ (host-says objects (codes "HOST_STATE") refl (λ host more. search (last-says)) arguments)
    (either_says objects arguments (bytes_eq name (codes "SERVICE_STATE")) _ _ (host-says objects (codes "SERVICE_STATE") refl (λ host more. service-says objects (codes "SERVICE_STATE") host refl (λ service rest. search (last-says)) more) arguments)
    (either_says objects arguments (bytes_eq name (codes "HOST_DOWNTIME")) _ _ (host-says objects (codes "HOST_DOWNTIME") refl (λ host more. search (last-says)) arguments)
    (either_says objects arguments (bytes_eq name (codes "SERVICE_DOWNTIME")) _ _ (host-says objects (codes "SERVICE_DOWNTIME") refl (λ host more. service-says objects (codes "SERVICE_DOWNTIME") host refl (λ service rest. search (last-says)) more) arguments)
    (either_says objects arguments (bytes_eq name (codes "HOST_FLAPPING")) _ _ (host-says objects (codes "HOST_FLAPPING") refl (λ host more. search (last-says)) arguments)
    (either_says objects arguments (bytes_eq name (codes "SERVICE_FLAPPING")) _ _ (host-says objects (codes "SERVICE_FLAPPING") refl (λ host more. service-says objects (codes "SERVICE_FLAPPING") host refl (λ service rest. search (last-says)) more) arguments)
    (either_says objects arguments (bytes_eq name (codes "HOST_ACK")) _ _ (host-says objects (codes "HOST_ACK") refl (λ host more. search (last-says)) arguments)
    (either_says objects arguments (bytes_eq name (codes "SERVICE_ACK")) _ _ (host-says objects (codes "SERVICE_ACK") refl (λ host more. service-says objects (codes "SERVICE_ACK") host refl (λ service rest. search (last-says)) more) arguments)
    (either_says objects arguments (bytes_eq name (codes "HOST_NOTIFICATIONS")) _ _ (host-says objects (codes "HOST_NOTIFICATIONS") refl (λ host more. search (last-says)) arguments)
    (either_says objects arguments (bytes_eq name (codes "SERVICE_NOTIFICATIONS")) _ _ (host-says objects (codes "SERVICE_NOTIFICATIONS") refl (λ host more. service-says objects (codes "SERVICE_NOTIFICATIONS") host refl (λ service rest. search (last-says)) more) arguments)
    refl))))))))))))

command-says : (objects : List Object) (parts : List (List ℕ)) → Says (command_reading objects parts)
command-says objects [] = refl
command-says objects (name ∷ arguments) = arguments-says objects name arguments

stamped-says : (moment : ℕ) (read : Result EventKind FeedFault) → Says read → Says (stamped moment read)
stamped-says moment (Ok kind) h = tt
stamped-says moment (Err fault) h = h

stamp-says : (objects : List Object) (stamp : Option ℕ) (command : List ℕ) → Says (stamp_reading objects stamp command)
stamp-says objects None command = refl
stamp-says objects (Some moment) command = stamped-says moment (command_reading objects (fields command)) (command-says objects (fields command))

-- ---- of the whole line

-- what stands after the length of a line was looked at
said-so : (b : Bool) (rest : Result Event FeedFault) → Says rest → Says (cond b (Err NotUtf8) rest)
said-so true rest h = refl
said-so false rest h = h

rest-says : (objects : List Object) (line : List ℕ) → Says (cond (not (is_utf8 line)) (Err NotUtf8) (stamp_reading objects (stamp_of line) (command_of line)))
rest-says objects line = said-so (not (is_utf8 line)) (stamp_reading objects (stamp_of line) (command_of line)) (stamp-says objects (stamp_of line) (command_of line))

says-goes_on : (fault : FeedFault) → says fault ≡ true → ends_feed (Err fault) ≡ false
says-goes_on BadStamp h = refl
says-goes_on UnknownKind h = refl
says-goes_on UnknownObject h = refl
says-goes_on BadState h = refl
says-goes_on LineTooLong h = refl
says-goes_on NotUtf8 h = refl
says-goes_on Ahead h = refl
says-goes_on Cut h = absurd (true≢false (sym h))
says-goes_on Read h = absurd (true≢false (sym h))
says-goes_on NoMemory h = absurd (true≢false (sym h))
says-goes_on Ended h = absurd (true≢false (sym h))

raised-goes_on : (last : ℕ) (read : Result Event FeedFault) → Says read → ends_feed (raised last read) ≡ false
raised-goes_on last (Ok event) h = refl
raised-goes_on last (Err fault) h = says-goes_on fault h

line-goes_on : (b : Bool) (last : ℕ) (rest : Result Event FeedFault) → Says rest → ends_feed (raised last (cond b (Err LineTooLong) rest)) ≡ false
line-goes_on true last rest h = refl
line-goes_on false last rest h = raised-goes_on last rest h

-- the answer of a whole line ends no feed
pub reads_on : (objects : List Object) (last : ℕ) (text : List ℕ) → ends_feed (text_reading objects last text) ≡ false
reads_on objects last text = line-goes_on (ltb line_limit (length text)) last _ (rest-says objects text)

no_length : (rest : Result Event FeedFault) → Says rest → rest ≡ Err LineTooLong → ⊥
no_length rest h e = true≢false (sym (subst Says e h))

length-says : (b : Bool) (rest other : Result Event FeedFault) → Says rest → cond b (Err LineTooLong) rest ≡ Err LineTooLong → cond b (Err LineTooLong) other ≡ Err LineTooLong
length-says true rest other h e = refl
length-says false rest other h e = absurd (no_length rest h e)

-- a line that is too long for one configuration is for the other
pub long_for_each : (a b : List Object) (last : ℕ) (text : List ℕ) → line_reading a text ≡ Err LineTooLong → text_reading b last text ≡ Err LineTooLong
long_for_each a b last text e =
    ap (λ (r : Result Event FeedFault). raised last r) (length-says (ltb line_limit (length text)) _ _ (rest-says a text) e)
