-- What a line gives that is read: a proper event, or a fault that the feed goes on after.
use Rattle.std.proofs.Common.{◌≡◌, ℕ, ◌<◌, ◌≤◌, Bool, true, false, not, cond, ◌&&◌, leb, ltb, List, [], ◌∷◌, length, get_or, Option, Some, None, Result, Ok, Err, refl, subst, ⊎_elim, arith}
use Rattle.std.specs.Prelude.{slice_get, is_some, codes}
use Rattle.std.specs.Option.{option_map, ok_or}
use Rattle.std.specs.List.{position, position_or_len}
use Rattle.std.specs.Str.{bytes_eq, is_utf8}
use Rattle.std.proofs.lemmas.Bool.{and_parts, cond_both, leb-true, ltb-true, false≢true}
use Rattle.std.proofs.lemmas.Option.{cond_some, slice_get_cases, slice_get_within}
use Rattle.std.proofs.lemmas.List.Quantifiers.{position-Some}
use Rattle.due_model.specs.claims.Proper.{KindIsProper, is_state_of}
use Rattle.due_model.specs.claims.Limits.{last_moment}
use Rattle.due_model.specs.claims.Objects.{object_id, is_called, is_named, object_named}
use Rattle.due_model.specs.declared.config.Config.{Config}
use Rattle.due_model.specs.declared.config.Object.{Object}
use Rattle.due_model.specs.declared.config.ObjectId.{ObjectId}
use Rattle.due_model.specs.declared.event.DowntimeChange.TheVariants.{Start, End, Cancelled}
use Rattle.due_model.specs.declared.event.Event.{Event}
use Rattle.due_model.specs.declared.event.EventKind.{EventKind}
use Rattle.due_model.specs.declared.event.EventKind.TheVariants.{Clock, Program, Hard, Downtime, Flapping, Ack, AckRemoved, OwnSwitch}
use Rattle.due_model.specs.declared.state.State.{State}
use Rattle.due_model.specs.declared.state.State.TheVariants.{Up, Down, Unreachable, Fine, Warning, Unknown, Critical}
use Rattle.text_lines.specs.LineReader.{line_limit}
use Rattle.event_feed.specs.declared.fault.FeedFault.{FeedFault}
use Rattle.event_feed.specs.declared.fault.FeedFault.TheVariants.{BadState, LineTooLong, NotUtf8}
use Rattle.event_feed.specs.declared.line.Command.{Command}
use Rattle.event_feed.specs.declared.line.Command.TheVariants.{TellTime, Switch, Tell}
use Rattle.event_feed.specs.declared.line.Subject.{Subject}
use Rattle.event_feed.specs.declared.line.Subject.TheVariants.{Host, Service}
use Rattle.event_feed.specs.declared.line.Words.{Words}
use Rattle.event_feed.specs.declared.line.Words.TheVariants.{States, Downtimes, Flaps, Acks, Switches}
use Rattle.event_feed.specs.claims.Fault.{is_line_fault}
use Rattle.event_feed.specs.claims.Line.{stamp_of, digits_number, stamp_digits, is_stamp_shaped, command_of, fields, command_named, host_state_said, service_state_said, downtime_said, flapping_said, ack_given, ack_said, told_ack_said, own_switch_said, said, said_more, all_said, are_so_many, said_reading, last_reading, object_reading, bare_reading, arguments_reading, command_reading, stamped, stamp_reading, line_reading}

-- ---- the object

-- there is an object of this number, and it is a service or is none
pub record IsAt (objects : List Object) (service : Bool) (id : ObjectId) : Type 0 where
  pub object : Object
  pub at : slice_get objects id.0 ≡ Some object
  pub sort : is_some object.host ≡ service

-- the same of the object that is found, if one is
abbrev IsFound : List Object → Bool → Option ObjectId → Type 0
IsFound objects service None = Unit {0}
IsFound objects service (Some id) = IsAt objects service id

-- an object is a service just where the name has a description
called-sort : (objects : List Object) (host : List ℕ) (service : Option (List ℕ)) (owner : Option ObjectId) (name : List ℕ) → is_called objects host service owner name ≡ true → is_some owner ≡ is_some service
called-sort objects host None None name called = refl
called-sort objects host None (Some id) name called = absurd (false≢true called)
called-sort objects host (Some service) None name called = absurd (false≢true called)
called-sort objects host (Some service) (Some id) name called = refl

place_found : (objects : List Object) (host : List ℕ) (service : Option (List ℕ)) (place : ℕ) → position (is_named objects host service) objects ≡ Some place → IsAt objects (is_some service) (object_id place)
place_found objects host service place found =
    ⊎_elim
    (λ (here : (x : Object) × (place < length objects) × (slice_get objects place ≡ Some x) × (get_or objects place x ≡ x)).
    let first = position-Some (is_named objects host service) objects place here.0 found in
    let named : is_named objects host service here.0 ≡ true = subst (λ (o : Object). is_named objects host service o ≡ true) here.3 first.1 in
    record { object = here.0; at = here.2; sort = called-sort objects host service here.0.host here.0.name named })
    (λ (past_end : (length objects ≤ place) × (slice_get objects place ≡ None)).
    let parts = cond_some (ltb (position_or_len (is_named objects host service) objects) (length objects)) (position_or_len (is_named objects host service) objects) place found in
    absurd (omega (arith, ltb-true _ _ parts.0, parts.1, past_end.0)))
    (slice_get_cases objects place).1

named_found : (objects : List Object) (host : List ℕ) (service : Option (List ℕ)) → IsFound objects (is_some service) (object_named objects host service)
named_found objects host service =
    elim (position (is_named objects host service) objects) as (λ (p : Option ℕ). position (is_named objects host service) objects ≡ p → IsFound objects (is_some service) (option_map object_id p)) [
      | None ↦ λ at. tt
      | Some place ↦ λ at. place_found objects host service place at
    ] refl

-- ---- the words

-- what is said, if anything, is proper
abbrev SaysProper : Config → Option EventKind → Type 0
SaysProper c None = Unit {0}
SaysProper c (Some kind) = KindIsProper c kind

or_else : (c : Config) (b : Bool) (kind : EventKind) (rest : Option EventKind) → KindIsProper c kind → SaysProper c rest → SaysProper c (cond b (Some kind) rest)
or_else c true kind rest here others = here
or_else c false kind rest here others = others

hard-proper : (c : Config) (service : Bool) (id : ObjectId) (state : State) → IsAt c.objects service id → is_state_of service state ≡ true → KindIsProper c (Hard id state)
hard-proper c service id state at fits =
    let is : is_state_of (is_some at.object.host) state ≡ true = rw at.sort fits in
    (at.object, at.at, is)

host_state-proper : (c : Config) (id : ObjectId) (word : List ℕ) → IsAt c.objects false id → SaysProper c (host_state_said id word)
host_state-proper c id word at =
    or_else c (bytes_eq word (codes "UP")) (Hard id Up) _ (hard-proper c false id Up at refl)
    (or_else c (bytes_eq word (codes "DOWN")) (Hard id Down) _ (hard-proper c false id Down at refl)
    (or_else c (bytes_eq word (codes "UNREACHABLE")) (Hard id Unreachable) None (hard-proper c false id Unreachable at refl) tt))

service_state-proper : (c : Config) (id : ObjectId) (word : List ℕ) → IsAt c.objects true id → SaysProper c (service_state_said id word)
service_state-proper c id word at =
    or_else c (bytes_eq word (codes "OK")) (Hard id Fine) _ (hard-proper c true id Fine at refl)
    (or_else c (bytes_eq word (codes "WARNING")) (Hard id Warning) _ (hard-proper c true id Warning at refl)
    (or_else c (bytes_eq word (codes "UNKNOWN")) (Hard id Unknown) _ (hard-proper c true id Unknown at refl)
    (or_else c (bytes_eq word (codes "CRITICAL")) (Hard id Critical) None (hard-proper c true id Critical at refl) tt)))

downtime-proper : (c : Config) (id : ObjectId) (word : List ℕ) → id.0 < length c.objects → SaysProper c (downtime_said id word)
downtime-proper c id word there =
    or_else c (bytes_eq word (codes "START")) (Downtime id Start) _ there
    (or_else c (bytes_eq word (codes "END")) (Downtime id End) _ there
    (or_else c (bytes_eq word (codes "CANCELLED")) (Downtime id Cancelled) None there tt))

flapping-proper : (c : Config) (id : ObjectId) (word : List ℕ) → id.0 < length c.objects → SaysProper c (flapping_said id word)
flapping-proper c id word there =
    or_else c (bytes_eq word (codes "START")) (Flapping id true) _ there
    (or_else c (bytes_eq word (codes "STOP")) (Flapping id false) None there tt)

given_ack-proper : (c : Config) (id : ObjectId) (notify : Bool) (word : List ℕ) → id.0 < length c.objects → SaysProper c (ack_given id notify word)
given_ack-proper c id notify word there =
    or_else c (bytes_eq word (codes "STICKY")) (Ack id (record { sticky = true; notify = notify })) _ there
    (or_else c (bytes_eq word (codes "NORMAL")) (Ack id (record { sticky = false; notify = notify })) None there tt)

ack-proper : (c : Config) (id : ObjectId) (word : List ℕ) → id.0 < length c.objects → SaysProper c (ack_said id word)
ack-proper c id word there =
    or_else c (bytes_eq word (codes "NONE")) (AckRemoved id) _ there (given_ack-proper c id false word there)

told_ack-proper : (c : Config) (id : ObjectId) (word more : List ℕ) → id.0 < length c.objects → SaysProper c (told_ack_said id word more)
told_ack-proper c id word more there =
    cond_both (bytes_eq more (codes "NOTIFY")) (ack_given id true word) None (SaysProper c) (λ _. given_ack-proper c id true word there) (λ _. tt)

own_switch-proper : (c : Config) (id : ObjectId) (word : List ℕ) → id.0 < length c.objects → SaysProper c (own_switch_said id word)
own_switch-proper c id word there =
    or_else c (bytes_eq word (codes "ON")) (OwnSwitch id true) _ there
    (or_else c (bytes_eq word (codes "OFF")) (OwnSwitch id false) None there tt)

-- whether such objects are services
abbrev is_service : Subject → Bool
is_service Host = false
is_service Service = true

said-proper : (c : Config) (words : Words) (subject : Subject) (id : ObjectId) (word : List ℕ) → IsAt c.objects (is_service subject) id → SaysProper c (said words subject id word)
said-proper c States Host id word at = host_state-proper c id word at
said-proper c States Service id word at = service_state-proper c id word at
said-proper c Downtimes subject id word at = downtime-proper c id word (slice_get_within c.objects id.0 at.object at.at)
said-proper c Flaps subject id word at = flapping-proper c id word (slice_get_within c.objects id.0 at.object at.at)
said-proper c Acks subject id word at = ack-proper c id word (slice_get_within c.objects id.0 at.object at.at)
said-proper c Switches subject id word at = own_switch-proper c id word (slice_get_within c.objects id.0 at.object at.at)

more-proper : (c : Config) (words : Words) (service : Bool) (id : ObjectId) (word more : List ℕ) → IsAt c.objects service id → SaysProper c (said_more words id word more)
more-proper c States service id word more at = tt
more-proper c Downtimes service id word more at = tt
more-proper c Flaps service id word more at = tt
more-proper c Acks service id word more at = told_ack-proper c id word more (slice_get_within c.objects id.0 at.object at.at)
more-proper c Switches service id word more at = tt

all-proper : (c : Config) (words : Words) (subject : Subject) (id : ObjectId) (parts : List (List ℕ)) → IsAt c.objects (is_service subject) id → SaysProper c (all_said words subject id parts)
all-proper c words subject id [] at = tt
all-proper c words subject id (word ∷ []) at = said-proper c words subject id word at
all-proper c words subject id (word ∷ more ∷ []) at = more-proper c words (is_service subject) id word more at
all-proper c words subject id (word ∷ more ∷ another ∷ others) at = tt

-- ---- the command and the line

-- a proper kind, or a fault of a line
abbrev pub Gives : Config → Result EventKind FeedFault → Type 0
Gives c (Ok kind) = KindIsProper c kind
Gives c (Err fault) = is_line_fault fault ≡ true

ok_or-gives : (c : Config) (kind : Option EventKind) → SaysProper c kind → Gives c (ok_or kind BadState)
ok_or-gives c None proper = refl
ok_or-gives c (Some kind) proper = proper

said-gives : (c : Config) (words : Words) (subject : Subject) (object : Option ObjectId) (parts : List (List ℕ)) → IsFound c.objects (is_service subject) object → Gives c (said_reading words subject object parts)
said-gives c words subject None parts found = refl
said-gives c words subject (Some id) parts found = ok_or-gives c (all_said words subject id parts) (all-proper c words subject id parts found)

last-gives : (c : Config) (words : Words) (subject : Subject) (host : List ℕ) (service : Option (List ℕ)) (arguments : List (List ℕ)) → is_some service ≡ is_service subject → Gives c (last_reading c.objects words subject host service arguments)
last-gives c words subject host service arguments same =
    cond_both (are_so_many words arguments) (said_reading words subject (object_named c.objects host service) arguments) (Err BadState) (Gives c)
    (λ _. said-gives c words subject (object_named c.objects host service) arguments (subst (λ (b : Bool). IsFound c.objects b (object_named c.objects host service)) same (named_found c.objects host service)))
    (λ _. refl)

object-gives : (c : Config) (words : Words) (subject : Subject) (arguments : List (List ℕ)) → Gives c (object_reading c.objects words subject arguments)
object-gives c words subject [] = refl
object-gives c words Host (host ∷ arguments) = last-gives c words Host host None arguments refl
object-gives c words Service (host ∷ []) = refl
object-gives c words Service (host ∷ service ∷ arguments) = last-gives c words Service host (Some service) arguments refl

bare-gives : (c : Config) (kind : EventKind) (arguments : List (List ℕ)) → KindIsProper c kind → Gives c (bare_reading kind arguments)
bare-gives c kind [] proper = proper
bare-gives c kind (argument ∷ arguments) proper = refl

arguments-gives : (c : Config) (command : Option Command) (arguments : List (List ℕ)) → Gives c (arguments_reading c.objects command arguments)
arguments-gives c None arguments = refl
arguments-gives c (Some TellTime) arguments = bare-gives c Clock arguments tt
arguments-gives c (Some (Switch on)) arguments = bare-gives c (Program on) arguments tt
arguments-gives c (Some (Tell words subject)) arguments = object-gives c words subject arguments

command-gives : (c : Config) (parts : List (List ℕ)) → Gives c (command_reading c.objects parts)
command-gives c [] = refl
command-gives c (name ∷ arguments) = arguments-gives c (command_named name) arguments

pub command-proper : (c : Config) (parts : List (List ℕ)) (given : EventKind) → command_reading c.objects parts ≡ Ok given → KindIsProper c given
command-proper c parts given is = subst (Gives c) is (command-gives c parts)

pub stamp_of-early : (line : List ℕ) (moment : ℕ) → stamp_of line ≡ Some moment → moment ≤ last_moment
stamp_of-early line moment is =
    let parts = cond_some (is_stamp_shaped line && leb (digits_number (stamp_digits line)) last_moment) (digits_number (stamp_digits line)) moment is in
    let within : digits_number (stamp_digits line) ≤ last_moment = leb-true _ _ (and_parts _ _ parts.0).1 in
    omega (arith, within, parts.1)

-- a fault of a line, if it is one
abbrev FaultsFit : {A : Type 0} → Result A FeedFault → Type 0
FaultsFit (Ok x) = Unit {0}
FaultsFit (Err fault) = is_line_fault fault ≡ true

stamped-fits : (c : Config) (moment : ℕ) (read : Result EventKind FeedFault) → Gives c read → FaultsFit (stamped moment read)
stamped-fits c moment (Ok kind) gives = tt
stamped-fits c moment (Err fault) gives = gives

stamp-fits : (c : Config) (stamp : Option ℕ) (command : List ℕ) → FaultsFit (stamp_reading c.objects stamp command)
stamp-fits c None command = refl
stamp-fits c (Some moment) command = stamped-fits c moment (command_reading c.objects (fields command)) (command-gives c (fields command))

early-fits : (b : Bool) (fault : FeedFault) (rest : Result Event FeedFault) → is_line_fault fault ≡ true → FaultsFit rest → FaultsFit (cond b (Err fault) rest)
early-fits true fault rest here others = here
early-fits false fault rest here others = others

line-fits : (c : Config) (line : List ℕ) → FaultsFit (line_reading c.objects line)
line-fits c line =
    early-fits (ltb line_limit (length line)) LineTooLong _ refl
    (early-fits (not (is_utf8 line)) NotUtf8 _ refl (stamp-fits c (stamp_of line) (command_of line)))

pub line_reading-fault : (c : Config) (line : List ℕ) (fault : FeedFault) → line_reading c.objects line ≡ Err fault → is_line_fault fault ≡ true
line_reading-fault c line fault is = subst (λ (read : Result Event FeedFault). FaultsFit read) is (line-fits c line)
